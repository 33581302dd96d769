use Rattle.std.proofs.Common.{◌≡◌, ◌+◌, ◌∷◌, length, map, drop, ap, sym, refl, ◌∙◌, arith}
use Rattle.std.proofs.Math.ListN.{drop_of_length-le}
use Rattle.rl_bindings.proofs.Following.{behind_items, part_on, item_on, node_kept, split_kept}
use Rattle.rl_bindings.specs.Roles.{parts_ahead}
use Rattle.rl_bindings.proofs.QuietNodes.{passed, silent_quiet, silent_plain, node_passed}
use Rattle.rl_bindings.proofs.Steps.{drop_step}
use Rattle.rl_bindings.proofs.Walks.{node_is, node_maker, node_binder, node_user, node_plain, node_quiet, node_silent, text_walked, number_walked, flag_walked, absent_walked, left_less, left_none}
use Rattle.rl_syntax.specs.Sizes.{size, size_of}
use Rattle.rl_syntax.specs.Syntax.{Node, pieces_of, syntax}
use Rattle.rl_syntax.proofs.Layers.{syntax_text, syntax_number, syntax_flag, syntax_absent}
use Rattle.rl_bindings.proofs.walk.+walking.Goals as goal

pub push_node-returns-in_ok-push_back-in-Maker-clause-walked : goal.push_node-returns-in_ok-push_back-in-Maker-clause-walked
push_node-returns-in_ok-push_back-in-Maker-clause-walked t c =
    node_maker c.args.above (Node c.args.at.now c.args.word (pieces_of (map syntax c.args.parts.now))) c.args.names.now c.args.out.now.items c.args.at.now c.args.word c.args.parts.now c.split_parts.result.0.now c.split_parts.result.1.now
    c.role_of-role.result c.outside-outer.result c.below-inner.result c.push_parts.new.names c.push_front-in-Maker.new.names c.push_parts-in-Maker.new.names
    c.push_sign.new.out.items c.push_parts.new.out.items c.push_front-in-Maker.new.out.items c.push_parts-in-Maker.new.out.items c.push_back.new.out.items
    refl
    c.in-Maker.is c.role_of-role.ensures c.outside-outer.ensures c.below-inner.ensures c.split_parts.ensures.ahead c.split_parts.ensures.behind
    c.in_ok-push_sign-in-Maker.ensures c.in_ok-push_parts-in-Maker.ensures.walked c.in_ok-push_front-in-Maker.ensures c.in_ok-push_parts-in-Maker-2.ensures.walked c.in_ok-push_back-in-Maker.ensures

pub push_node-returns-in_ok-push_back-in-Maker-clause-kept : goal.push_node-returns-in_ok-push_back-in-Maker-clause-kept
push_node-returns-in_ok-push_back-in-Maker-clause-kept t c =
    node_kept (Node c.args.at.now c.args.word (pieces_of (map syntax c.args.parts.now))) c.args.at.now c.args.word c.args.parts.now c.args.context c.args.kept.now c.test_node.result c.push_parts-in-Maker.new.kept
    refl
    c.test_node.ensures
    (split_kept c.test_node.result c.push_parts.new.kept c.push_parts-in-Maker.new.kept c.args.context c.args.word (parts_ahead c.args.word) (length c.split_parts.result.0.now) c.args.parts.now c.split_parts.result.0.now c.split_parts.result.1.now
    c.split_parts.ensures.ahead c.split_parts.ensures.behind refl c.in_ok-push_parts-in-Maker.ensures.kept c.in_ok-push_parts-in-Maker-2.ensures.kept)

pub push_node-returns-in_ok-push_parts-in-Binder-clause-walked : goal.push_node-returns-in_ok-push_parts-in-Binder-clause-walked
push_node-returns-in_ok-push_parts-in-Binder-clause-walked t c =
    node_binder c.args.above (Node c.args.at.now c.args.word (pieces_of (map syntax c.args.parts.now))) c.args.names.now c.args.out.now.items c.args.at.now c.args.word (pieces_of (map syntax c.args.parts.now))
    refl
    c.role_of-role.result c.below-inner.result c.push_front-in-Binder.new.names c.push_parts-in-Binder.new.names c.push_front-in-Binder.new.out.items c.push_parts-in-Binder.new.out.items
    c.in-Binder.is c.role_of-role.ensures c.below-inner.ensures c.in_ok-push_front-in-Binder.ensures c.in_ok-push_parts-in-Binder.ensures.walked

pub push_node-returns-in_ok-push_parts-in-User-clause-walked : goal.push_node-returns-in_ok-push_parts-in-User-clause-walked
push_node-returns-in_ok-push_parts-in-User-clause-walked t c =
    node_user c.args.above (Node c.args.at.now c.args.word (pieces_of (map syntax c.args.parts.now))) c.args.names.now c.args.out.now.items c.args.at.now c.args.word (pieces_of (map syntax c.args.parts.now))
    refl
    c.role_of-role.result c.below-inner.result c.push_front-in-User.new.names c.push_parts-in-User.new.names c.push_front-in-User.new.out.items c.push_parts-in-User.new.out.items
    c.in-User.is c.role_of-role.ensures c.below-inner.ensures c.in_ok-push_front-in-User.ensures c.in_ok-push_parts-in-User.ensures.walked

pub push_node-returns-in_ok-push_parts-in-Plain-clause-walked : goal.push_node-returns-in_ok-push_parts-in-Plain-clause-walked
push_node-returns-in_ok-push_parts-in-Plain-clause-walked t c =
    node_plain c.args.above (Node c.args.at.now c.args.word (pieces_of (map syntax c.args.parts.now))) c.args.names.now c.args.out.now.items c.args.at.now c.args.word (pieces_of (map syntax c.args.parts.now))
    refl
    c.role_of-role.result c.below-inner.result c.push_parts-in-Plain.new.names c.push_parts-in-Plain.new.out.items
    c.in-Plain.is c.role_of-role.ensures c.below-inner.ensures c.in_ok-push_parts-in-Plain.ensures.walked

pub push_node-returns-in_ok-push_parts-in-Plain-clause-kept : goal.push_node-returns-in_ok-push_parts-in-Plain-clause-kept
push_node-returns-in_ok-push_parts-in-Plain-clause-kept t c =
    node_kept (Node c.args.at.now c.args.word (pieces_of (map syntax c.args.parts.now))) c.args.at.now c.args.word c.args.parts.now c.args.context c.args.kept.now c.test_node.result c.push_parts-in-Plain.new.kept
    refl
    c.test_node.ensures c.in_ok-push_parts-in-Plain.ensures.kept

pub push_events-returns-then-is_silent-clause-walked : goal.push_events-returns-then-is_silent-clause-walked
push_events-returns-then-is_silent-clause-walked t c =
    node_silent c.args.above (syntax c.args.tree.now) c.args.names.now c.args.out.now.items c.in-Node.at c.in-Node.word (pieces_of (map syntax c.as_slice-parts.result.now))
    (node_is c.args.tree.now c.in-Node.at c.in-Node.word c.in-Node.parts c.as_slice-parts.result.now c.in-Node.is c.as_slice-parts.ensures)
    c.inside.result c.push_all.new.names c.push_all.new.out.items
    (passed c.args.context c.in-Node.word (silent_quiet c.args.context c.in-Node.word (sym c.is_silent.ensures ∙ c.if-is_silent.true)))
    (silent_plain c.args.context c.in-Node.word (sym c.is_silent.ensures ∙ c.if-is_silent.true))
    c.inside.ensures c.in_ok-push_all-in-Node.ensures.walked

pub push_events-returns-then-is_silent-clause-kept : goal.push_events-returns-then-is_silent-clause-kept
push_events-returns-then-is_silent-clause-kept t c =
    node_passed c.args.context c.in-Node.word (silent_quiet c.args.context c.in-Node.word (sym c.is_silent.ensures ∙ c.if-is_silent.true))
    (syntax c.args.tree.now) c.in-Node.at c.as_slice-parts.result.now c.args.kept.now c.push_all.new.kept
    (node_is c.args.tree.now c.in-Node.at c.in-Node.word c.in-Node.parts c.as_slice-parts.result.now c.in-Node.is c.as_slice-parts.ensures)
    (c.in_ok-push_all-in-Node.ensures.kept ∙ ap (λ o. behind_items c.args.kept.now o c.as_slice-parts.result.now) c.outermost.ensures)

pub push_node-returns-then-is_quiet-clause-walked : goal.push_node-returns-then-is_quiet-clause-walked
push_node-returns-then-is_quiet-clause-walked t c =
    node_quiet c.args.above (Node c.args.at.now c.args.word (pieces_of (map syntax c.args.parts.now))) c.args.names.now c.args.out.now.items c.args.at.now c.args.word (pieces_of (map syntax c.args.parts.now)) refl
    c.role_of-role.result c.inside.result c.push_front.new.names c.push_all.new.names c.push_front.new.out.items c.push_all.new.out.items
    (passed c.args.context c.args.word (sym c.is_quiet.ensures ∙ c.if-is_quiet.true)) c.role_of-role.ensures c.inside.ensures c.in_ok-push_front.ensures c.in_ok-push_all.ensures.walked

pub push_node-returns-then-is_quiet-clause-kept : goal.push_node-returns-then-is_quiet-clause-kept
push_node-returns-then-is_quiet-clause-kept t c =
    node_passed c.args.context c.args.word (sym c.is_quiet.ensures ∙ c.if-is_quiet.true) (Node c.args.at.now c.args.word (pieces_of (map syntax c.args.parts.now))) c.args.at.now c.args.parts.now c.args.kept.now c.push_all.new.kept refl
    (c.in_ok-push_all.ensures.kept ∙ ap (λ o. behind_items c.args.kept.now o c.args.parts.now) c.outermost.ensures)

pub push_events-returns-in-Text-clause-walked : goal.push_events-returns-in-Text-clause-walked
push_events-returns-in-Text-clause-walked t c = text_walked c.args.above (syntax c.args.tree.now) c.args.names.now c.args.out.now.items _ (ap syntax c.in-Text.is ∙ syntax_text _)

pub push_events-returns-in-Number-clause-walked : goal.push_events-returns-in-Number-clause-walked
push_events-returns-in-Number-clause-walked t c = number_walked c.args.above (syntax c.args.tree.now) c.args.names.now c.args.out.now.items _ (ap syntax c.in-Number.is ∙ syntax_number _)

pub push_events-returns-in-Flag-clause-walked : goal.push_events-returns-in-Flag-clause-walked
push_events-returns-in-Flag-clause-walked t c = flag_walked c.args.above (syntax c.args.tree.now) c.args.names.now c.args.out.now.items _ (ap syntax c.in-Flag.is ∙ syntax_flag _)

pub push_events-returns-in-Absent-clause-walked : goal.push_events-returns-in-Absent-clause-walked
push_events-returns-in-Absent-clause-walked t c = absent_walked c.args.above (syntax c.args.tree.now) c.args.names.now c.args.out.now.items (ap syntax c.in-Absent.is ∙ syntax_absent)

pub push_parts-parts-preserved : goal.push_parts-parts-preserved
push_parts-parts-preserved t c =
    let parts = c.args.parts.now in
    let i = c.parts.index in
    let part = c.index-parts-index.result in
    let step : drop i parts ≡ part ∷ drop (i + 1) parts = drop_step parts i part c.parts-test.true c.index-parts-index.is in
    let more = pieces_of (map syntax (drop (i + 1) parts)) in
    record {
      walked = left_less c.args.above c.args.names.now c.args.out.now.items parts c.parts.names c.push_events.new.names c.parts.out.items c.push_events.new.out.items (drop i parts) (drop (i + 1) parts) part step c.parts.invariant.walked c.in_ok-push_events.ensures.walked;
      kept = part_on c.args.kept.now c.parts.kept c.push_events.new.kept c.args.context c.part_below-inner.result c.args.word c.args.start i (c.args.start + (i + 1)) part parts (drop i parts) (drop (i + 1) parts) c.part_below-inner.ensures (omega arith) step c.parts.invariant.kept c.in_ok-push_events.ensures.kept;
      fewer =
          let is : size_of (pieces_of (map syntax (drop i parts))) ≡ size (syntax part) + size_of more + 1 = ap (λ l. size_of (pieces_of (map syntax l))) step in
          omega (arith, is, c.parts.invariant.fewer);
    }

pub push_parts-returns-clause-walked : goal.push_parts-returns-clause-walked
push_parts-returns-clause-walked t c =
    left_none c.args.above c.args.names.now c.args.out.now.items c.args.parts.now c.parts.names c.parts.out.items (drop c.parts.index c.args.parts.now)
    (drop_of_length-le c.args.parts.now c.parts-test.false) c.parts.invariant.walked

pub push_all-trees-preserved : goal.push_all-trees-preserved
push_all-trees-preserved t c =
    let trees = c.args.trees.now in
    let i = c.trees.tree-index in
    let tree = c.tree-item.result in
    let step : drop i trees ≡ tree ∷ drop (i + 1) trees = drop_step trees i tree c.trees-test.true c.tree-item.is in
    let more = pieces_of (map syntax (drop (i + 1) trees)) in
    record {
      walked = left_less c.args.above c.args.names.now c.args.out.now.items trees c.trees.names c.push_events.new.names c.trees.out.items c.push_events.new.out.items (drop i trees) (drop (i + 1) trees) tree step c.trees.invariant.walked c.in_ok-push_events.ensures.walked;
      kept = item_on c.args.kept.now c.trees.kept c.push_events.new.kept c.args.context tree trees (drop i trees) (drop (i + 1) trees) step c.trees.invariant.kept c.in_ok-push_events.ensures.kept;
      fewer =
          let is : size_of (pieces_of (map syntax (drop i trees))) ≡ size (syntax tree) + size_of more + 1 = ap (λ l. size_of (pieces_of (map syntax l))) step in
          omega (arith, is, c.trees.invariant.fewer);
    }

pub push_all-returns-clause-walked : goal.push_all-returns-clause-walked
push_all-returns-clause-walked t c =
    left_none c.args.above c.args.names.now c.args.out.now.items c.args.trees.now c.trees.names c.trees.out.items (drop c.trees.tree-index c.args.trees.now)
    (drop_of_length-le c.args.trees.now c.trees-test.false) c.trees.invariant.walked
