use Rattle.std.proofs.Common.{◌≡◌, ◌+◌, ◌≤◌, ap, arith, false, map, refl, subst, sym, true, ◌∙◌}
use Rattle.rl_builder.specs.Builder.{State, state_of}
use Rattle.rl_grammar.proofs.Viewing.{of_sort}
use Rattle.rl_grammar.specs.declared.kind.Kind.TheVariants as kind
use Rattle.rl_lower_parts.proofs.LookDerivations.{look_named, look_size, looks_done, looks_ends, looks_free, looks_next, looks_past}
use Rattle.rl_lower_parts.proofs.TargetTrees.{node_counts, one_there, part_gone, part_there}
use Rattle.rl_lowered.proofs.TargetForms.{ahead_forced}
use Rattle.rl_lowered.specs.Items.{LoweredAhead}
use Rattle.rl_names.specs.Seen.{seen}
use Rattle.rl_runs.specs.Blocks.{size_of}
use Rattle.rl_syntax.specs.Syntax.{Pieces, Syntax, nodes, nodes_of, pieces_of, syntax}
use Rattle.rl_lower_parts.proofs.target_items.look_at_elements.Goals as goal

pub returns-then-is_some-clause-looked : goal.returns-then-is_some-clause-looked
returns-then-is_some-clause-looked g c =
    looks_past
    (part_there (λ t. syntax t.tree.now) (λ t. one_there kind.AssignmentTargetRest (syntax t.tree.now) t.fit) c.args.rest
    (sym c.if-is_some.ensures))

pub returns-then-not-is_local-clause-looked : goal.returns-then-not-is_local-clause-looked
returns-then-not-is_local-clause-looked g c =
    let all : Pieces = pieces_of (map syntax c.args.items.trees.now) in
    let old : State = state_of g.U.ReadsUnit.tables c.args.builder.now in
    let new : State = state_of g.U.ReadsUnit.tables c.look_up.new.builder in
    subst (λ (r : Syntax). LoweredAhead (seen c.args.names.now) all r old new true)
    (sym (part_gone (λ t. syntax t.tree.now) c.args.rest (sym c.if-is_some.ensures)))
    (looks_ends c.in-Some.ensures c.element_name.ensures c.in_ok-is_local.ensures.looked c.if-not-is_local.true c.items.invariant.looks)

pub returns-then-not-is_local-clause-forced : goal.returns-then-not-is_local-clause-forced
returns-then-not-is_local-clause-forced g c = sym (ahead_forced (returns-then-not-is_local-clause-looked g c))

pub items-preserved : goal.items-preserved
items-preserved g c =
    let loop = c.items.invariant in
    let now : State = state_of g.U.ReadsUnit.tables c.items.builder in
    let later : State = state_of g.U.ReadsUnit.tables c.look_up.new.builder in
    let looked = c.in_ok-is_local.ensures.looked in
    let more : Pieces = pieces_of (map syntax c.in-Some.more.trees.now) in
    let first : Syntax = syntax c.in-Some.item.tree.now in
    let counted : nodes_of (pieces_of (map syntax c.items.left.trees.now)) ≡ nodes first + nodes_of more = ap nodes_of c.in-Some.ensures in
    let one : 1 ≤ nodes first = node_counts first (of_sort kind.AssignmentTargetElement first refl c.in-Some.item.fit) in
    let few : size_of later ≤ size_of now + 2 = look_size looked in
    record {
      same_reference = c.in_ok-is_local.ensures.same_reference ∙ loop.same_reference;
      names = look_named looked loop.names;
      may = looks_free more c.in-Some.ensures c.element_name.ensures looked c.if-not-is_local.false loop.may;
      room = omega (arith, counted, one, few, loop.room);
      looks = looks_next c.in-Some.ensures c.element_name.ensures looked c.if-not-is_local.false loop.looks;
    }

pub returns-clause-looked : goal.returns-clause-looked
returns-clause-looked g c =
    let all : Pieces = pieces_of (map syntax c.args.items.trees.now) in
    let old : State = state_of g.U.ReadsUnit.tables c.args.builder.now in
    let new : State = state_of g.U.ReadsUnit.tables c.items.builder in
    subst (λ (r : Syntax). LoweredAhead (seen c.args.names.now) all r old new false)
    (sym (part_gone (λ t. syntax t.tree.now) c.args.rest (sym c.if-is_some.ensures)))
    (looks_done c.in_default.ensures c.items.invariant.looks)

pub returns-clause-forced : goal.returns-clause-forced
returns-clause-forced g c = sym (ahead_forced (returns-clause-looked g c))
