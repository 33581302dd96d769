use Rattle.std.proofs.Common.{rules, [], ◌∷◌, ◌++◌, ◌∙◌}
use Rattle.std.proofs.lemmas.List.Elements.{All-same, All-push}
use Rattle.rl_text.specs.Raw.{tree}
use Rattle.rl_trace_text.specs.Reading.{NoneIsShown, IsShown}
use Rattle.rl_trace_text.proofs.Nodes.{none_at, none_behind, item_read}
use Rattle.rl_trace_text.proofs.from_tree.from_items.Goals as goal

pub returns-in_default-clause-none : goal.returns-in_default-clause-none
returns-in_default-clause-none g c =
    let none : NoneIsShown g.T.FromTree.shown g.T.FromTree.fits (tree c.item-item.result) = search rules in
    c.items.invariant.none (none_at g.T.FromTree.shown g.T.FromTree.fits c.args.items.now c.items.item-index c.item-item.result c.items-test.true c.item-item.is none)

pub items-preserved : goal.items-preserved
items-preserved g c =
    let shown = g.T.FromTree.shown in
    let fits = g.T.FromTree.fits in
    let items = c.args.items.now in
    let index = c.items.item-index in
    let item = c.item-item.result in
    let value = c.in-Some.value in
    let made : IsShown shown fits (tree item) value = search rules in record {
      found = item_read shown fits items index item c.items-test.true c.item-item.is c.items.values c.push.new.self value c.in_ok-push.ensures.ok made.same ∙ c.items.invariant.found;
      fitting = All-same fits c.push.new.self (c.items.values ++ value ∷ []) c.in_ok-push.ensures.ok (All-push fits c.items.values value c.items.invariant.fitting made.fitting);
      none = λ rest. c.items.invariant.none (none_behind shown fits items index item c.items-test.true c.item-item.is rest);
    }
