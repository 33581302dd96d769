use Rattle.std.proofs.Common.{rules, ◌≡◌, false, map, ap, sym, ◌∙◌}
use Rattle.rl_markers.proofs.Naming.{early_function, early_other, from_none}
use Rattle.rl_markers.specs.Named.{tables}
use Rattle.rl_markers.specs.Uses.{seen}
use Rattle.rl_model.specs.Hoisting.{uses_in}
use Rattle.rl_syntax.specs.Syntax.{syntax}
use Rattle.rl_markers.proofs.named.named_early.Goals as goal

pub returns-then-is_fundecl : goal.returns-then-is_fundecl
returns-then-is_fundecl c parts node =
    let tree = syntax c.args.tree.now in
    let same : map seen c.as_slice.result.now ≡ uses_in false tree =
    ap (map seen) c.as_slice.ensures.value ∙ from_none seen _ (uses_in false tree) _ (search rules) c.in_ok-push_uses.ensures in
    early_function (tables c.args.variables.now) c.push_all_used.new.out.items _ (map seen c.as_slice.result.now) tree c.args.at c.args.word
    (search rules) same c.in_ok-push_all_used.ensures (sym c.is_fundecl.ensures ∙ c.if-is_fundecl.true) parts node

pub returns : goal.returns
returns c parts node =
    let tree = syntax c.args.tree.now in
    let same : map seen c.as_slice.result.now ≡ uses_in false tree =
    ap (map seen) c.as_slice.ensures.value ∙ from_none seen _ (uses_in false tree) _ (search rules) c.in_ok-push_uses.ensures in
    early_other (tables c.args.variables.now) c.push_all_used.new.out.items c.push_inside.new.out.items _ (map seen c.as_slice.result.now) tree
    c.args.at c.args.word (search rules) same c.in_ok-push_all_used.ensures (sym c.is_fundecl.ensures ∙ c.if-is_fundecl.false)
    c.in_ok-push_inside.ensures parts node
