use Rattle.std.proofs.Common.{rules, ◌&&◌, ℕ, List, subst}
use Rattle.rl_markers.proofs.Naming.{inside}
use Rattle.rl_markers.specs.Named.{AddsSymbols, tables}
use Rattle.rl_model.specs.Code.{contains}
use Rattle.rl_model.specs.Hoisting.{is_hoisted_kind}
use Rattle.rl_markers.proofs.named.push_inside.Goals as goal

pub returns : goal.returns
returns c =
    let b = tables c.args.variables.now in
    inside b c.args.nodes.now _ c.push_between.new.out.items c.args.out.now.items c.push_hoisted.new.out.items c.args.at.id.0 c.args.at.end.0
    c.requires (search rules) c.in_ok-push_between.ensures
    (subst (λ (l : List ℕ). AddsSymbols b c.args.out.now.items c.push_hoisted.new.out.items
    (λ s first. contains l s && is_hoisted_kind first.kind)) c.as_slice.ensures.value c.in_ok-push_hoisted.ensures)
