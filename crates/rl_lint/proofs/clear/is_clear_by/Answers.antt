use Rattle.std.proofs.Common.{Bool, List, sym, ap, ◌∙◌}
use Rattle.std.proofs.lemmas.Bool.{not-true}
use Rattle.rl_lint.proofs.Clearing.{finds_none}
use Rattle.rl_lint.specs.Late.{has_late}
use Rattle.rl_lint.specs.Tables.{tables}
use Rattle.rl_lint.specs.declared.role.Place.TheVariants as place
use Rattle.rl_syntax.specs.Syntax.{syntax}
use Rattle.rl_lint.proofs.clear.is_clear_by.Goals as goal

pub returns-then-are_clear_nodes : goal.returns-then-are_clear_nodes
returns-then-are_clear_nodes c =
    let tree = syntax c.args.unit.now.tree in
    λ clear. finds_none c.as_slice-nodes.result.now c.args.hints.now (tables c.args.bindings.now) tree
    (c.as_slice-nodes.ensures ∙ c.args.unit.now.listed) (sym c.are_clear_declarations.ensures ∙ c.if-are_clear_declarations.true)
    (sym c.are_clear_nodes.ensures ∙ c.if-are_clear_nodes.true)
    (ap (λ (paths : List Bool). has_late paths place.Elsewhere tree) (sym c.as_slice.ensures) ∙ sym c.has_late.ensures
    ∙ not-true c.has_late.result clear)
