use Rattle.std.proofs.Common.{sym, ◌∙◌}
use Rattle.rl_builder.specs.Builder.{state_of}
use Rattle.rl_names.specs.Seen.{seen}
use Rattle.rl_lower_expressions.proofs.AssignmentDerivations.{assigned_global_ok, assigned_local_ok}
use Rattle.rl_lower_expressions.proofs.assignment.assign_name.Goals as goal

pub returns-in-Local-clause-lowered : goal.returns-in-Local-clause-lowered
returns-in-Local-clause-lowered g c =
    assigned_local_ok (state_of g.U.ReadsUnit.tables c.args.builder.now) (state_of g.U.ReadsUnit.tables c.assign_local.new.builder)
    c.args.value c.assign_local.result (seen c.args.names.now) c.args.identifier.now.at c.args.identifier.now.name.now
    c.in-Local.symbol (sym c.in_ok-symbol.ensures ∙ c.in-Local.is) c.assign_local.ensures.lowered

pub returns-in_ok-name-in-Outer-clause-lowered : goal.returns-in_ok-name-in-Outer-clause-lowered
returns-in_ok-name-in-Outer-clause-lowered g c =
    assigned_global_ok (seen c.args.names.now) _ c.lower_value_to_temporary.result c.args.identifier.now.at c.in-Outer._binding _
    c.args.value _ (sym c.in_ok-symbol.ensures ∙ c.in-Outer.is) c.in_ok-name-in-Outer.ensures
    c.lower_value_to_temporary.ensures.state c.lower_value_to_temporary.ensures.place
