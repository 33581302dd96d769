use Rattle.std.proofs.Common.{sym, ◌∙◌}
use Rattle.rl_builder.specs.Builder.{state_of}
use Rattle.rl_names.specs.Seen.{seen}
use Rattle.rl_lower_expressions.proofs.AssignmentDerivations.{compound_global_ok, compound_local_ok}
use Rattle.rl_lower_expressions.proofs.assignment.update_name_by.Goals as goal

pub returns-in-Local-clause-lowered : goal.returns-in-Local-clause-lowered
returns-in-Local-clause-lowered g c =
    compound_local_ok (state_of g.U.ReadsUnit.tables c.args.builder.now) (state_of g.U.ReadsUnit.tables c.update_local_by.new.builder)
    c.args.old c.args.right c.update_local_by.result (seen c.args.names.now) c.args.at c.args.identifier.now.at
    c.args.identifier.now.name.now
    c.in-Local.symbol c.args.applied (sym c.in_ok-symbol.ensures ∙ c.in-Local.is) c.update_local_by.ensures.lowered

pub returns-in_ok-name-in-Outer-clause-lowered : goal.returns-in_ok-name-in-Outer-clause-lowered
returns-in_ok-name-in-Outer-clause-lowered g c =
    compound_global_ok (seen c.args.names.now) (state_of g.U.ReadsUnit.tables c.args.builder.now) c.lower_value_to_temporary-in-Outer.result
    c.args.at c.args.identifier.now.at c.in-Outer._binding _ c.args.applied c.args.old c.args.right _
    (sym c.in_ok-symbol.ensures ∙ c.in-Outer.is) c.in_ok-value-in-Outer.ensures.state
    c.in_ok-value-in-Outer.ensures.place c.in_ok-name-in-Outer.ensures
    c.lower_value_to_temporary-in-Outer.ensures.state c.lower_value_to_temporary-in-Outer.ensures.place
