use Rattle.std.proofs.Common.{sym, ◌∙◌}
use Rattle.rl_builder.specs.Builder.{state_of}
use Rattle.rl_names.specs.Seen.{seen}
use Rattle.rl_lower_expressions.proofs.TargetDerivations.{target_global_ok, target_local_ok}
use Rattle.rl_lower_expressions.proofs.target.store_name.Goals as goal

pub returns-in-Local-clause-lowered : goal.returns-in-Local-clause-lowered
returns-in-Local-clause-lowered g c =
    target_local_ok (seen c.args.names.now) c.args.at c.args.value c.args.identifier.now.at c.args.identifier.now.name.now
    (state_of g.U.ReadsUnit.tables c.args.builder.now) (state_of g.U.ReadsUnit.tables c.store_local.new.builder) c.store_local.result
    (sym c.in_ok-symbol.ensures ∙ c.in-Local.is) c.store_local.ensures.lowered

pub returns-in_ok-name-in-Outer-clause-lowered : goal.returns-in_ok-name-in-Outer-clause-lowered
returns-in_ok-name-in-Outer-clause-lowered g c =
    target_global_ok (seen c.args.names.now) c.args.at c.args.value c.args.identifier.now.at c.args.identifier.now.name.now _ _
    c.lower_value_to_temporary.result (sym c.in_ok-symbol.ensures ∙ c.in-Outer.is) c.in_ok-name-in-Outer.ensures
    c.lower_value_to_temporary.ensures.state c.lower_value_to_temporary.ensures.place
