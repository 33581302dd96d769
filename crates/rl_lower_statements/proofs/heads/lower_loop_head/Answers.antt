use Rattle.std.proofs.Common.{ap, ◌∙◌}
use Rattle.rl_names.specs.Seen.{seen}
use Rattle.rl_promises.specs.Conditions.{is_plain_head}
use Rattle.rl_lower_statements.proofs.HeadDerivations.{declaration_may, target_head_may, target_head_taken}
use Rattle.rl_lower_statements.proofs.heads.lower_loop_head.Goals as goal

pub lower_variables_head-requires-clause-plain : goal.lower_variables_head-requires-clause-plain
lower_variables_head-requires-clause-plain g c = ap is_plain_head c.in-Variables.ensures ∙ c.requires.may.plain

pub lower_variables_head-requires-clause-may : goal.lower_variables_head-requires-clause-may
lower_variables_head-requires-clause-may g c =
    declaration_may (seen c.args.names.now) c.in-Variables.declaration.fit c.in-Variables.ensures c.requires.may

pub lower_target_head-requires-clause-may : goal.lower_target_head-requires-clause-may
lower_target_head-requires-clause-may g c = target_head_may (seen c.args.names.now) c.in-Target.ensures c.requires.may

pub lower_target_head-requires-clause-may_take : goal.lower_target_head-requires-clause-may_take
lower_target_head-requires-clause-may_take g c = target_head_taken (seen c.args.names.now) c.in-Target.ensures c.requires.may
