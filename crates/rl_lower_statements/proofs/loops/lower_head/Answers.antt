use Rattle.std.proofs.Common.{subst}
use Rattle.rl_builder.specs.Builder.{state_of}
use Rattle.rl_lowered.specs.Promised.{LowersInit}
use Rattle.rl_names.specs.Seen.{seen}
use Rattle.rl_syntax.specs.Syntax.{Syntax}
use Rattle.rl_lower_statements.proofs.LoopDerivations.{head_ok, refused_init_told}
use Rattle.rl_lower_statements.proofs.loops.lower_head.Goals as goal

pub returns-in-Variables-clause-lowered : goal.returns-in-Variables-clause-lowered
returns-in-Variables-clause-lowered g c =
    head_ok (seen c.args.names.now) c.args.at _ _ c.lower_variables.result c.in-Variables.ensures c.lower_variables.ensures.init

pub returns-in_ok-lower_expression-in-Expression-clause-lowered : goal.returns-in_ok-lower_expression-in-Expression-clause-lowered
returns-in_ok-lower_expression-in-Expression-clause-lowered g c =
    subst (λ (t : Syntax). LowersInit (seen c.args.names.now) c.args.at t (state_of g.U.ReadsUnit.tables c.args.builder.now)
    (state_of g.U.ReadsUnit.tables c.lower_expression.new.builder)) c.in-Expression.ensures
    (refused_init_told c.in_ok-refuse-in-Expression.ensures.state c.in_ok-lower_expression-in-Expression.ensures.lowered)
