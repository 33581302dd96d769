use Rattle.std.proofs.Common.{ap, sym}
use Rattle.rl_grammar.specs.Fields.{maybe}
use Rattle.rl_names.specs.Seen.{seen}
use Rattle.rl_syntax.specs.Syntax.{syntax}
use Rattle.rl_lower_statements.proofs.LoopDerivations.{no_test_ok, tested_ok}
use Rattle.rl_lower_statements.proofs.loops.lower_test.Goals as goal

pub returns-in-Some-clause-lowered : goal.returns-in-Some-clause-lowered
returns-in-Some-clause-lowered g c =
    tested_ok (seen c.args.names.now) c.args.at _ _ c.lower_expression.result
    (ap (λ test. maybe test (λ t. syntax t.tree.now)) (sym c.in-Some.is)) c.lower_expression.ensures.lowered

pub returns-in_ok-refuse-in-None-clause-lowered : goal.returns-in_ok-refuse-in-None-clause-lowered
returns-in_ok-refuse-in-None-clause-lowered g c =
    no_test_ok (seen c.args.names.now) c.args.at _ _ _ c.lower_value_to_temporary.result
    (ap (λ test. maybe test (λ t. syntax t.tree.now)) (sym c.in-None.is)) c.in_ok-refuse-in-None.ensures.state
    c.lower_value_to_temporary.ensures.state c.lower_value_to_temporary.ensures.place
