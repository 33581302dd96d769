use Rattle.std.proofs.Common.{ap, sym}
use Rattle.rl_grammar.specs.Fields.{maybe}
use Rattle.rl_source_stack.specs.Controls.{from_normal}
use Rattle.rl_source_stack.specs.States.{State, state_of}
use Rattle.rl_source_statements.proofs.CaseViews.{default_found, default_later}
use Rattle.rl_syntax.specs.Syntax.{syntax}
use Rattle.rl_source_statements.proofs.cases.find_default.Goals as goal

pub returns-in-None-test : goal.returns-in-None-test
returns-in-None-test c =
    let s : State = state_of c.args.run.now in
    sym (ap (λ action. from_normal action s)
    (default_found s.scene c.switch_case_view-case.result _ _ _ c.in-Some.ensures c.switch_case_view-case.ensures c.in-None-test.is))

pub returns-in-Some-test : goal.returns-in-Some-test
returns-in-Some-test c =
    let s : State = state_of c.args.run.now in
    sym (ap (λ action. from_normal action s)
    (default_later s.scene c.switch_case_view-case.result _ _ _ _ c.in-Some.ensures c.switch_case_view-case.ensures
    (ap (λ o. maybe o (λ t. syntax t.tree.now)) c.in-Some-test.is) c.in-Some-test._test.fit))
