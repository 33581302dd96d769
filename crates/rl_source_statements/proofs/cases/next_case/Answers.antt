use Rattle.std.proofs.Common.{ap, sym}
use Rattle.rl_source_stack.specs.Controls.{from_normal}
use Rattle.rl_source_stack.specs.States.{State, state_of}
use Rattle.rl_source_statements.proofs.CaseViews.{cases_first}
use Rattle.rl_source_statements.proofs.cases.next_case.Goals as goal

pub returns-in-Some : goal.returns-in-Some
returns-in-Some c =
    let s : State = state_of c.args.run.now in
    sym (ap (λ action. from_normal action s)
    (cases_first s.scene c.switch_case_view-case.result _ _ _ c.in-Some.ensures c.switch_case_view-case.ensures))
