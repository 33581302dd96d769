use Rattle.std.proofs.Common.{ap, sym}
use Rattle.rl_grammar.specs.Fields.{maybe}
use Rattle.rl_model.specs.Statements.{exec_default}
use Rattle.rl_source_stack.specs.Controls.{from_normal}
use Rattle.rl_source_stack.specs.Parts.{among}
use Rattle.rl_source_stack.specs.States.{State, state_of}
use Rattle.rl_source_statements.proofs.CaseViews.{try_default, try_first}
use Rattle.rl_source_stack.proofs.Goings.{goes_as}
use Rattle.rl_syntax.specs.Syntax.{syntax}
use Rattle.rl_trace.specs.Values.{shown}
use Rattle.rl_source_statements.proofs.cases.try_case.Goals as goal

pub returns-in-None-test : goal.returns-in-None-test
returns-in-None-test c =
    let s : State = state_of c.args.run.now in
    sym (ap (λ action. from_normal action s)
    (try_default s.scene c.switch_case_view-case.result _ _ _ (shown c.args.value) (exec_default s.scene (among c.args.all.trees.now))
    c.in-Some.ensures c.switch_case_view-case.ensures c.in-None-test.is))

pub returns-in-Some-test : goal.returns-in-Some-test
returns-in-Some-test c =
    let s : State = state_of c.args.run.now in
    goes_as c.evaluate_for.result (state_of c.evaluate_for.new.run)
    (sym (ap (λ action. from_normal action s)
    (try_first s.scene c.switch_case_view-case.result _ _ _ _ (shown c.args.value) (exec_default s.scene (among c.args.all.trees.now))
    c.in-Some.ensures c.switch_case_view-case.ensures (ap (λ o. maybe o (λ t. syntax t.tree.now)) c.in-Some-test.is)
    c.in-Some-test.test.fit))) c.evaluate_for.ensures
