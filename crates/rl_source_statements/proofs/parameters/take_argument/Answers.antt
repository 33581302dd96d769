use Rattle.std.proofs.Common.{ap, sym, ◌∙◌}
use Rattle.rl_grammar.specs.Fields.{maybe}
use Rattle.rl_model.specs.Expressions.{eval, or_default}
use Rattle.rl_source_stack.specs.Controls.{from, from_normal}
use Rattle.rl_source_stack.specs.States.{State, state_of}
use Rattle.rl_source_stack.proofs.Goings.{goes_as}
use Rattle.rl_source_statements.proofs.Parts.{taken_none, taken_some}
use Rattle.rl_syntax.specs.Syntax.{syntax}
use Rattle.rl_trace.specs.Values.{shown}
use Rattle.rl_source_statements.proofs.parameters.take_argument.Goals as goal

pub returns-in-None : goal.returns-in-None
returns-in-None c =
    let old : State = state_of c.args.run.now in
    sym (ap (λ action. from_normal action old)
    (taken_none old.scene c.formal_parameter_view-parameter.result (syntax c.args.tree.tree.now) (shown c.args.value)
    c.formal_parameter_view-parameter.ensures c.in-None.is))

pub returns-in_ok-push-in-Some : goal.returns-in_ok-push-in-Some
returns-in_ok-push-in-Some c =
    let old : State = state_of c.args.run.now in
    goes_as c.value_or_default.result (state_of c.value_or_default.new.run)
    (ap (λ s. from (or_default s.scene (shown c.args.value) (eval s.scene (syntax c.in-Some.default.tree.now))) s)
    c.in_ok-push-in-Some.ensures
    ∙ sym (ap (λ action. from_normal action old)
    (taken_some old.scene c.formal_parameter_view-parameter.result (syntax c.args.tree.tree.now) (syntax c.in-Some.default.tree.now)
    (shown c.args.value) c.formal_parameter_view-parameter.ensures (ap (λ o. maybe o (λ t. syntax t.tree.now)) c.in-Some.is)
    c.in-Some.default.fit))) c.value_or_default.ensures
