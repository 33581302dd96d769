use Rattle.std.proofs.Common.{ap, sym, ◌∙◌}
use Rattle.rl_model.specs.Functions.{run_body}
use Rattle.rl_source_stack.specs.Controls.{from_normal}
use Rattle.rl_source_stack.specs.Parts.{code_syntax}
use Rattle.rl_source_stack.specs.States.{State, state_of}
use Rattle.rl_source_stack.proofs.Goings.{goes_as}
use Rattle.rl_source_statements.proofs.Parts.{body_value}
use Rattle.rl_syntax.specs.Syntax.{syntax}
use Rattle.rl_source_statements.proofs.parameters.run_body.Goals as goal

pub returns-in-Function : goal.returns-in-Function
returns-in-Function c =
    let old : State = state_of c.args.run.now in
    goes_as c.run_statements.result (state_of c.run_statements.new.run)
    (ap (λ b. from_normal (run_body old.scene (code_syntax b)) old) (sym c.in-Function.is)) c.run_statements.ensures

pub returns-in-Body : goal.returns-in-Body
returns-in-Body c =
    let old : State = state_of c.args.run.now in
    goes_as c.run_statements-in-Body.result (state_of c.run_statements-in-Body.new.run)
    (ap (λ t. from_normal (run_body old.scene t) old) c.in-Body.ensures
    ∙ ap (λ b. from_normal (run_body old.scene (code_syntax b)) old) (sym c.in-Arrow.is)) c.run_statements-in-Body.ensures

pub returns-in-Expression : goal.returns-in-Expression
returns-in-Expression c =
    let old : State = state_of c.args.run.now in
    goes_as c.evaluate_for.result (state_of c.evaluate_for.new.run)
    (sym (ap (λ action. from_normal action old)
    (body_value old.scene (syntax c.in-Expression.expression.tree.now) c.in-Expression.expression.fit))
    ∙ ap (λ t. from_normal (run_body old.scene t) old) c.in-Expression.ensures
    ∙ ap (λ b. from_normal (run_body old.scene (code_syntax b)) old) (sym c.in-Arrow.is)) c.evaluate_for.ensures
