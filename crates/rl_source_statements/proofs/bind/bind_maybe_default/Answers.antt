use Rattle.std.proofs.Common.{ap, ◌∙◌}
use Rattle.rl_model.specs.Expressions.{eval, or_default}
use Rattle.rl_model.specs.Patterns.{bind}
use Rattle.rl_source_stack.specs.Controls.{from, from_normal}
use Rattle.rl_source_stack.specs.States.{State, state_of}
use Rattle.rl_source_stack.proofs.Goings.{goes_as}
use Rattle.rl_syntax.specs.Syntax.{syntax}
use Rattle.rl_trace.specs.Values.{shown}
use Rattle.rl_source_statements.proofs.bind.bind_maybe_default.Goals as goal

pub returns-in-Pattern : goal.returns-in-Pattern
returns-in-Pattern c =
    let old : State = state_of c.args.run.now in
    ap (λ t. from_normal (bind old.scene c.args.everywhere t (shown c.args.value)) old) c.in-Pattern.ensures

pub returns-in_ok-push-in-Default : goal.returns-in_ok-push-in-Default
returns-in_ok-push-in-Default c =
    let old : State = state_of c.args.run.now in
    goes_as c.value_or_default.result (state_of c.value_or_default.new.run)
    (ap (λ s. from (or_default s.scene (shown c.args.value) (eval s.scene (syntax c.in-Default.default.tree.now))) s)
    c.in_ok-push-in-Default.ensures
    ∙ ap (λ t. from_normal (bind old.scene c.args.everywhere t (shown c.args.value)) old) c.in-Default.ensures)
    c.value_or_default.ensures
