use Rattle.std.proofs.Common.{ℕ, Bool, if◌then◌else◌, List, ap, sym, ◌∙◌}
use Rattle.rl_base.specs.Operators.{unary_text}
use Rattle.rl_base.specs.declared.operator.UnaryOperator.{UnaryOperator}
use Rattle.rl_machine.specs.declared.trace.Trace.{Trace}
use Rattle.rl_machine.specs.declared.trace.Value.{Value}
use Rattle.rl_model.specs.Actions.{Action, ◌>>=◌, ask}
use Rattle.rl_model.specs.Events.{unary}
use Rattle.rl_model.specs.Expressions.{delete_property, eval}
use Rattle.rl_model.specs.Scene.{Scene}
use Rattle.rl_source_stack.specs.Controls.{from, trace_of}
use Rattle.rl_source_stack.specs.States.{State, state_of}
use Rattle.rl_source_stack.specs.declared.control.Control.TheVariants as control
use Rattle.rl_syntax.specs.Syntax.{Syntax, syntax}
use Rattle.rl_source_expressions.proofs.evaluate.evaluate_unary.Goals as goal

-- A unary operation, by whether it is a deletion.
abbrev unary_if : Scene → (deletes : Bool) → (operator : List ℕ) → (argument : Syntax) → Action Value
unary_if scene deletes operator argument =
    if deletes then delete_property scene argument else (eval scene argument >>= (λ v. ask scene (unary operator v)))

-- The trace of a run that evaluates a unary operation.
abbrev operated : State → UnaryOperator → (argument : Syntax) → (deletes : Bool) → Trace
operated s operator argument deletes = from (unary_if s.scene deletes (unary_text operator) argument) s

pub returns-then-is_delete : goal.returns-then-is_delete
returns-then-is_delete c =
    ap (operated (state_of c.args.run.now) c.args.operator (syntax c.args.argument.tree.now))
    (sym (sym c.is_delete.ensures ∙ c.if-is_delete.true))

pub returns-in_ok-push : goal.returns-in_ok-push
returns-in_ok-push c =
    ap (trace_of (control.Evaluate c.args.argument)) c.in_ok-push.ensures
    ∙ ap (operated (state_of c.args.run.now) c.args.operator (syntax c.args.argument.tree.now))
    (sym (sym c.is_delete.ensures ∙ c.if-is_delete.false))
