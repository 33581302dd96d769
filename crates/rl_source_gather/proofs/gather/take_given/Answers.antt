use Rattle.std.proofs.Common.{◌≡◌, ◌++◌, List, [], ◌∷◌, IfOk, ap, sym, subst, ◌∙◌, append_assoc}
use Rattle.rl_machine.specs.declared.trace.Value.{Value}
use Rattle.rl_model.specs.Actions.{◌>>=◌, ask}
use Rattle.rl_model.specs.Events as events
use Rattle.rl_model.specs.Expressions.{eval, values}
use Rattle.rl_source_stack.specs.Controls.{from, trace_of}
use Rattle.rl_source_stack.specs.Parts.{gathered, gathering, given_next, parts_among}
use Rattle.rl_source_stack.specs.States.{pushed, state_of}
use Rattle.rl_source_stack.specs.declared.control.Control.TheVariants as control
use Rattle.rl_source_stack.specs.declared.gather.Pending.TheVariants as pending
use Rattle.rl_source_stack.specs.declared.stack.Frame.TheVariants as frame
use Rattle.rl_syntax.specs.Syntax.{syntax}
use Rattle.rl_trace.specs.Values.{shown}
use Rattle.rl_source_gather.proofs.gather.take_given.Goals as goal

pub returns-in-Nothing : goal.returns-in-Nothing
returns-in-Nothing c =
    subst (λ t. IfOk c.gather.result (λ d. trace_of d (state_of c.gather.new.run) ≡ t))
    (ap (λ g. from (gathering (state_of c.args.run.now).scene c.args.what (parts_among c.args.left) g) (state_of c.args.run.now))
    (c.in_ok-push.ensures.ok ∙ ap (λ v. c.args.given ++ v ∷ []) c.in_ok-copy.ensures)
    ∙ ap (λ (h : List Value → List Value). from
    (values (state_of c.args.run.now).scene (parts_among c.args.left)
    >>= (λ vs. gathered (state_of c.args.run.now).scene c.args.what (h vs))) (state_of c.args.run.now))
    (λ i vs. append_assoc c.args.given (shown c.args.value ∷ []) vs i)
    ∙ ap (λ p. from (given_next (state_of c.args.run.now).scene c.args.what p (parts_among c.args.left) c.args.given
    (shown c.args.value)) (state_of c.args.run.now)) (sym c.in-Nothing.is))
    c.gather.ensures

pub returns-in-Value : goal.returns-in-Value
returns-in-Value c =
    subst (λ t. IfOk c.give_part.result (λ d. trace_of d (state_of c.give_part.new.run) ≡ t))
    (ap (λ g. trace_of (control.Evaluate c.in-Value.expression)
    (pushed (frame.Given c.args.what pending.Nothing c.args.left g) (state_of c.args.run.now)))
    (c.in_ok-push.ensures.ok ∙ ap (λ v. c.args.given ++ v ∷ []) c.in_ok-copy.ensures)
    ∙ ap (λ (h : List Value → List Value). from
    (eval (state_of c.args.run.now).scene (syntax c.in-Value.expression.tree.now)
    >>= (λ w. values (state_of c.args.run.now).scene (parts_among c.args.left)
    >>= (λ ws. gathered (state_of c.args.run.now).scene c.args.what (h (w ∷ ws))))) (state_of c.args.run.now))
    (λ i vs. append_assoc c.args.given (shown c.args.value ∷ []) vs i)
    ∙ ap (λ p. from (given_next (state_of c.args.run.now).scene c.args.what p (parts_among c.args.left) c.args.given
    (shown c.args.value)) (state_of c.args.run.now)) (sym c.in-Value.is))
    c.give_part.ensures

pub returns-in-Method : goal.returns-in-Method
returns-in-Method c =
    subst (λ t. IfOk c.give_method.result (λ d. trace_of d (state_of c.give_method.new.run) ≡ t))
    (ap (λ g. from (ask (state_of c.args.run.now).scene (events.method c.in-Method.node.0))
    (pushed (frame.Given c.args.what pending.Nothing c.args.left g) (state_of c.args.run.now)))
    (c.in_ok-push.ensures.ok ∙ ap (λ v. c.args.given ++ v ∷ []) c.in_ok-copy.ensures)
    ∙ ap (λ (h : List Value → List Value). from
    (ask (state_of c.args.run.now).scene (events.method c.in-Method.node.0)
    >>= (λ w. values (state_of c.args.run.now).scene (parts_among c.args.left)
    >>= (λ ws. gathered (state_of c.args.run.now).scene c.args.what (h (w ∷ ws))))) (state_of c.args.run.now))
    (λ i vs. append_assoc c.args.given (shown c.args.value ∷ []) vs i)
    ∙ ap (λ p. from (given_next (state_of c.args.run.now).scene c.args.what p (parts_among c.args.left) c.args.given
    (shown c.args.value)) (state_of c.args.run.now)) (sym c.in-Method.is))
    c.give_method.ensures
