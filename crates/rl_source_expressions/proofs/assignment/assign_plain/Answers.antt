use Rattle.std.proofs.Common.{ap, ◌∙◌}
use Rattle.rl_model.specs.Expressions.{assign_to, assignment, eval, place}
use Rattle.rl_source_expressions.proofs.Placed.{pattern_assigned, place_assigned, private_assigned}
use Rattle.rl_source_stack.proofs.Goings.{goes_as}
use Rattle.rl_source_stack.specs.Controls.{from, trace_of}
use Rattle.rl_source_stack.specs.States.{state_of}
use Rattle.rl_source_stack.specs.declared.control.Control.TheVariants as control
use Rattle.rl_syntax.specs.Syntax.{syntax}
use Rattle.rl_source_expressions.proofs.assignment.assign_plain.Goals as goal

pub returns-in_ok-push-in-Name : goal.returns-in_ok-push-in-Name
returns-in_ok-push-in-Name c =
    ap (trace_of (control.Evaluate c.args.right)) c.in_ok-push-in-Name.ensures
    ∙ ap (λ t. from (assignment (state_of c.args.run.now).scene t (place (state_of c.args.run.now).scene t)
    (assign_to (state_of c.args.run.now).scene t) (eval (state_of c.args.run.now).scene (syntax c.args.right.tree.now)))
    (state_of c.args.run.now)) c.in-Name.ensures

pub returns-in-Property : goal.returns-in-Property
returns-in-Property c =
    goes_as c.evaluate_property.result (state_of c.evaluate_property.new.run)
    (place_assigned c.args.run.now c.in-Property.at c.in-Property.optional (syntax c.in-Property.object.tree.now) c.in-Property.property
    (assign_to (state_of c.args.run.now).scene) (eval (state_of c.args.run.now).scene (syntax c.args.right.tree.now))
    (syntax c.args.left.tree.now) c.in-Property.ensures)
    c.evaluate_property.ensures

pub returns-in-Private : goal.returns-in-Private
returns-in-Private c = private_assigned (state_of c.args.run.now) (syntax c.args.left.tree.now)
    (place (state_of c.args.run.now).scene (syntax c.args.left.tree.now))
    (assign_to (state_of c.args.run.now).scene (syntax c.args.left.tree.now))
    (eval (state_of c.args.run.now).scene (syntax c.args.right.tree.now)) c.in-Private.ensures

pub returns-in_ok-push-in-Pattern : goal.returns-in_ok-push-in-Pattern
returns-in_ok-push-in-Pattern c =
    ap (trace_of (control.Evaluate c.args.right)) c.in_ok-push-in-Pattern.ensures
    ∙ pattern_assigned (state_of c.args.run.now) (syntax c.args.left.tree.now)
    (place (state_of c.args.run.now).scene (syntax c.args.left.tree.now))
    (assign_to (state_of c.args.run.now).scene (syntax c.args.left.tree.now))
    (eval (state_of c.args.run.now).scene (syntax c.args.right.tree.now)) c.in-Pattern.ensures
