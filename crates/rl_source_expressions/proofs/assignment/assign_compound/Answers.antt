use Rattle.std.proofs.Common.{ap, ◌∙◌}
use Rattle.rl_base.specs.Operators.{operator_text}
use Rattle.rl_model.specs.Expressions.{compound, eval, place, read}
use Rattle.rl_source_expressions.proofs.Placed.{pattern_compound, place_compound, private_compound}
use Rattle.rl_source_stack.proofs.Goings.{goes_as}
use Rattle.rl_source_stack.specs.Controls.{from}
use Rattle.rl_source_stack.specs.States.{state_of}
use Rattle.rl_syntax.specs.Syntax.{syntax}
use Rattle.rl_source_expressions.proofs.assignment.assign_compound.Goals as goal

pub returns-in_ok-push-in-Name : goal.returns-in_ok-push-in-Name
returns-in_ok-push-in-Name c =
    goes_as c.read_name.result (state_of c.read_name.new.run)
    (ap (λ s. from (read s.scene (s.scene.names.meaning c.in-Name.name.at.reference.0 c.in-Name.name.name.now)) s)
    c.in_ok-push-in-Name.ensures
    ∙ ap (λ t. from (compound (state_of c.args.run.now).scene (operator_text c.args.operator) t (place (state_of c.args.run.now).scene t)
    (eval (state_of c.args.run.now).scene (syntax c.args.right.tree.now))) (state_of c.args.run.now)) c.in-Name.ensures)
    c.read_name.ensures

pub returns-in-Property : goal.returns-in-Property
returns-in-Property c =
    goes_as c.evaluate_property.result (state_of c.evaluate_property.new.run)
    (place_compound (state_of c.args.run.now) c.in-Property.at c.in-Property.optional (syntax c.in-Property.object.tree.now)
    c.in-Property.property (operator_text c.args.operator) (eval (state_of c.args.run.now).scene (syntax c.args.right.tree.now))
    (syntax c.args.left.tree.now) c.in-Property.ensures)
    c.evaluate_property.ensures

pub returns-in-Private : goal.returns-in-Private
returns-in-Private c = private_compound (state_of c.args.run.now) (syntax c.args.left.tree.now) (operator_text c.args.operator)
    (eval (state_of c.args.run.now).scene (syntax c.args.right.tree.now)) c.in-Private.ensures

pub returns-in-Pattern : goal.returns-in-Pattern
returns-in-Pattern c = pattern_compound (state_of c.args.run.now) (syntax c.args.left.tree.now) (operator_text c.args.operator)
    (eval (state_of c.args.run.now).scene (syntax c.args.right.tree.now)) c.in-Pattern.ensures
