use Rattle.std.proofs.Common.{ap}
use Rattle.rl_base.specs.Operators.{update_text}
use Rattle.rl_model.specs.Expressions.{eval}
use Rattle.rl_source_expressions.proofs.Placed.{pattern_updated, place_updated, private_updated}
use Rattle.rl_source_stack.proofs.Goings.{goes_as}
use Rattle.rl_source_stack.specs.Controls.{from}
use Rattle.rl_source_stack.specs.States.{state_of}
use Rattle.rl_syntax.specs.Syntax.{End, Flag, Node, Said, Then, syntax}
use Rattle.rl_syntax.specs.declared.word.Word.TheVariants as word
use Rattle.rl_source_expressions.proofs.assignment.evaluate_update.Goals as goal

pub returns-in-Name : goal.returns-in-Name
returns-in-Name c =
    goes_as c.update_variable.result (state_of c.update_variable.new.run)
    (ap (λ t. from (eval (state_of c.args.run.now).scene
    (Node c.args.at word.Update (Then (Said (update_text c.args.operator)) (Then (Flag c.args.prefix) (Then t End)))))
    (state_of c.args.run.now)) c.in-Name.ensures)
    c.update_variable.ensures

pub returns-in-Property : goal.returns-in-Property
returns-in-Property c =
    goes_as c.evaluate_property.result (state_of c.evaluate_property.new.run)
    (place_updated (state_of c.args.run.now) c.args.at c.in-Property.at c.in-Property.optional (syntax c.in-Property.object.tree.now)
    c.in-Property.property (update_text c.args.operator) c.args.prefix (syntax c.args.argument.tree.now) c.in-Property.ensures)
    c.evaluate_property.ensures

pub returns-in-Private : goal.returns-in-Private
returns-in-Private c = private_updated (state_of c.args.run.now) c.args.at (syntax c.args.argument.tree.now) (update_text c.args.operator)
    c.args.prefix c.in-Private.ensures

pub returns-in-Pattern : goal.returns-in-Pattern
returns-in-Pattern c = pattern_updated (state_of c.args.run.now) c.args.at (syntax c.args.argument.tree.now) (update_text c.args.operator)
    c.args.prefix c.in-Pattern.ensures
