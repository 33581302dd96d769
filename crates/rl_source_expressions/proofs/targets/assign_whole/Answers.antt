use Rattle.std.proofs.Common.{ap}
use Rattle.rl_source_expressions.proofs.Targeted.{given_to}
use Rattle.rl_source_stack.proofs.Goings.{goes_as}
use Rattle.rl_source_stack.specs.States.{state_of}
use Rattle.rl_trace.specs.Values.{shown}
use Rattle.rl_source_expressions.proofs.targets.assign_whole.Goals as goal

pub returns-in-Identifier : goal.returns-in-Identifier
returns-in-Identifier c =
    goes_as c.assign_name.result (state_of c.assign_name.new.run)
    (ap (given_to (state_of c.args.run.now) (shown c.args.value)) c.in-Identifier.ensures)
    c.assign_name.ensures

pub returns-in-Member : goal.returns-in-Member
returns-in-Member c =
    goes_as c.evaluate_property.result (state_of c.evaluate_property.new.run)
    (ap (given_to (state_of c.args.run.now) (shown c.args.value)) c.in-Member.ensures)
    c.evaluate_property.ensures

pub returns-in-Index : goal.returns-in-Index
returns-in-Index c =
    goes_as c.evaluate_property-in-Index.result (state_of c.evaluate_property-in-Index.new.run)
    (ap (given_to (state_of c.args.run.now) (shown c.args.value)) c.in-Index.ensures)
    c.evaluate_property-in-Index.ensures

pub returns-in-Array : goal.returns-in-Array
returns-in-Array c =
    goes_as c.assign_array.result (state_of c.assign_array.new.run)
    (ap (given_to (state_of c.args.run.now) (shown c.args.value)) c.in-Array.ensures)
    c.assign_array.ensures

pub returns-in-Object : goal.returns-in-Object
returns-in-Object c =
    goes_as c.assign_object.result (state_of c.assign_object.new.run)
    (ap (given_to (state_of c.args.run.now) (shown c.args.value)) c.in-Object.ensures)
    c.assign_object.ensures
