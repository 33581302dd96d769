use Rattle.std.proofs.Common.{ap, sym}
use Rattle.rl_machine.specs.declared.trace.Trace.{Trace}
use Rattle.rl_source_stack.proofs.Goings.{goes_as}
use Rattle.rl_source_stack.specs.Controls.{trace_of}
use Rattle.rl_source_stack.specs.States.{State, pushed, state_of}
use Rattle.rl_source_stack.specs.declared.behind.Following.{Following}
use Rattle.rl_source_stack.specs.declared.control.Control.TheVariants as control
use Rattle.rl_source_stack.specs.declared.stack.Frame.TheVariants as frame
use Rattle.rl_trace.specs.declared.value.Val.{Val}
use Rattle.rl_source_statements.proofs.take.take_in_statement.Goals as goal

-- The trace of a run that goes on with a value in a statement.
abbrev taking : State → Val → Following → Trace
taking s value behind = trace_of (control.Value value) (pushed (frame.Following behind) s)

pub returns-in-If : goal.returns-in-If
returns-in-If c =
    goes_as c.take_condition.result (state_of c.take_condition.new.run)
    (ap (taking (state_of c.args.run.now) c.args.value) (sym c.in-If.is)) c.take_condition.ensures

pub returns-in-Test : goal.returns-in-Test
returns-in-Test c =
    goes_as c.take_test.result (state_of c.take_test.new.run)
    (ap (taking (state_of c.args.run.now) c.args.value) (sym c.in-Test.is)) c.take_test.ensures

pub returns-in-Item : goal.returns-in-Item
returns-in-Item c =
    goes_as c.take_item.result (state_of c.take_item.new.run)
    (ap (taking (state_of c.args.run.now) c.args.value) (sym c.in-Item.is)) c.take_item.ensures

pub returns-in-ForIn : goal.returns-in-ForIn
returns-in-ForIn c =
    goes_as c.start_loop.result (state_of c.start_loop.new.run)
    (ap (taking (state_of c.args.run.now) c.args.value) (sym c.in-ForIn.is)) c.start_loop.ensures

pub returns-in-ForOf : goal.returns-in-ForOf
returns-in-ForOf c =
    goes_as c.take_collection.result (state_of c.take_collection.new.run)
    (ap (taking (state_of c.args.run.now) c.args.value) (sym c.in-ForOf.is)) c.take_collection.ensures

pub returns-in-Iterator : goal.returns-in-Iterator
returns-in-Iterator c =
    goes_as c.start_loop-in-Iterator.result (state_of c.start_loop-in-Iterator.new.run)
    (ap (taking (state_of c.args.run.now) c.args.value) (sym c.in-Iterator.is)) c.start_loop-in-Iterator.ensures

pub returns-in-Switch : goal.returns-in-Switch
returns-in-Switch c =
    goes_as c.start_switch.result (state_of c.start_switch.new.run)
    (ap (taking (state_of c.args.run.now) c.args.value) (sym c.in-Switch.is)) c.start_switch.ensures

pub returns-in-Case : goal.returns-in-Case
returns-in-Case c =
    goes_as c.choose_match.result (state_of c.choose_match.new.self)
    (ap (taking (state_of c.args.run.now) c.args.value) (sym c.in-Case.is)) c.choose_match.ensures
