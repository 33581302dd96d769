use Rattle.std.proofs.Common.{ap, sym, ◌∙◌}
use Rattle.rl_machine.specs.declared.trace.Trace.{Trace}
use Rattle.rl_source_stack.proofs.Goings.{goes_as}
use Rattle.rl_source_stack.specs.Controls.{trace_of}
use Rattle.rl_source_stack.specs.States.{State, pushed, state_of}
use Rattle.rl_source_stack.specs.declared.control.Control.TheVariants as control
use Rattle.rl_source_stack.specs.declared.stack.Around.{Around}
use Rattle.rl_source_stack.specs.declared.stack.Frame.TheVariants as frame
use Rattle.rl_source_statements.proofs.finish.finish.Goals as goal

-- The trace of a run that goes on around a statement that has completed normally.
abbrev finishing : State → Around → Trace
finishing s around = trace_of control.Normal (pushed (frame.Statement around) s)

pub returns-in-Statements : goal.returns-in-Statements
returns-in-Statements c =
    goes_as c.next_statement.result (state_of c.next_statement.new.run)
    (ap (finishing (state_of c.args.run.now)) (sym c.in-Statements.is)) c.next_statement.ensures

pub returns-in-Declarators : goal.returns-in-Declarators
returns-in-Declarators c =
    goes_as c.declare_next.result (state_of c.declare_next.new.run)
    (ap (finishing (state_of c.args.run.now)) (sym c.in-Declarators.is)) c.declare_next.ensures

pub returns-in-Body : goal.returns-in-Body
returns-in-Body c =
    goes_as c.go_on_with_loop.result (state_of c.go_on_with_loop.new.run) (ap (finishing (state_of c.args.run.now)) (sym c.in-Body.is))
    c.go_on_with_loop.ensures

pub returns-in-Head : goal.returns-in-Head
returns-in-Head c = ap (finishing (state_of c.args.run.now)) (sym c.in-Head.is)

pub returns-in-For : goal.returns-in-For
returns-in-For c =
    goes_as c.start_loop.result (state_of c.start_loop.new.run) (ap (finishing (state_of c.args.run.now)) (sym c.in-For.is))
    c.start_loop.ensures

pub returns-in-Cases : goal.returns-in-Cases
returns-in-Cases c = c.next_case.ensures ∙ ap (finishing (state_of c.args.run.now)) (sym c.in-Cases.is)

pub returns-in-Bindings : goal.returns-in-Bindings
returns-in-Bindings c =
    goes_as c.bind_parts.result (state_of c.bind_parts.new.run) (ap (finishing (state_of c.args.run.now)) (sym c.in-Bindings.is))
    c.bind_parts.ensures

pub returns-in-Parameters : goal.returns-in-Parameters
returns-in-Parameters c =
    goes_as c.take_parameters.result (state_of c.take_parameters.new.run)
    (ap (finishing (state_of c.args.run.now)) (sym c.in-Parameters.is)) c.take_parameters.ensures

pub returns-in-Function : goal.returns-in-Function
returns-in-Function c =
    goes_as c.run_body.result (state_of c.run_body.new.run) (ap (finishing (state_of c.args.run.now)) (sym c.in-Function.is))
    c.run_body.ensures
