use Rattle.std.proofs.Common.{ap, sym, ◌∙◌}
use Rattle.rl_machine.specs.declared.trace.Trace.{Trace}
use Rattle.rl_machine.specs.declared.trace.Value.{Value}
use Rattle.rl_model.specs.Actions.{◌>>◌}
use Rattle.rl_source_stack.specs.Controls.{from_normal, trace_of}
use Rattle.rl_source_stack.specs.Loops.{body_and_rest, take_next}
use Rattle.rl_source_stack.specs.States.{State, state_of}
use Rattle.rl_source_stack.specs.declared.behind.Loop.{Loop}
use Rattle.rl_source_stack.specs.declared.behind.Turns.{Turns}
use Rattle.rl_source_stack.specs.declared.control.Control.TheVariants as control
use Rattle.rl_trace.specs.Values.{shown}
use Rattle.rl_source_statements.proofs.loops.take_item.Goals as goal

-- The trace of a run that gives a value to the head of a loop.
abbrev taking : State → Turns → Value → Loop → Trace
taking s turns v parts = from_normal (do take_next s.scene parts v; body_and_rest s.scene turns) s

pub returns-in_ok-push-in-ForIn : goal.returns-in_ok-push-in-ForIn
returns-in_ok-push-in-ForIn c =
    ap (trace_of (control.TakeHead c.in-ForIn.head c.args.value)) c.in_ok-push-in-ForIn.ensures
    ∙ ap (taking (state_of c.args.run.now) c.args.turns (shown c.args.value)) (sym c.in-ForIn.is)

pub returns-in_ok-push-in-ForOf : goal.returns-in_ok-push-in-ForOf
returns-in_ok-push-in-ForOf c =
    ap (trace_of (control.TakeHead c.in-ForOf.head c.args.value)) c.in_ok-push-in-ForOf.ensures
    ∙ ap (taking (state_of c.args.run.now) c.args.turns (shown c.args.value)) (sym c.in-ForOf.is)

pub returns-in-While : goal.returns-in-While
returns-in-While c = ap (taking (state_of c.args.run.now) c.args.turns (shown c.args.value)) (sym c.in-While.is)

pub returns-in-DoWhile : goal.returns-in-DoWhile
returns-in-DoWhile c = ap (taking (state_of c.args.run.now) c.args.turns (shown c.args.value)) (sym c.in-DoWhile.is)

pub returns-in-For : goal.returns-in-For
returns-in-For c = ap (taking (state_of c.args.run.now) c.args.turns (shown c.args.value)) (sym c.in-For.is)
