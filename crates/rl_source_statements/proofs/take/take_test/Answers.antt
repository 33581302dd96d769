use Rattle.std.proofs.Common.{if◌then◌else◌, ap, sym}
use Rattle.rl_machine.specs.Traces.{truthy}
use Rattle.rl_machine.specs.declared.trace.Trace.{Trace}
use Rattle.rl_machine.specs.declared.trace.Value.{Value}
use Rattle.rl_model.specs.Actions.{◌>>=◌, done, test}
use Rattle.rl_source_stack.proofs.Goings.{goes_as}
use Rattle.rl_source_stack.specs.Controls.{from_normal}
use Rattle.rl_source_stack.specs.Loops.{on_yes}
use Rattle.rl_source_stack.specs.States.{State, state_of}
use Rattle.rl_trace.specs.Values.{shown}
use Rattle.rl_source_stack.specs.declared.behind.Loop.{Loop}
use Rattle.rl_source_stack.specs.declared.behind.Turns.{Turns}
use Rattle.rl_source_statements.proofs.take.take_test.Goals as goal

-- The trace of a run that goes on by a loop's test.
abbrev tried : State → Turns → Value → Loop → Trace
tried s turns v parts = from_normal (do met ← test s.scene (truthy v); if met then on_yes s.scene turns parts else done) s

pub returns-in-DoWhile : goal.returns-in-DoWhile
returns-in-DoWhile c =
    goes_as c.choose_truthy.result (state_of c.choose_truthy.new.self)
    (ap (tried (state_of c.args.run.now) c.args.turns (shown c.args.value)) (sym c.in-DoWhile.is)) c.choose_truthy.ensures

pub returns-in-While : goal.returns-in-While
returns-in-While c =
    goes_as c.choose_truthy-in-While.result (state_of c.choose_truthy-in-While.new.self)
    (ap (tried (state_of c.args.run.now) c.args.turns (shown c.args.value)) (sym c.in-While.is)) c.choose_truthy-in-While.ensures

pub returns-in-For : goal.returns-in-For
returns-in-For c =
    goes_as c.choose_truthy-in-For.result (state_of c.choose_truthy-in-For.new.self)
    (ap (tried (state_of c.args.run.now) c.args.turns (shown c.args.value)) (sym c.in-For.is)) c.choose_truthy-in-For.ensures

pub returns-in-ForIn : goal.returns-in-ForIn
returns-in-ForIn c =
    goes_as c.choose_truthy-in-ForIn.result (state_of c.choose_truthy-in-ForIn.new.self)
    (ap (tried (state_of c.args.run.now) c.args.turns (shown c.args.value)) (sym c.in-ForIn.is)) c.choose_truthy-in-ForIn.ensures

pub returns-in-ForOf : goal.returns-in-ForOf
returns-in-ForOf c =
    goes_as c.choose_truthy-in-ForOf.result (state_of c.choose_truthy-in-ForOf.new.self)
    (ap (tried (state_of c.args.run.now) c.args.turns (shown c.args.value)) (sym c.in-ForOf.is)) c.choose_truthy-in-ForOf.ensures
