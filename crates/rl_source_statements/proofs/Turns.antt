-- Turns of loops.
use Rattle.std.proofs.Common.{◌≡◌, ◌-◌, if◌then◌else◌, ap}
use Rattle.rl_machine.specs.declared.trace.Event.{Event}
use Rattle.rl_machine.specs.declared.trace.Trace.{Trace}
use Rattle.rl_machine.specs.Traces.{set_open, stepped, truthy}
use Rattle.rl_model.specs.Actions.{◌>>=◌, ◌>>◌, done, test}
use Rattle.rl_model.specs.Expressions.{eval}
use Rattle.rl_source_stack.proofs.Stacks.{turns_again}
use Rattle.rl_source_stack.specs.Controls.{from_normal, trace_of}
use Rattle.rl_source_stack.specs.Loops.{body_and_rest, on_yes, take_next, turn, turns_behind}
use Rattle.rl_source_stack.specs.Parts.{label_of}
use Rattle.rl_source_stack.specs.States.{State}
use Rattle.rl_source_stack.specs.declared.behind.Loop.{Loop}
use Rattle.rl_source_stack.specs.declared.behind.Turns.{Turns}
use Rattle.rl_source_stack.specs.declared.control.Control.TheVariants as control
use Rattle.rl_syntax.specs.Syntax.{Syntax}
use Rattle.rl_trace.specs.Progress.{after}

-- The turns behind the next one, of a loop with these parts.
abbrev pub later : Turns → Loop → Turns
later t parts = record { most = t.most - 1; own = t.own; parts = parts }

-- The trace of a run that makes the next turn of a loop with these parts.
abbrev pub turning : State → Turns → Loop → Trace
turning s t parts = from_normal (do
  goes_on ← turn s.scene (label_of t.own) parts
  turns_behind s.scene (later t parts) goes_on) s

-- A loop that has turns left makes one.
pub turn_again : (s : State) (t : Turns) → (t.most ≡ 0 → ⊥) → trace_of (control.Turn t) s ≡ turning s t t.parts
turn_again s t some =
    ap (after s.events)
    (turns_again t.most (turn s.scene (label_of t.own) t.parts) some s.konts.ways (λ u. s.konts.normal) s.store s.answers)

-- The first part of a turn: the test, the body, or the next value.
abbrev pub testing : State → Turns → (condition : Syntax) → Loop → Trace
testing s t condition parts = from_normal (do
  v ← eval s.scene condition
  met ← test s.scene (truthy v)
  if met then on_yes s.scene (later t parts) parts else done) s

abbrev pub repeating : State → Turns → Loop → Trace
repeating s t parts = from_normal (body_and_rest s.scene (later t parts)) s

abbrev pub stepping : State → Turns → Event → Loop → Trace
stepping s t event parts =
    after s.events
    (stepped (set_open s.scene.world.opens) event s.store s.answers
    (λ v. (do take_next s.scene parts v; body_and_rest s.scene (later t parts)) s.konts.ways (λ u. s.konts.normal)) s.konts.normal
    s.konts.ways.throws)
