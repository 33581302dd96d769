-- The states of a run.
use Rattle.std.specs.Prelude.{◌≡◌, ℕ, Option, Some, None, List, [], ◌∷◌, ◌++◌}
use Rattle.std.specs.Borrow.{Bor}
use Rattle.rl_machine.specs.Traces.{Store, set, set_open}
use Rattle.rl_machine.specs.declared.trace.Answer.{Answer}
use Rattle.rl_machine.specs.declared.trace.Event.{Event}
use Rattle.rl_machine.specs.declared.trace.Value.{Value}
use Rattle.rl_model.specs.Scene.{Scene}
use Rattle.rl_names.specs.declared.names.FunctionNames.{FunctionNames}
use Rattle.rl_source_stack.specs.Frames.{konts_at, konts_of}
use Rattle.rl_source_stack.specs.Konts.{Konts, outermost}
use Rattle.rl_source_stack.specs.Scenes.{scene_of}
use Rattle.rl_source_stack.specs.declared.run.Run.{Run}
use Rattle.rl_source_stack.specs.declared.stack.Frame.{Frame}
use Rattle.rl_source_stack.specs.declared.texts.JsxTexts.{JsxTexts}
use Rattle.rl_trace.specs.Progress.{Seen, seen}

-- A run that is under way.
pub record State : Type 0 where
  pub scene : Scene
  pub store : Store
  pub answers : List Answer
  pub events : List Event
  pub konts : Konts

-- The state of a run with these names, texts and frames, whose progress is seen so.
abbrev pub state_by : FunctionNames → JsxTexts → List Frame → Seen → State
state_by names texts frames s = record {
  scene = scene_of names texts s.world;
  store = s.store;
  answers = s.answers;
  events = s.events;
  konts = konts_of (scene_of names texts s.world) frames outermost;
}

abbrev pub state_of : Run → State
state_of r = state_by r.names r.texts r.stack.items (seen r.progress)

abbrev pub pushed : Frame → State → State
pushed f s = record s { konts = konts_at s.scene f s.konts }

abbrev pub assigned : (symbol : ℕ) → Value → State → State
assigned symbol v s = record s { store = set s.store symbol v }

-- The state in which an event has its answer.
abbrev pub answered_with : Event → Answer → (rest : List Answer) → State → State
answered_with event a rest s =
    record s { store = set_open s.scene.world.opens a.assignments s.store; answers = rest; events = s.events ++ event ∷ [] }

-- An event was asked, and this is its answer.
pub record IsAsked (event : Event) (a : Answer) (old new : State) : Type 0 where
  pub answers : old.answers ≡ a ∷ new.answers
  pub same : new ≡ answered_with event a new.answers old

-- No answer was left, and nothing changed.
pub record IsUnasked (old new : State) : Type 0 where
  pub same : new ≡ old
  pub answers : old.answers ≡ []

abbrev pub WasAsked : Event → Option (Bor Answer) → (old new : State) → Type 0
WasAsked event None old new = IsUnasked old new
WasAsked event (Some a) old new = IsAsked event a.now old new
