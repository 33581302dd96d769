-- An optional chain as its links, from the inside out: how each object or callee was lowered.
use Rattle.std.specs.Prelude.{◌≡◌, ℕ, Bool, Some, List}
use Rattle.rl_base.specs.declared.ids.BlockId.{BlockId}
use Rattle.rl_base.specs.declared.span.Span.{Span}
use Rattle.rl_builder.specs.Builder.{State}
use Rattle.rl_hir.specs.declared.instruction.Place.{Place}
use Rattle.rl_machine.specs.declared.trace.Value.{Value}
use Rattle.rl_machine.specs.Traces.{World}
use Rattle.rl_model.specs.Actions.{Action}
use Rattle.rl_optional_frames.specs.Frames.{link_after, link_at, link_ended, link_objected}
use Rattle.rl_optional_frames.specs.Links.{RunsOnAll}
use Rattle.rl_optional_frames.specs.Meanings.{handed, linked_values, tested_of}
use Rattle.rl_optional_frames.specs.Parts.{link_opened}
use Rattle.rl_runs.specs.Blocks.{PreservesBlocks}
use Rattle.rl_runs.specs.Simulation.{RunsAll}

-- The object or callee of a link: an expression, a callee behind the object that it lends, or a link itself. All links end the chain in
-- block `alternate`.
pub data IsChain (world : World) (alternate : BlockId) : Action (List Value) → (old new : State) → (identifiers : List ℕ) → Type 0 where
  Starts : (d : Action (List Value)) (old new : State) (identifiers : List ℕ) → PreservesBlocks old new
      → RunsAll world d old new identifiers → IsChain world alternate d old new identifiers
  Links : (s s2 s4 : State) (span : Span) (optional lends : Bool) (objects : List ℕ) (object value : Place)
      (dobj : Action (List Value)) (dk : List Value → Action Value)
      → IsChain world alternate dobj (link_opened (Some alternate) s span) s2 objects → tested_of objects ≡ Some object.identifier.0
      → PreservesBlocks (link_objected (link_at s span optional (Some alternate)) s2 object) s4
      → RunsOnAll world dk (link_objected (link_at s span optional (Some alternate)) s2 object) s4 objects value.identifier.0
      → IsChain world alternate (linked_values world optional lends dobj dk) s
      (link_ended (link_after (link_at s span optional (Some alternate))) s4 value)
      (handed lends objects (link_at s span optional (Some alternate)).place.identifier.0)
