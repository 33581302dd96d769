-- Frames that are taken off, by the variant that they are.
use Rattle.std.proofs.Common.{◌≡◌, Result, IfOk, ap, ◌∙◌}
use Rattle.rl_base.specs.declared.error.OutOfMemory.{OutOfMemory}
use Rattle.rl_source_stack.proofs.Goings.{passed, popped_as}
use Rattle.rl_source_stack.specs.Controls.{goes, trace_of}
use Rattle.rl_source_stack.specs.Frames.{konts_at}
use Rattle.rl_source_stack.specs.States.{State, pushed}
use Rattle.rl_source_stack.specs.declared.control.Control.{Control}
use Rattle.rl_source_stack.specs.declared.stack.Frame.{Frame}

-- A control `d` goes on below the frame `f` as `c` does with it.
pub passes : (c d : Control) (old new : State) (g f : Frame) → old ≡ pushed g new → g ≡ f
    → goes d new.scene new.konts ≡ goes c new.scene (konts_at new.scene f new.konts)
    → trace_of d new ≡ trace_of c old
passes c d old new g f off is same = passed c d f old new (off ∙ ap (λ h. pushed h new) is) same

-- A control `c` that is met with the frame `f` goes on from the state that has it.
pub takes : (c : Control) (old new : State) (g f : Frame) → old ≡ pushed g new → g ≡ f → (result : Result Control OutOfMemory) (s : State)
    → IfOk result (λ d. trace_of d s ≡ trace_of c (pushed f new)) → IfOk result (λ d. trace_of d s ≡ trace_of c old)
takes c old new g f off is result s known = popped_as c f old new (off ∙ ap (λ h. pushed h new) is) result s known
