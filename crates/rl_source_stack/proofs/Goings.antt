-- A run that goes on as another one does, and frames that are taken off.
use Rattle.std.proofs.Common.{◌≡◌, Result, Ok, Err, IfOk, ap, sym, ◌∙◌}
use Rattle.rl_base.specs.declared.error.OutOfMemory.{OutOfMemory}
use Rattle.rl_machine.specs.declared.trace.Trace.{Trace}
use Rattle.rl_source_stack.specs.Controls.{goes, trace_of}
use Rattle.rl_source_stack.specs.Frames.{konts_at}
use Rattle.rl_source_stack.specs.Konts.{outermost}
use Rattle.rl_source_stack.specs.States.{State, pushed}
use Rattle.rl_source_stack.specs.declared.control.Control.{Control}
use Rattle.rl_source_stack.specs.declared.stack.Frame.{Frame}
use Rattle.rl_trace.specs.Progress.{after}

-- A control whose trace is known has an equal one.
pub goes_as : (result : Result Control OutOfMemory) (s : State) {t u : Trace} → t ≡ u
    → IfOk result (λ c. trace_of c s ≡ t) → IfOk result (λ c. trace_of c s ≡ u)
goes_as (Ok c) s same known = known ∙ same
goes_as (Err error) s same known = known

-- A control `c` that is met with the frame `f` goes on from the state that has it.
pub popped_as : (c : Control) (f : Frame) (old new : State) → old ≡ pushed f new → (result : Result Control OutOfMemory) (s : State)
    → IfOk result (λ d. trace_of d s ≡ trace_of c (pushed f new)) → IfOk result (λ d. trace_of d s ≡ trace_of c old)
popped_as c f old new off result s known = goes_as result s (ap (trace_of c) (sym off)) known

-- A control `d` goes on below the frame `f` as `c` does with it.
pub passed : (c d : Control) (f : Frame) (old new : State) → old ≡ pushed f new
    → goes d new.scene new.konts ≡ goes c new.scene (konts_at new.scene f new.konts)
    → trace_of d new ≡ trace_of c old
passed c d f old new off same = ap (λ cont. after new.events (cont new.store new.answers)) same ∙ ap (trace_of c) (sym off)

-- A control `d` goes on behind all frames as `c` does.
pub at_bottom : (c d : Control) (old new : State) → (new ≡ old) × (old.konts ≡ outermost)
    → goes d old.scene outermost ≡ goes c old.scene outermost
    → trace_of d new ≡ trace_of c old
at_bottom c d old new (same, outer) goes_same =
    ap (trace_of d) same
    ∙ ap (λ k. after old.events (goes d old.scene k old.store old.answers)) outer
    ∙ ap (λ cont. after old.events (cont old.store old.answers)) goes_same
    ∙ sym (ap (λ k. after old.events (goes c old.scene k old.store old.answers)) outer)
