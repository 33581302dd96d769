-- The frames of a run, and its loops.
use Rattle.std.proofs.Common.{◌≡◌, ◌-◌, arith, ℕ, zero, suc, if◌then◌else◌, Bool, List, [], ◌∷◌, ◌++◌, refl, ap}
use Rattle.rl_machine.specs.Traces.{Cont, Store}
use Rattle.rl_machine.specs.declared.trace.Answer.{Answer}
use Rattle.rl_model.specs.Actions.{Action, Ways, done, turns}
use Rattle.rl_model.specs.Scene.{Scene}
use Rattle.rl_source_stack.specs.Frames.{konts_at, konts_of}
use Rattle.rl_source_stack.specs.Konts.{Konts}
use Rattle.rl_source_stack.specs.declared.stack.Frame.{Frame}

pub konts_pushed : (scene : Scene) (frames : List Frame) (f : Frame) (k : Konts)
    → konts_of scene (frames ++ f ∷ []) k ≡ konts_at scene f (konts_of scene frames k)
konts_pushed scene [] f k = refl
konts_pushed scene (g ∷ frames) f k = konts_pushed scene frames f (konts_at scene g k)

-- A loop that has turns left makes one.
pub turns_again : (n : ℕ) (turn : Action Bool) → (n ≡ 0 → ⊥)
    → (ways : Ways) (onward : Unit {0} → Cont) (store : Store) (answers : List Answer)
    → turns n turn ways onward store answers ≡ turn ways (λ b. (if b then turns (n - 1) turn else done) ways onward) store answers
turns_again zero turn some ways onward store answers = absurd (some refl)
turns_again (suc n) turn some ways onward store answers =
    ap (λ m. turn ways (λ b. (if b then turns m turn else done) ways onward) store answers) (omega arith)
