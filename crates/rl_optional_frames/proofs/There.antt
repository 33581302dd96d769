-- A block that is there under an equal number.
use Rattle.std.proofs.Common.{◌≡◌, ℕ, subst}
use Rattle.rl_builder.specs.Builder.{State}
use Rattle.rl_runs.specs.Facts.{IsCurrentOrCompleted}

pub there_too : (s : State) (one other : ℕ) → one ≡ other → IsCurrentOrCompleted s one → IsCurrentOrCompleted s other
there_too s one other same there = subst (λ (m : ℕ). IsCurrentOrCompleted s m) same there
