use Rattle.std.proofs.Common.{◌≡◌, ℕ, nat_le, ◌&&◌, ◌||◌, not}
use Rattle.rl_dead.specs.Ranges.{holds}
use Rattle.rl_model.specs.Code.{contains}
use Rattle.rl_dead.proofs.functions.push_ids.Given as goal

abbrev pub invariant-ids : goal.invariant-ids
invariant-ids l =
    (node : ℕ) → (contains l.out.items node || (nat_le l.id node && not (nat_le l.fn.range.end node)))
    ≡ (contains l.initial.out.items node || holds node l.fn.range)
