use Rattle.std.proofs.Common.{◌≡◌, ℕ, ◌||◌, drop}
use Rattle.rl_dead.specs.Ranges.{is_covered}
use Rattle.rl_model.specs.Code.{contains}
use Rattle.rl_dead.proofs.functions.ids_of.Given as goal

abbrev pub invariant-dead : goal.invariant-dead
invariant-dead l = (node : ℕ) → (contains l.ids.items node || is_covered (drop l.range-index l.dead) node) ≡ is_covered l.dead node
