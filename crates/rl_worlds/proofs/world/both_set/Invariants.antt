use Rattle.std.proofs.Common.{◌≡◌, ◌&&◌, filter}
use Rattle.rl_code.specs.Flags.{flag_at}
use Rattle.rl_model.specs.Code.{below}
use Rattle.rl_worlds.proofs.world.both_set.Given as goal

abbrev pub invariant-numbers : goal.invariant-numbers
invariant-numbers l = l.found.items ≡ filter (λ n. flag_at l.one n && flag_at l.other n) (below l.number)
