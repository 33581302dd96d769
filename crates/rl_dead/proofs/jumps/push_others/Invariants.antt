use Rattle.std.proofs.Common.{◌≡◌, ◌++◌, filter, map, not, drop}
use Rattle.rl_dead.specs.Jumps.{name_of, takes}
use Rattle.rl_dead.proofs.jumps.push_others.Given as goal

abbrev pub invariant-jumps : goal.invariant-jumps
invariant-jumps l =
    map name_of l.out.items ++ filter (λ jump. not (takes l.target jump)) (map name_of (drop l.jump-index l.jumps))
    ≡ map name_of l.initial.out.items ++ filter (λ jump. not (takes l.target jump)) (map name_of l.jumps)
