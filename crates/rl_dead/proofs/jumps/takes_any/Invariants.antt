use Rattle.std.proofs.Common.{◌≡◌, map, drop}
use Rattle.std.specs.List.{list_any}
use Rattle.rl_dead.specs.Jumps.{name_of, takes}
use Rattle.rl_dead.proofs.jumps.takes_any.Given as goal

abbrev pub invariant-jumps : goal.invariant-jumps
invariant-jumps l =
    list_any (takes l.target) (map name_of (drop l.jump-index l.jumps)) ≡ list_any (takes l.target) (map name_of l.jumps)
