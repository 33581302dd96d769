use Rattle.std.proofs.Common.{◌≡◌, ◌++◌, drop, take}
use Rattle.rl_shadowed.specs.Shadowed.{stem_of as less}
use Rattle.rl_shadowed.proofs.shadowed.stem_of.Given as goal

abbrev pub invariant-bytes : goal.invariant-bytes
invariant-bytes l = take l.index l.name ++ less (drop l.index l.name) ≡ less l.name
