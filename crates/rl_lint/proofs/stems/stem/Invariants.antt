use Rattle.std.proofs.Common.{◌≡◌, ◌++◌, drop, take}
use Rattle.rl_lint.specs.Stems.{stem as less}
use Rattle.rl_lint.proofs.stems.stem.Given as goal

abbrev pub invariant-bytes : goal.invariant-bytes
invariant-bytes l = take l.index l.name ++ less (drop l.index l.name) ≡ less l.name
