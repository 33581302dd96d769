use Rattle.std.proofs.Common.{◌≡◌, ◌++◌, drop, map}
use Rattle.rl_trace.specs.Progress.{kept_for, kept_in, seen}
use Rattle.rl_trace.proofs.progress.Progress.kept.Given as goal

-- Behind those so far come the values of the symbols that are left.
abbrev pub invariant-kept : goal.invariant-kept
invariant-kept l = l.kept ++ kept_for (seen l.self) (map (λ symbol. symbol.0) (drop l.symbol-index l.symbols)) ≡ kept_in (seen l.self)
