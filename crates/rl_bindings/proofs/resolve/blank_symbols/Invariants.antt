use Rattle.std.proofs.Common.{◌≡◌, None, replicate}
use Rattle.rl_bindings.proofs.resolve.blank_symbols.Given as goal

abbrev pub invariant-loop-index : goal.invariant-loop-index
invariant-loop-index l = l.blank.items ≡ replicate l._index None
