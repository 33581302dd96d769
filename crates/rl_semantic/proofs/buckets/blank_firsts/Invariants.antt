use Rattle.std.proofs.Common.{◌≡◌, None, replicate}
use Rattle.rl_semantic.proofs.buckets.blank_firsts.Given as goal

abbrev pub invariant-loop-key : goal.invariant-loop-key
invariant-loop-key g l = l.table.items ≡ replicate l._key None
