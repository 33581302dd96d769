use Rattle.std.proofs.Common.{◌≡◌, drop}
use Rattle.rl_semantic.specs.Buckets.{keys_used}
use Rattle.rl_semantic.proofs.buckets.keys_used.Given as goal

abbrev pub invariant-loop-pair : goal.invariant-loop-pair
invariant-loop-pair g l = keys_used l.most l.count (drop l.pair-index l.pairs) ≡ keys_used 0 l.count l.pairs
