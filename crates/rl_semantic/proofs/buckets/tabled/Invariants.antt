use Rattle.std.proofs.Common.{◌≡◌, drop}
use Rattle.rl_semantic.specs.Buckets.{put_all, tabled}
use Rattle.rl_semantic.proofs.buckets.tabled.Given as goal

abbrev pub invariant-loop-pair : goal.invariant-loop-pair
invariant-loop-pair g l = put_all l.table.items (drop l.pair-index l.pairs) ≡ tabled l.count l.pairs
