use Rattle.std.proofs.Common.{◌≡◌, drop}
use Rattle.rl_semantic.specs.Buckets.{put_firsts, firsts_tabled}
use Rattle.rl_semantic.proofs.buckets.firsts_tabled.Given as goal

abbrev pub invariant-loop-pair : goal.invariant-loop-pair
invariant-loop-pair g l = put_firsts l.table.items (drop l.pair-index l.pairs) ≡ firsts_tabled l.count l.pairs
