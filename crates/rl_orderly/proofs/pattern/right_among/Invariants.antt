use Rattle.std.proofs.Common.{◌≡◌, map, drop}
use Rattle.rl_model.specs.Orderly.{right_of as right}
use Rattle.rl_orderly.specs.Items.{item_of}
use Rattle.rl_orderly.proofs.pattern.right_among.Given as goal

abbrev pub invariant-items : goal.invariant-items
invariant-items l = right (map item_of (drop l.index l.items)) ≡ right (map item_of l.items)
