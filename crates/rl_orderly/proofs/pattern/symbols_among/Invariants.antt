use Rattle.std.proofs.Common.{◌≡◌, ◌++◌, map, drop}
use Rattle.rl_model.specs.Orderly.{symbols_in as symbols_of}
use Rattle.rl_orderly.specs.Items.{item_of}
use Rattle.rl_orderly.proofs.pattern.symbols_among.Given as goal

abbrev pub invariant-items : goal.invariant-items
invariant-items l = l.found.items ++ symbols_of (map item_of (drop l.item-index l.items)) ≡ symbols_of (map item_of l.items)
