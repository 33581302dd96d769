use Rattle.std.proofs.Common.{◌≡◌, false, map, drop}
use Rattle.rl_rows.specs.Finds.{is_single_yet}
use Rattle.rl_rows.proofs.tags.is_single.Given as goal

abbrev pub invariant-found : goal.invariant-found
invariant-found l =
    is_single_yet l.once l.name (map (λ t. t.now) (drop l.text-index l.found)) ≡ is_single_yet false l.name (map (λ t. t.now) l.found)
