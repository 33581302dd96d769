use Rattle.std.proofs.Common.{◌≡◌, drop}
use Rattle.std.specs.List.{list_all}
use Rattle.rl_orderly.specs.Repeats.{is_alone as is_apart}
use Rattle.rl_orderly.proofs.pattern.are_alone.Given as goal

abbrev pub invariant-right : goal.invariant-right
invariant-right l =
    list_all (is_apart l.opens.list.items l.used.list.items l.twice) (drop l.symbol-index l.right) ≡ list_all
    (is_apart l.opens.list.items l.used.list.items l.twice) l.right
