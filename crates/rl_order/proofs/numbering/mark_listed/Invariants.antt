use Rattle.std.proofs.Common.{◌≡◌, ◌+◌, drop}
use Rattle.rl_order.specs.Numbering.{ordered_list}
use Rattle.rl_order.proofs.numbering.mark_listed.Given as goal

-- The orders so far and those to come are all
abbrev pub invariant-loop-id : goal.invariant-loop-id
invariant-loop-id l =
    record {
      table : ordered_list (l.order + 1) (drop l.id-index l.listed) l.table ≡ ordered_list (l.last + 1) l.listed l.fn.table;
      last : l.order ≡ l.last + l.id-index;
    }
