use Rattle.std.proofs.Common.{◌≡◌, ℕ, ◌&&◌, ◌||◌, nat_le, not, drop}
use Rattle.rl_markers.specs.Named.{has, is_marked}
use Rattle.rl_model.specs.Code.{contains}
use Rattle.rl_markers.proofs.marking.push_marks.Given as goal

abbrev pub invariant-named : goal.invariant-named
invariant-named l =
    (symbol up_to : ℕ)
    → (is_marked l.marks.items symbol up_to
    || ((contains l.opened.list.items symbol && not (has l.closed symbol)) && (contains (drop l.symbol-index l.named) symbol && nat_le l.node up_to)))
    ≡ (is_marked l.initial.marks.items symbol up_to
    || ((contains l.opened.list.items symbol && not (has l.closed symbol)) && (contains l.named symbol && nat_le l.node up_to)))
