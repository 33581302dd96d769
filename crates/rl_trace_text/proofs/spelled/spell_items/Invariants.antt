use Rattle.std.proofs.Common.{◌≡◌, ◌++◌, drop, false, map}
use Rattle.rl_text.specs.Raw.{parts_of}
use Rattle.rl_text.specs.Spaced.{separated}
use Rattle.rl_trace_text.proofs.spelled.spell_items.Given as goal

abbrev pub invariant-items : goal.invariant-items
invariant-items g l =
    l.out.items ++ separated l.apart (parts_of (map g.T.Spelled.shown (drop l.item-index l.items)))
    ≡ l.initial.out.items ++ separated false (parts_of (map g.T.Spelled.shown l.items))
