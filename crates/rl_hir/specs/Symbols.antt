-- Sets of symbols, as lists in the order of the numbers.
use Rattle.std.specs.Prelude.{Bool, nat_eq, List}
use Rattle.std.specs.BTreeSet.{insert_key}
use Rattle.std.specs.List.{list_any}
use Rattle.std.specs.Ordering.{nat_cmp}
use Rattle.rl_base.specs.declared.ids.SymbolId.{SymbolId}

-- True of a member.
abbrev pub has : List SymbolId → SymbolId → Bool
has symbols symbol = list_any (λ other. nat_eq symbol.0 other.0) symbols

-- The set with one more member, at its place in the order; unchanged where it is there already.
abbrev pub added : List SymbolId → SymbolId → List SymbolId
added symbols symbol = insert_key (λ first second. nat_cmp first.0 second.0) symbols symbol
