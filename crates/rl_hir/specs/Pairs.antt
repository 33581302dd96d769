-- Symbols and the identifiers that stand for them.
use Rattle.std.specs.Prelude.{ℕ, nat_eq, if◌then◌else◌, Option, Some, None, List, [], ◌∷◌}
use Rattle.rl_hir.specs.declared.function.Pair.{Pair}

-- The id of a symbol's identifier: that of the first pair of the symbol; None where it has none.
abbrev pub identifier_of : List Pair → ℕ → Option ℕ
identifier_of [] symbol = None
identifier_of (p ∷ pairs) symbol = if nat_eq p.symbol.0 symbol then Some p.identifier.0 else identifier_of pairs symbol

-- The pair of a symbol and an identifier.
abbrev pub pair : ℕ → ℕ → Pair
pair symbol identifier = record { symbol = record { 0 = symbol }; identifier = record { 0 = identifier } }
