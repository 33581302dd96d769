-- Tables by symbol.
use Rattle.std.specs.Prelude.{ℕ, Bool, false, Option, Some, None, List, slice_get}
use Rattle.rl_base.specs.declared.ids.IdentifierId.{IdentifierId}
use Rattle.rl_code.specs.Flags.{flag_at}
use Rattle.rl_trace.specs.Shared.{identifier_in, or_false}

-- The identifier of a symbol in a table.
abbrev pub identifier_at : List (Option IdentifierId) → (symbol : ℕ) → Option ℕ
identifier_at table symbol = identifier_in (slice_get table symbol)

-- The flag of an identifier, if there is one.
abbrev pub has_flag : (flags : List Bool) → Option IdentifierId → Bool
has_flag flags None = false
has_flag flags (Some identifier) = flag_at flags identifier.0

-- The flag of a symbol; false past the end.
abbrev pub symbol_flag : List Bool → (symbol : ℕ) → Bool
symbol_flag flags symbol = or_false (slice_get flags symbol)
