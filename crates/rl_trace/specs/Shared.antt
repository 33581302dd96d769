-- The world that a run reads off its tables.
use Rattle.std.specs.Prelude.{ℕ, Bool, false, Option, Some, None, map, slice_get}
use Rattle.rl_base.specs.declared.ids.IdentifierId.{IdentifierId}
use Rattle.rl_machine.specs.Traces.{World}
use Rattle.rl_trace.specs.declared.shared.Numbers.{Numbers}
use Rattle.rl_trace.specs.declared.shared.Numbers.TheVariants as numbers
use Rattle.rl_trace.specs.declared.shared.Shared.{Shared}

abbrev pub identifier_in : Option (Option IdentifierId) → Option ℕ
identifier_in (Some (Some identifier)) = Some identifier.0
identifier_in (Some None) = None
identifier_in None = None

-- The number of a symbol.
abbrev pub ident_of : Numbers → ℕ → Option ℕ
ident_of numbers.Own symbol = Some symbol
ident_of (numbers.Identifiers identifiers) symbol = identifier_in (slice_get identifiers.now symbol)

abbrev pub or_false : Option Bool → Bool
or_false (Some flag) = flag
or_false None = false

abbrev pub world_of : Shared → World
world_of s = record {
  opens = λ symbol. or_false (slice_get s.open.now symbol);
  keeps = map (λ symbol. symbol.0) s.kept.now;
}
