-- Entries of the maps of a builder, and the look-up of a name.
use Rattle.std.specs.Prelude.{ℕ, if◌then◌else◌, Option, Some, None, List, [], ◌∷◌}
use Rattle.std.specs.Str.{bytes_eq}
use Rattle.rl_base.specs.declared.ids.IdentifierId.{IdentifierId}
use Rattle.rl_base.specs.declared.ids.SymbolId.{SymbolId}
use Rattle.rl_hir.specs.declared.function.Pair.{Pair}
use Rattle.rl_used_names.specs.declared.names.NameUser.{NameUser}
pub use Rattle.rl_used_names.specs.Candidates.{candidate}

-- A name, and the id of the symbol that has it.
pub record UsedName : Type 0 where
  pub name : List ℕ
  pub symbol : ℕ

-- An entry of the map from symbols to identifiers, as a pair.
abbrev pub pair_of : SymbolId × IdentifierId → Pair
pair_of entry = record { symbol = entry.0; identifier = entry.1 }

-- An entry of the table of names.
abbrev pub used_name_of : NameUser → UsedName
used_name_of user = record { name = user.name; symbol = user.symbol.0 }

-- The symbol that has a name.
abbrev pub user_of : List UsedName → List ℕ → Option ℕ
user_of [] name = None
user_of (u ∷ used) name = if bytes_eq name u.name then Some u.symbol else user_of used name
