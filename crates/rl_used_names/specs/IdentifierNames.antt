-- The names of identifiers, and the diagnostics of names.
use Rattle.std.specs.Prelude.{◌≡◌, ℕ, Bool, true, false, List, [], codes, slice_get}
use Rattle.std.specs.Prelude.{Option, Some, None}
use Rattle.std.specs.Option.{option_map_or}
use Rattle.std.specs.Str.{bytes_eq}
use Rattle.rl_base.specs.Diagnostics.{diagnostic_at}
use Rattle.rl_base.specs.declared.diagnostic.Diagnostic.{Diagnostic}
use Rattle.rl_base.specs.declared.row.Row.TheVariants as rows
use Rattle.rl_base.specs.declared.span.Span.{Span}
use Rattle.rl_hir.specs.Pairs.{identifier_of}
use Rattle.rl_hir.specs.declared.function.Identifier.{Identifier}
use Rattle.rl_hir.specs.declared.function.IdentifierName.{IdentifierName}
use Rattle.rl_hir.specs.declared.function.IdentifierName.TheVariants as names
use Rattle.rl_hir.specs.declared.function.Pair.{Pair}
use Rattle.rl_used_names.specs.UsedName.{UsedName, user_of}

-- The name of an identifier; None for a temporary, and past the end of the table.
abbrev pub name_of : List Identifier → ℕ → Option IdentifierName
name_of identifiers identifier = option_map_or (λ i. i.name) (slice_get identifiers identifier) None

-- True if the name is `word` and comes from the source.
abbrev pub is_named : Option IdentifierName → List ℕ → Bool
is_named None word = false
is_named (Some (names.Named text)) word = bytes_eq text word
is_named (Some (names.Promoted text)) word = false

-- The local name that row F40 refuses.
abbrev pub fbt : List ℕ
fbt = codes "fbt"

-- True if the symbol has no identifier, or its identifier is still named `fbt`.
abbrev pub is_fbt : Option ℕ → List Identifier → Bool
is_fbt None identifiers = true
is_fbt (Some known) identifiers = is_named (name_of identifiers known) fbt

-- The diagnostic of row F40, at a local named `fbt`.
abbrev pub fbt_diagnostic : (label : Span) → Diagnostic
fbt_diagnostic label = diagnostic_at rows.F40 [] label

-- The diagnostic of row S1, at a local whose name is reserved.
abbrev pub reserved_diagnostic : (name : List ℕ) → (label : Span) → Diagnostic
reserved_diagnostic name label = diagnostic_at rows.S1 name label

-- The identifier has a name of the source, and the name is the symbol's.
pub record IsNamedFor (used : List UsedName) (identifiers : List Identifier) (symbol identifier : ℕ) : Type 0 where
  pub name : List ℕ
  pub named : name_of identifiers identifier ≡ Some (names.Named name)
  pub user : user_of used name ≡ Some symbol

-- The identifier of each symbol has a name of the source, and the name is the symbol's.
pub record AreNamed (bindings : List Pair) (used : List UsedName) (identifiers : List Identifier) : Type 0 where
  pub named : (symbol identifier : ℕ) → identifier_of bindings symbol ≡ Some identifier → IsNamedFor used identifiers symbol identifier
