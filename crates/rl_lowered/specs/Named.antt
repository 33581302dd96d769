-- Names in the middle of the lowering: the identifiers that symbols got so far.
use Rattle.std.specs.Prelude.{◌≡◌, ◌≢◌, ◌<◌, ℕ, length, Some, None, Option, option_map, List, [], All, slice_get}
use Rattle.rl_base.specs.declared.span.Span.{Span}
use Rattle.rl_builder.specs.Builder.{State}
use Rattle.rl_builder.specs.Names.{NamesAgree, resolved}
use Rattle.rl_hir.specs.Pairs.{identifier_of}
use Rattle.rl_hir.specs.declared.function.Identifier.{Identifier}
use Rattle.rl_names.specs.Names.{Names}
use Rattle.rl_promises.specs.Fields.{IsNamedPair}
use Rattle.rl_promises.specs.Locals.{IsVariable, KnowsNames}
use Rattle.rl_base.specs.declared.ids.SymbolId.{SymbolId}
use Rattle.rl_resolver.specs.Lookups.{declaration_ident}
use Rattle.rl_runs.specs.Facts.{HasSoundNames}
use Rattle.rl_semantic.specs.declared.semantic.Semantic.{Semantic}
use Rattle.rl_used_names.specs.IdentifierNames.{fbt}

-- The span of a symbol's declaration identifier, by the tables of a unit. None of a symbol without one.
abbrev pub declared_span : Semantic → (symbol : ℕ) → Option Span
declared_span semantic symbol = option_map (λ b. b.span) (declaration_ident semantic.bindings.symbols symbol)

-- The names tell the declaration identifiers that the tables have.
abbrev pub TellDeclarations : Names → Semantic → Type 0
TellDeclarations names semantic = (symbol : ℕ) → names.declaration symbol ≡ declared_span semantic symbol

-- The names are those of the builder's tables. The identifiers of symbols were made, and a variable `fbt` that has one was refused.
pub record IsNamed (names : Names) (s : State) : Type 0 where
  pub knows : KnowsNames names
  pub declared : TellDeclarations names s.semantic
  pub made : (symbol identifier : ℕ) → identifier_of s.bindings symbol ≡ Some identifier → identifier < length s.env.identifiers
  pub noted : (symbol identifier : ℕ) → identifier_of s.bindings symbol ≡ Some identifier → names.name symbol ≡ fbt
      → s.env.diagnostics ≢ []

-- The state behind the look-up of a variable: it has an identifier, or gets one.
abbrev pub found : Names → State → SymbolId → (at : Span) → State
found names s symbol at = resolved s (names.name symbol.0) symbol.0 (Some at)

-- The look-up of a variable, from the state `s`, gives the identifier.
pub record IsFound (names : Names) (s : State) (symbol : SymbolId) (at : Span) (identifier : ℕ) : Type 0 where
  pub named : IsNamed names s
  pub variable : IsVariable names symbol
  pub bound : identifier_of (found names s symbol at).bindings symbol.0 ≡ Some identifier
  pub agree : NamesAgree s → NamesAgree (found names s symbol at)

-- The list has an identifier at the index, which is `known` but for its span.
pub record HasAgain (identifiers : List Identifier) (identifier : ℕ) (known : Identifier) : Type 0 where
  pub span : Option Span
  pub is : slice_get identifiers identifier ≡ Some (record known { span = span })

-- An identifier that has a name keeps all but its span.
abbrev pub KeepsNamed : (old new : List Identifier) → Type 0
KeepsNamed old new =
    (identifier : ℕ) (known : Identifier) → slice_get old identifier ≡ Some known → known.name ≢ None → HasAgain new identifier known

-- Each symbol that has an identifier keeps it, and the identifier keeps all but its span: that is `behind symbol before` in the end, where
-- it was `before`.
pub record Respans (behind : (symbol : ℕ) → (before : Span) → Span) (old new : State) : Type 0 where
  pub sound : HasSoundNames old → HasSoundNames new
  pub bound : HasSoundNames old → (symbol identifier : ℕ) → identifier_of old.bindings symbol ≡ Some identifier
      → identifier_of new.bindings symbol ≡ Some identifier
  pub keeps : HasSoundNames old → (symbol identifier : ℕ) (known : Identifier) (before : Span)
      → identifier_of old.bindings symbol ≡ Some identifier
      → slice_get old.env.identifiers identifier ≡ Some (record known { span = Some before })
      → slice_get new.env.identifiers identifier ≡ Some (record known { span = Some (behind symbol before) })

-- The identifiers of the pairs are named for their symbols.
abbrev pub HasNamedPairs : Names → State → Type 0
HasNamedPairs names s = All (IsNamedPair names s.env.identifiers) s.env.pairs

-- The names of `old` stay, no function is added, and the unit is skipped as it was.
pub record KeepsNames (names : Names) (old new : State) : Type 0 where
  pub named : IsNamed names old → IsNamed names new
  pub identifiers : KeepsNamed old.env.identifiers new.env.identifiers
  pub pairs : HasNamedPairs names old → HasNamedPairs names new
  pub functions : new.env.functions ≡ old.env.functions
  pub fn_type : new.env.fn_type ≡ old.env.fn_type
  pub skip : new.env.skip ≡ old.env.skip
