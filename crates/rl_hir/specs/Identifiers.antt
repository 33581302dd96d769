-- Identifiers that were changed.
use Rattle.std.specs.Prelude.{ℕ, Some, None, List, slice_get, slice_set}
use Rattle.rl_base.specs.declared.span.Span.{Span}
use Rattle.rl_hir.specs.declared.function.Identifier.{Identifier}
use Rattle.rl_hir.specs.declared.function.IdentifierName.{IdentifierName}
use Rattle.rl_hir.specs.declared.function.IdentifierName.TheVariants as names

-- The identifier with another name.
abbrev pub with_name : IdentifierName → Identifier → Identifier
with_name name i = record i { name = Some name }

-- The identifier with another span.
abbrev pub with_span : Span → Identifier → Identifier
with_span span i = record i { span = Some span }

-- The list with the item at `index` changed; past the end nothing changes.
abbrev pub changed_at : {X : Type 0} → (X → X) → (index : ℕ) → List X → List X
changed_at change index items = elim (slice_get items index) [
  | Some item ↦ slice_set items index (change item)
  | None ↦ items
]

-- The identifier that stands for a symbol: its name, the span of the symbol's declaration, and its type variable.
abbrev pub named_identifier : List ℕ → Span → ℕ → Identifier
named_identifier name declaration type_id = record { name = Some (names.Named name); span = Some declaration; type_id = record { 0 = type_id } }
