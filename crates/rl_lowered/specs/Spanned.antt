-- Trees whose spans have a property, and states whose spans do.
use Rattle.std.specs.Prelude.{◌≡◌, ℕ, Some, All}
use Rattle.rl_base.specs.declared.span.Span.{Span}
use Rattle.rl_builder.specs.Builder.{State}
use Rattle.rl_context.specs.Index.{declaration_span}
use Rattle.rl_promises.specs.Spans.{AreSpannedIdentifiers, IsSpannedInstruction, IsSpannedTerminal}
use Rattle.rl_syntax.specs.Syntax.{Syntax, Node, Listed, Said, Count, Flag, Absent, Pieces, End, Then}

abbrev mutual
  -- `P` holds of the span of each node of the tree.
  pub EachSpan : (P : Span → Type 0) → Syntax → Type 0
  EachSpan P (Node at word parts) = P at.span × EachSpanAmong P parts
  EachSpan P (Listed parts) = EachSpanAmong P parts
  EachSpan P (Said text) = Unit {0}
  EachSpan P (Count number) = Unit {0}
  EachSpan P (Flag flag) = Unit {0}
  EachSpan P Absent = Unit {0}

  -- As `EachSpan`, for parts in a row.
  pub EachSpanAmong : (P : Span → Type 0) → Pieces → Type 0
  EachSpanAmong P End = Unit {0}
  EachSpanAmong P (Then piece pieces) = EachSpan P piece × EachSpanAmong P pieces

-- The spans of instructions, of the ends of completed blocks, and of identifiers are absent, or `P` holds of them, as it does of the spans
-- of declarations that the index has.
pub record HasSpans (P : Span → Type 0) (s : State) : Type 0 where
  pub table : All (IsSpannedInstruction P) s.table
  pub terminals : All (λ b. IsSpannedTerminal P b.1.terminal) s.completed
  pub identifiers : AreSpannedIdentifiers P s.env.identifiers
  pub declarations : (symbol : ℕ) (span : Span) → declaration_span s.sites s.semantic.bindings.symbols symbol ≡ Some span → P span

-- The spans of `new` have the property where those of `old` do.
abbrev pub KeepsSpans : (P : Span → Type 0) → (old new : State) → Type 0
KeepsSpans P old new = HasSpans P old → HasSpans P new
