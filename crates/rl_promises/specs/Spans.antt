-- Spans of a result: each is that of a node of the function, or absent.
use Rattle.std.specs.Prelude.{◌≡◌, ◌⊎◌, Option, Some, None, IfSome, List, All, map}
use Rattle.rl_base.specs.declared.span.Span.{Span}
use Rattle.rl_hir.specs.Blocks.{Pair as BlockPair}
use Rattle.rl_hir.specs.declared.function.HirFunction.{HirFunction}
use Rattle.rl_hir.specs.declared.function.Identifier.{Identifier}
use Rattle.rl_hir.specs.declared.instruction.Instruction.{Instruction}
use Rattle.rl_hir.specs.declared.instruction.InstructionValue.{InstructionValue}
use Rattle.rl_hir.specs.declared.instruction.InstructionValue.TheVariants as values
use Rattle.rl_hir.specs.declared.instruction.Place.{Place}
use Rattle.rl_hir.specs.declared.terminal.Terminal.{Terminal}
use Rattle.rl_model.specs.WellFormed.{instruction_places, param_place, terminal_places}
use Rattle.rl_syntax.specs.Syntax.{Syntax, Node, Listed, Said, Count, Flag, Absent, Pieces, End, Then}

abbrev mutual
  -- A node of the tree has the span.
  pub IsSpanOf : Syntax → Span → Type 0
  IsSpanOf (Node at word parts) span = (at.span ≡ span) ⊎ IsSpanAmong parts span
  IsSpanOf (Listed parts) span = IsSpanAmong parts span
  IsSpanOf (Said text) span = ⊥
  IsSpanOf (Count number) span = ⊥
  IsSpanOf (Flag flag) span = ⊥
  IsSpanOf Absent span = ⊥

  -- As `IsSpanOf`, for parts in a row.
  pub IsSpanAmong : Pieces → Span → Type 0
  IsSpanAmong End span = ⊥
  IsSpanAmong (Then piece pieces) span = IsSpanOf piece span ⊎ IsSpanAmong pieces span

-- The spans of the places are absent, or `P` holds of them.
abbrev pub AreSpanned : (P : Span → Type 0) → List Place → Type 0
AreSpanned P places = All (λ p. IfSome p.span P) places

-- The span of the type in a cast. None of any other value.
abbrev pub type_span : InstructionValue → Option Span
type_span (values.TypeCastExpression p cast at) = at
type_span value = None

-- The spans of an instruction, of the type in it, and of its places are absent, or `P` holds of them.
pub record IsSpannedInstruction (P : Span → Type 0) (i : Instruction) : Type 0 where
  pub own : IfSome i.span P
  pub cast : IfSome (type_span i.value) P
  pub places : AreSpanned P (instruction_places i)

-- As `IsSpannedInstruction`, for the end of a block.
pub record IsSpannedTerminal (P : Span → Type 0) (t : Terminal) : Type 0 where
  pub own : IfSome t.span P
  pub places : AreSpanned P (terminal_places t)

-- As `IsSpannedInstruction`, for identifiers.
abbrev pub AreSpannedIdentifiers : (P : Span → Type 0) → List Identifier → Type 0
AreSpannedIdentifiers P identifiers = All (λ i. IfSome i.span P) identifiers

-- Each span of a graph and of the identifiers is absent, or that of a node of the function.
pub record IsSpanned (function : Syntax) (f : HirFunction (List BlockPair)) (identifiers : List Identifier) : Type 0 where
  pub own : IfSome f.span (IsSpanOf function)
  pub table : All (IsSpannedInstruction (IsSpanOf function)) f.instructions
  pub terminals : All (λ b. IsSpannedTerminal (IsSpanOf function) b.1.terminal) f.body.blocks
  pub params : AreSpanned (IsSpanOf function) (map param_place f.params)
  pub context : AreSpanned (IsSpanOf function) f.context
  pub returns : IfSome f.returns.span (IsSpanOf function)
  pub named : AreSpannedIdentifiers (IsSpanOf function) identifiers
