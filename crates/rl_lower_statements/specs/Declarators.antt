-- Declarators of variables that were lowered.
use Rattle.std.specs.Prelude.{◌≡◌, ℕ, ◌+◌, ◌≤◌, Bool, true, false, Some}
use Rattle.rl_base.specs.declared.ids.SymbolId.{SymbolId}
use Rattle.rl_base.specs.declared.span.Span.{Span}
use Rattle.rl_builder.specs.Builder.{State}
use Rattle.rl_hir.specs.declared.instruction.InstructionKind.{InstructionKind}
use Rattle.rl_lowered.specs.Items.{met, redeclared}
use Rattle.rl_lowered.specs.Lowered.{LoweredDeclarators}
use Rattle.rl_lowered.specs.Named.{IsFound, IsNamed, found}
use Rattle.rl_lowered.specs.Promised.{share}
use Rattle.rl_names.specs.Names.{Names}
use Rattle.rl_runs.specs.Blocks.{size_of}
use Rattle.rl_syntax.specs.declared.numbered.At.{At}
use Rattle.rl_syntax.specs.Syntax.{Syntax, Pieces, Then, nodes}

-- The variable that the `bind` node at `bind` declares has the identifier, which it got between the states if it had none.
pub record IsDeclared (names : Names) (bind : At) (old new : State) (identifier : ℕ) : Type 0 where
  pub symbol : SymbolId
  pub declared : names.declared bind.id.0 ≡ Some symbol
  pub moved : new ≡ found names old symbol bind.span
  pub bound : IsFound names old symbol bind.span identifier
  pub named : IsNamed names new
  pub size : size_of new ≤ size_of old + 2

-- The state behind a name whose identifier gets its span, in the head of a loop, where `again` is true.
abbrev pub respanned : (again : Bool) → State → (identifier : ℕ) → Span → State
respanned true s identifier span = redeclared s identifier span
respanned false s identifier span = s

-- As `IsDeclared`, where the identifier gets the span of the name if `again` is true.
pub record IsMet (names : Names) (again : Bool) (bind : At) (old new : State) (identifier : ℕ) : Type 0 where
  pub symbol : SymbolId
  pub declared : names.declared bind.id.0 ≡ Some symbol
  pub moved : new ≡ met again names old symbol identifier bind.span
  pub bound : IsFound names old symbol bind.span identifier
  pub named : IsNamed names new
  pub size : size_of new ≤ size_of old + 2

-- A declarator was lowered, in a declaration with the span `at` of variables of the kind, and others may be lowered behind it.
pub record LowersDeclarator (names : Names) (at : Span) (kind : InstructionKind) (tree : Syntax) (old new : State) : Type 0 where
  pub next : (more : Pieces) (last : State) → LoweredDeclarators names at kind more new last
      → LoweredDeclarators names at kind (Then tree more) old last
  pub named : IsNamed names new
  pub size : size_of new ≤ size_of old + share (nodes tree)
