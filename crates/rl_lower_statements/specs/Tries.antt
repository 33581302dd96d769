-- `try` statements by their parts, and the moves in front of them.
use Rattle.std.specs.Prelude.{◌≡◌, ℕ, ◌+◌, ◌≤◌, Some}
use Rattle.rl_base.specs.declared.ids.SymbolId.{SymbolId}
use Rattle.rl_base.specs.declared.row.Row.TheVariants as row
use Rattle.rl_base.specs.declared.span.Span.{Span}
use Rattle.rl_builder.specs.Builder.{State, recorded}
use Rattle.rl_builder.specs.Temporaries.{with_value}
use Rattle.rl_hir.specs.declared.instruction.InstructionKind.TheVariants as kinds
use Rattle.rl_hir.specs.declared.instruction.InstructionValue.TheVariants as values
use Rattle.rl_hir.specs.declared.instruction.Place.{Place}
use Rattle.rl_lowered.specs.Named.{IsFound, IsNamed, found}
use Rattle.rl_names.specs.Names.{Names}
use Rattle.rl_promises.specs.Rows.{refusal}
use Rattle.rl_runs.specs.Blocks.{size_of}
use Rattle.rl_syntax.specs.declared.numbered.At.{At}
use Rattle.rl_syntax.specs.declared.word.Word.TheVariants as word
use Rattle.rl_syntax.specs.Syntax.{Syntax, Node, Absent, Then, End}

-- A `try` statement with a `catch` at `there`, and no finalizer.
abbrev pub caught_try : (at there : At) → (block param body : Syntax) → Syntax
caught_try at there block param body =
    Node at word.Try (Then block (Then (Node there word.Catch (Then param (Then body End))) (Then Absent End)))

-- The state in front of a `try` statement with a `catch`, which is refused if it has a finalizer (row F35), and lowered all the same.
abbrev pub noted_finalizer : State → Span → (finalizer : Syntax) → State
noted_finalizer s at Absent = s
noted_finalizer s at finalizer = recorded s (refusal row.F35 at)

-- The value was stored to the variable that the `bind` node at `bind` declares.
pub record IsStored (names : Names) (bind : At) (value : Place) (old new : State) : Type 0 where
  pub symbol : SymbolId
  pub identifier : ℕ
  pub declared : names.declared bind.id.0 ≡ Some symbol
  pub bound : IsFound names old symbol bind.span identifier
  pub moved : new ≡ with_value (found names old symbol bind.span)
      (values.StoreLocal kinds.Catch (record { identifier = record { 0 = identifier }; span = Some bind.span }) value) (Some bind.span)
  pub named : IsNamed names new
  pub size : size_of new ≤ size_of old + 6
