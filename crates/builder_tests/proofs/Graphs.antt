-- The conditions of `build` for the graph with an `if`: it is whole, its blocks list entries of the table, and its orders have room.
use Rattle.std.proofs.Common.{◌≡◌, ◌<◌, false, All, None, [], ◌∷◌, length, refl, ap, ◌∙◌, arith}
use Rattle.std.proofs.lemmas.List.Elements.{All-from_recursion, All-nil}
use Rattle.builder_tests.specs.Branch.{with_empty_if}
use Rattle.rl_base.specs.declared.ids.InstructionId.{InstructionId}
use Rattle.rl_builder.specs.Build.{graph_of}
use Rattle.rl_builder.specs.Builder.{State, pushed, terminated, with_temporary}
use Rattle.rl_builder.specs.Started.{Given, started}
use Rattle.rl_builder.specs.Temporaries.{temporary, unordered}
use Rattle.rl_hir.specs.Blocks.{Pair}
use Rattle.rl_hir.specs.declared.environment.Environment.{Environment}
use Rattle.rl_hir.specs.declared.function.BlockKind.TheVariants as kinds
use Rattle.rl_hir.specs.declared.function.ReactFunctionType.TheVariants as types
use Rattle.rl_hir.specs.declared.instruction.Instruction.{Instruction}
use Rattle.rl_hir.specs.declared.instruction.InstructionValue.TheVariants as values
use Rattle.rl_hir.specs.declared.instruction.Place.{Place}
use Rattle.rl_hir.specs.declared.instruction.PrimitiveValue.TheVariants as primitives
use Rattle.rl_hir.specs.declared.terminal.ReturnVariant.TheVariants as returns
use Rattle.rl_hir.specs.declared.terminal.Terminal.{Terminal}
use Rattle.rl_hir.specs.declared.terminal.TerminalKind.TheVariants as ends
use Rattle.rl_order.proofs.WholeGraphs.{all_inside}
use Rattle.rl_order.specs.Walk.{IsWhole}

-- An environment of nothing.
abbrev pub fresh : Environment
fresh = record {
  fn_type = types.Other;
  next_block = 0;
  next_type = 0;
  identifiers = [];
  functions = [];
  pairs = [];
  diagnostics = [];
  entities = [];
  hoisted = [];
  renames = [];
  skip = false;
}

abbrev pub undefined : Place → Instruction
undefined place = unordered place (values.Primitive primitives.Undefined) None

abbrev pub returned : Place → Terminal
returned place = record { order = record { 0 = 0 }; span = None; kind = ends.Return returns.Explicit place }

abbrev pub begun : Given → State
begun given = started fresh given kinds.Block

-- The builder behind the moves, which test a place and return it.
abbrev pub behind : State → Place → State
behind s test = terminated (with_empty_if (pushed (with_temporary s None) (undefined test)) test) (returned test) None

abbrev pub made : Given → State
made given = behind (begun given) (temporary (begun given) None)

module _ (given : Given) (s1 s2 s3 s4 s5 : State) (test : Place) (is : s1 ≡ begun given) (given_one : s2 ≡ with_temporary s1 None) (placed : test ≡ temporary s1 None) (set : s3 ≡ pushed s2 (undefined test)) where
  -- The state before the `if`.
  pub set_is : s3 ≡ pushed (with_temporary (begun given) None) (undefined test)
  set_is = set ∙ ap (λ (s : State). pushed s (undefined test)) (given_one ∙ ap (λ (s : State). with_temporary s None) is)

  pub made_is : s4 ≡ with_empty_if s3 test → s5 ≡ terminated s4 (returned test) None → s5 ≡ made given
  made_is tested ended =
      ended ∙ ap (λ (s : State). terminated s (returned test) None) (tested ∙ ap (λ (s : State). with_empty_if s test) set_is)
      ∙ ap (behind (begun given)) (placed ∙ ap (λ (s : State). temporary s None) is)

module _ (given : Given) where
  pub whole : IsWhole (graph_of (made given)) (made given).entry
  whole = all_inside (graph_of (made given)) (record { 0 = 0 }) 3 (omega arith) refl refl

  abbrev IsEntry : InstructionId → Type 0
  IsEntry id = id.0 < 1

  abbrev AreListed : Pair → Type 0
  AreListed p = All IsEntry p.1.instructions

  pub listed : All (λ p. All (λ id. id.0 < length (made given).table) p.1.instructions) (graph_of (made given))
  listed =
      All-from_recursion AreListed (graph_of (made given)) (All-nil IsEntry, (All-from_recursion IsEntry (record { 0 = 0 } ∷ []) (omega arith, tt), (All-nil IsEntry, tt)))
