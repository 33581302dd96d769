-- The conditions under which the ordering of a graph and the passes over it keep its runs.
use Rattle.std.specs.Prelude.{◌≡◌, ℕ, Option, Some, List, [], ◌∷◌}
use Rattle.rl_base.specs.declared.ids.BlockId.{BlockId}
use Rattle.rl_hir.specs.Blocks.{block_at}
use Rattle.rl_hir.specs.Terminals.{fields_of, follows}
use Rattle.rl_hir.specs.declared.function.BasicBlock.{BasicBlock}
use Rattle.rl_hir.specs.declared.instruction.Instruction.{Instruction}
use Rattle.rl_hir.specs.declared.instruction.Place.{Place}
use Rattle.rl_hir.specs.declared.terminal.TerminalKind.{TerminalKind}
use Rattle.rl_hir.specs.declared.terminal.TerminalKind.TheVariants as kinds
use Rattle.rl_machine.specs.Machine.{Graph, Runs, code_of, graph_trace, item_in}
use Rattle.rl_machine.specs.Prunes.{Each, PassesOnce, ReadsNote}
use Rattle.rl_machine.specs.Traces.{World}
use Rattle.rl_machine.specs.declared.trace.Answer.{Answer}
use Rattle.rl_machine.specs.declared.trace.Assignment.{Assignment}
use Rattle.rl_machine.specs.declared.trace.Trace.{Trace}
use Rattle.rl_machine.specs.declared.trace.Value.{Value}
use Rattle.rl_order.specs.Reached.{IsReached}

abbrev pub Reached : Graph → ℕ → Type 0
Reached g id = IsReached g.blocks g.entry (record { 0 = id })

-- A block to which successors lead from the entry ends so.
pub record EndsAs (g : Graph) (id : BlockId) (kind : TerminalKind) : Type 0 where
  pub reached : Reached g id.0
  pub block : BasicBlock
  pub there : block_at g.blocks id ≡ Some block
  pub ends : block.terminal.kind ≡ kind

-- An instruction that reads the note of its block stands in this one.
pub record StepsAt (g : Graph) (id : ℕ) : Type 0 where
  pub reached : Reached g id
  pub block : BasicBlock
  pub there : block_at g.blocks (record { 0 = id }) ≡ Some block
  pub place : ℕ
  pub instruction : Instruction
  pub item : item_in g.table block place ≡ Some (Runs instruction)
  pub reads : ReadsNote instruction

-- The note of this block is read: it is the fallthrough of a branch, a handler, or the block of a step.
pub data ReadsAt (g : Graph) : ℕ → Type 0 where
  ByBranch : (id : BlockId) (test : Place) (consequent alternate fallthrough : BlockId) → EndsAs g id (kinds.Branch test consequent alternate fallthrough) → ReadsAt g fallthrough.0
  ByThrow : (id continuation handler : BlockId) → EndsAs g id (kinds.MaybeThrow continuation (Some handler)) → ReadsAt g handler.0
  ByStep : (id : ℕ) → StepsAt g id → ReadsAt g id

-- The blocks of a loop to which its own terminal does not lead: the test, the body and the block behind it. A `do`-`while` loop may have
-- a test that no run comes to.
abbrev pub loop_blocks : TerminalKind → List BlockId
loop_blocks (kinds.While test body fallthrough) = test ∷ body ∷ fallthrough ∷ []
loop_blocks (kinds.For init test update body fallthrough) = test ∷ body ∷ fallthrough ∷ []
loop_blocks (kinds.ForIn init body fallthrough) = body ∷ fallthrough ∷ []
loop_blocks (kinds.ForOf init test body fallthrough) = test ∷ body ∷ fallthrough ∷ []
loop_blocks _ = []

-- The ordering drops the block: no reached block leads to it, and it is the fallthrough of none.
pub record IsDropped (g : Graph) (id : BlockId) : Type 0 where
  pub unreached : Reached g id.0 → ⊥
  pub behind_none : (from : BlockId) (kind : TerminalKind) → EndsAs g from kind → follows (fields_of kind) ≡ Some id → ⊥

-- The conditions on a graph that is to be ordered.
pub record MayOrder (g : Graph) : Type 0 where
  -- no block has predecessors yet
  pub fresh : (id : BlockId) (block : BasicBlock) → block_at g.blocks id ≡ Some block → block.preds ≡ []
  -- no reached block ends as unreachable
  pub ended : (id : BlockId) → EndsAs g id kinds.Unreachable → ⊥
  -- the blocks of each loop are reached
  pub loops : (id : BlockId) (kind : TerminalKind) → EndsAs g id kind → Each (Reached g) (loop_blocks kind)
  -- no step reads the note of a `do`-`while` loop
  pub steps : (id body test fallthrough : BlockId) → EndsAs g id (kinds.DoWhile body test fallthrough)
      → (StepsAt g test.0 → ⊥) × (StepsAt g fallthrough.0 → ⊥)
  -- no note is read of a `do`-`while` loop without its test, and of a `try` without its handler
  pub dead_loops : (id body test fallthrough : BlockId) → EndsAs g id (kinds.DoWhile body test fallthrough) → IsDropped g test
      → (ReadsAt g test.0 → ⊥) × (ReadsAt g fallthrough.0 → ⊥)
  pub dead_tries : (id block : BlockId) (binding : Option Place) (handler fallthrough : BlockId) → EndsAs g id (kinds.Try block binding handler fallthrough)
      → IsDropped g handler → (ReadsAt g handler.0 → ⊥) × (ReadsAt g fallthrough.0 → ⊥)

-- The second graph has the traces of the first, in every world where no silent steps in a row of the first pass a point twice.
abbrev pub KeepsRuns : (before after : Graph) → Type 0
KeepsRuns before after =
    (stuck : Trace) (ident : ℕ → Option ℕ) (world : World) (params : List ℕ) → PassesOnce (code_of before ident world) before.entry params
    → (start : List Assignment) (arguments : List Value) (answers : List Answer)
    → graph_trace stuck after ident world params start arguments answers ≡ graph_trace stuck before ident world params start arguments answers
