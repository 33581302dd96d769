-- The state of a function under construction, and the moves on it.
use Rattle.std.specs.Prelude.{ℕ, ◌+◌, ◌-◌, ◌^◌, Option, Some, None, List, [], ◌∷◌, ◌++◌, length, slice_get}
use Rattle.rl_base.specs.declared.diagnostic.Diagnostic.{Diagnostic}
use Rattle.rl_base.specs.declared.ids.BlockId.{BlockId}
use Rattle.rl_base.specs.declared.ids.ScopeId.{ScopeId}
use Rattle.rl_base.specs.declared.ids.SymbolId.{SymbolId}
use Rattle.rl_base.specs.declared.span.Span.{Span}
use Rattle.rl_builder.specs.Tables.{Tables}
use Rattle.rl_used_names.specs.UsedName.{UsedName}
use Rattle.rl_builder.specs.declared.blocks.WipBlock.{WipBlock}
use Rattle.rl_builder.specs.declared.builder.Over.{Over}
use Rattle.rl_builder.specs.declared.builder.Work.{Work}
use Rattle.rl_builder.specs.declared.jumps.JumpScope.{JumpScope}
use Rattle.rl_context.specs.declared.site.Site.{Site}
use Rattle.rl_hir.specs.Blocks.{Pair as BlockPair}
use Rattle.rl_hir.specs.Symbols.{added}
use Rattle.rl_hir.specs.declared.environment.Environment.{Environment}
use Rattle.rl_hir.specs.declared.function.BlockKind.{BlockKind}
use Rattle.rl_hir.specs.declared.function.BlockKind.TheVariants as kinds
use Rattle.rl_hir.specs.declared.function.Pair.{Pair}
use Rattle.rl_hir.specs.declared.instruction.Instruction.{Instruction}
use Rattle.rl_hir.specs.declared.terminal.Terminal.{Terminal}
use Rattle.rl_hir.specs.declared.terminal.TerminalKind.TheVariants as ends
use Rattle.rl_names.specs.Names.{Names}
use Rattle.rl_names.specs.Seen.{shown}
use Rattle.rl_semantic.specs.declared.semantic.Semantic.{Semantic}
use Rattle.rl_syntax.specs.declared.numbered.At.{At}

-- `env` is shared by the builders of a unit. `completed` are the blocks that have a terminal, in the order in which they got it;
-- `table` is the instruction table, indexed by instruction id. `handlers` and `scopes` are stacks, the innermost last. `semantic` are
-- the tables of the unit, `function` are the ids of the marked function, and `sites` is its index.
pub record State : Type 0 where
  pub env : Environment
  pub completed : List BlockPair
  pub current : WipBlock
  pub entry : BlockId
  pub table : List Instruction
  pub handlers : List BlockId
  pub scopes : List JumpScope
  pub bindings : List Pair
  pub used_names : List UsedName
  pub context : List (SymbolId × Span)
  pub context_identifiers : List SymbolId
  pub semantic : Semantic
  pub function : At
  pub sites : List Site
  pub function_scope : ScopeId
  pub component_scope : ScopeId
  pub fbt_depth : ℕ

-- The state of a builder, over what it reads of its unit.
abbrev pub state_of : {U B : Type 0} → (tables : U → Tables) → Over (Work U B) → State
state_of tables b = record {
  env = b.env.now;
  completed = b.work.completed.items;
  current = b.work.current;
  entry = b.work.entry;
  table = b.work.instructions.items;
  handlers = b.work.handlers.items;
  scopes = b.work.scopes.items;
  bindings = b.work.bindings;
  used_names = b.work.used_names;
  context = b.work.context.entries;
  context_identifiers = b.work.context_identifiers.keys;
  semantic = (tables b.work.unit).semantic;
  function = b.work.function;
  sites = (tables b.work.unit).sites;
  function_scope = b.work.function_scope;
  component_scope = b.work.component_scope;
  fbt_depth = b.fbt_depth;
}

-- The names of the unit in the lowering of the marked function.
abbrev pub names_of : State → Names
names_of s = shown s.semantic s.function

-- The last of a stack. None of the empty one.
abbrev pub innermost : {X : Type 0} → List X → Option X
innermost stack = slice_get stack (length stack - 1)

-- An empty block.
abbrev pub new_block : ℕ → BlockKind → WipBlock
new_block id kind = record { id = record { 0 = id }; instructions = []; kind = kind }

-- The empty block that stands for the current one after the last; it is in no graph.
abbrev pub placeholder : WipBlock
placeholder = new_block (2 ^ 32 - 1) kinds.Block

-- The environment after a block id was handed out.
abbrev pub one_block_more : Environment → Environment
one_block_more env = record env { next_block = env.next_block + 1 }

-- The state after a block was reserved.
abbrev pub reserved : State → State
reserved s = record s { env = one_block_more s.env }

-- The environment with one more identifier: without a name, with the span if there is one, of a type variable of its own.
abbrev pub one_identifier_more : Environment → Option Span → Environment
one_identifier_more env span = record env {
  next_type = env.next_type + 1;
  identifiers = env.identifiers ++ record { name = None; span = span; type_id = record { 0 = env.next_type } } ∷ [];
}

-- The state with one more identifier without a name.
abbrev pub with_temporary : State → Option Span → State
with_temporary s span = record s { env = one_identifier_more s.env span }

-- The state after a type variable was made.
abbrev pub with_type : State → State
with_type s = record s { env = record s.env { next_type = s.env.next_type + 1 } }

-- The block completed with its terminal.
abbrev pub ended_by : WipBlock → Terminal → BlockPair
ended_by wip terminal = (wip.id, record { kind = wip.kind; instructions = wip.instructions; terminal = terminal; preds = [] })

-- Completes the current block, and makes `next` the current one.
abbrev pub completed_by : State → Terminal → WipBlock → State
completed_by s terminal next = record s { completed = s.completed ++ ended_by s.current terminal ∷ []; current = next }

-- Completes the current block, and goes on in a fresh block of a kind; without a kind, in no block.
abbrev pub terminated : State → Terminal → (next : Option BlockKind) → State
terminated s terminal None = completed_by s terminal placeholder
terminated s terminal (Some kind) = completed_by (reserved s) terminal (new_block s.env.next_block kind)

-- Appends an instruction to the table, and its id to the current block.
abbrev pub plainly_pushed : State → Instruction → State
plainly_pushed s i = record s {
  current = record s.current { instructions = s.current.instructions ++ record { 0 = length s.table } ∷ [] };
  table = s.table ++ i ∷ [];
}

-- The end of a block whose instructions throw to `handler`.
abbrev pub maybe_throw : (continuation : ℕ) (handler : BlockId) → Option Span → Terminal
maybe_throw continuation handler span = record { order = record { 0 = 0 }; span = span; kind = ends.MaybeThrow (record { 0 = continuation }) (Some handler) }

-- Ends the current block, whose instructions throw to `handler`, and goes on in a fresh block of its kind.
abbrev pub ended_by_throw : State → (handler : BlockId) → Option Span → State
ended_by_throw s handler span = completed_by (reserved s) (maybe_throw s.env.next_block handler span) (new_block s.env.next_block s.current.kind)

-- Appends an instruction. Under a handler the block ends behind it.
abbrev pub pushed_under : (handler : Option BlockId) → State → Instruction → State
pushed_under None s i = plainly_pushed s i
pushed_under (Some handler) s i = ended_by_throw (plainly_pushed s i) handler i.span

-- Appends an instruction, under the innermost handler.
abbrev pub pushed : State → Instruction → State
pushed s i = pushed_under (innermost s.handlers) s i

-- Makes `wip` the current block. The block that was current is set aside.
abbrev pub entered : State → WipBlock → State
entered s wip = record s { current = wip }

-- Opens the scope of a loop, a labelled statement or a switch.
abbrev pub with_scope : State → JumpScope → State
with_scope s scope = record s { scopes = s.scopes ++ scope ∷ [] }

-- Opens a handler: instructions that are appended throw to the block.
abbrev pub with_handler : State → BlockId → State
with_handler s handler = record s { handlers = s.handlers ++ handler ∷ [] }

-- Appends a diagnostic to those of the unit.
abbrev pub recorded : State → Diagnostic → State
recorded s d = record s { env = record s.env { diagnostics = s.env.diagnostics ++ d ∷ [] } }

-- Adds a context identifier.
abbrev pub with_context_identifier : State → SymbolId → State
with_context_identifier s symbol = record s { context_identifiers = added s.context_identifiers symbol }
