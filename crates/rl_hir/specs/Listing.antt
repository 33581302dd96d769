-- Listings: results as trees of the notation. `[X]` stands for a list of such trees, SPAN and NAME may be absent (`-`).
use Rattle.std.specs.Prelude.{◌≡◌, ℕ, List, [], ◌∷◌, map, codes}
use Rattle.rl_text.specs.Notation.{Tree, Node, Said, Count, Flag, Parts, Then, spelling}
use Rattle.rl_text.specs.Raw.{parts_of}
use Rattle.rl_base.specs.declared.ids.BlockId.{BlockId}
use Rattle.rl_base.specs.declared.ids.InstructionId.{InstructionId}
use Rattle.rl_hir.specs.Blocks.{Pair as BlockPair}
use Rattle.rl_hir.specs.Terminals.{Field, Leads, MayLead, Chooses, Follows, Names, MayName, Reads, MayBind, Says, Holds, fields_of, terminal_word}
pub use Rattle.rl_hir.specs.Trees.{node, list, optional, said, span, place}
pub use Rattle.rl_hir.specs.Values.{value}
use Rattle.rl_hir.specs.declared.instruction.Instruction.{Instruction}
use Rattle.rl_hir.specs.declared.terminal.Case.{Case}
use Rattle.rl_hir.specs.declared.terminal.Terminal.{Terminal}
use Rattle.rl_hir.specs.declared.function.BlockKind.{BlockKind}
use Rattle.rl_hir.specs.declared.function.BlockKind.TheVariants as kinds
use Rattle.rl_hir.specs.declared.function.ReactFunctionType.{ReactFunctionType}
use Rattle.rl_hir.specs.declared.function.ReactFunctionType.TheVariants as types
use Rattle.rl_hir.specs.declared.function.Param.{Param}
use Rattle.rl_hir.specs.declared.function.Param.TheVariants as params
use Rattle.rl_hir.specs.declared.function.HirFunction.{HirFunction}
use Rattle.rl_hir.specs.declared.function.IdentifierName.{IdentifierName}
use Rattle.rl_hir.specs.declared.function.IdentifierName.TheVariants as names
use Rattle.rl_hir.specs.declared.function.Identifier.{Identifier}
use Rattle.rl_hir.specs.declared.function.InnerFunction.{InnerFunction}
use Rattle.rl_hir.specs.declared.function.Pair.{Pair}
use Rattle.rl_hir.specs.declared.function.Lowered.{Lowered}

-- `(i ORDER PLACE SPAN VALUE)`
abbrev pub instruction : Instruction → Tree
instruction i = node (codes "i") (Count i.order.0 ∷ place i.lvalue ∷ optional span i.span ∷ value i.value ∷ [])

-- `(case PLACE BLOCK)`, where the default has no place
abbrev pub case : Case → Tree
case c = node (codes "case") (optional place c.test ∷ Count c.block.0 ∷ [])

abbrev pub block_id : BlockId → Tree
block_id id = Count id.0

abbrev pub field : Field → Tree
field (Leads id) = block_id id
field (MayLead id) = optional block_id id
field (Chooses cases) = list case cases
field (Follows id) = block_id id
field (Names id) = block_id id
field (MayName id) = optional block_id id
field (Reads p) = place p
field (MayBind p) = optional place p
field (Says text) = Said text
field (Holds flag) = Flag flag

-- `(WORD ORDER SPAN FIELD ..)`, with the order and the span of `t`
abbrev pub ended : (word : List ℕ) → (t : Terminal) → (fields : Parts) → Tree
ended word t fields = Node word (Then (Count t.order.0) (Then (optional span t.span) fields))

abbrev pub terminal : Terminal → Tree
terminal t = ended (terminal_word t.kind) t (parts_of (map field (fields_of t.kind)))

abbrev pub block_kind : BlockKind → List ℕ
block_kind kinds.Block = codes "block"
block_kind kinds.Value = codes "value"
block_kind kinds.Loop = codes "loop"
block_kind kinds.Sequence = codes "sequence"
block_kind kinds.Catch = codes "catch"

abbrev pub listed_instruction : InstructionId → Tree
listed_instruction id = Count id.0

-- `(block ID KIND [INSTRUCTION] TERMINAL [PRED])`
abbrev pub block : BlockPair → Tree
block b = node (codes "block") (Count b.0.0 ∷ Said (block_kind b.1.kind) ∷ list listed_instruction b.1.instructions ∷ terminal b.1.terminal ∷ list block_id b.1.preds ∷ [])

abbrev pub function_type : ReactFunctionType → List ℕ
function_type types.Component = codes "component"
function_type types.Hook = codes "hook"
function_type types.Other = codes "other"

abbrev pub param : Param → Tree
param (params.Place p) = place p
param (params.Spread p) = node (codes "spread") (place p ∷ [])

-- `(fn SPAN NAME TYPE GENERATOR ASYNC [DIRECTIVE] [PARAM] [CONTEXT] RETURNS ENTRY [BLOCK] [INSTRUCTION])`
abbrev pub function : HirFunction (List BlockPair) → Tree
function f = node (codes "fn") (
    optional span f.span ∷ optional said f.name ∷ Said (function_type f.fn_type) ∷ Flag f.generator ∷ Flag f.is_async
    ∷ list said f.directives ∷ list param f.params ∷ list place f.context ∷ place f.returns
    ∷ Count f.body.entry.0 ∷ list block f.body.blocks ∷ list instruction f.instructions ∷ [])

-- `(inner NODE FUNCTION)`
abbrev pub inner : InnerFunction → Tree
inner i = node (codes "inner") (Count i.node.0 ∷ function i.function ∷ [])

-- `(named TEXT)`, `(promoted TEXT)`
abbrev pub name : IdentifierName → Tree
name (names.Named text) = node (codes "named") (Said text ∷ [])
name (names.Promoted text) = node (codes "promoted") (Said text ∷ [])

-- `(ident NAME SPAN TYPE)`
abbrev pub identifier : Identifier → Tree
identifier i = node (codes "ident") (optional name i.name ∷ optional span i.span ∷ Count i.type_id.0 ∷ [])

-- `(pair SYMBOL IDENTIFIER)`
abbrev pub pair : Pair → Tree
pair p = node (codes "pair") (Count p.symbol.0 ∷ Count p.identifier.0 ∷ [])

-- `(lowered FUNCTION [INNER] [IDENTIFIER] [PAIR])`
unfoldable pub lowered : Lowered → Tree
lowered l = node (codes "lowered") (function l.function ∷ list inner l.inner ∷ list identifier l.identifiers ∷ list pair l.pairs ∷ [])

-- A result whose listing no other result has, byte for byte.
abbrev pub IsOnlyResult : Lowered → Type 0
IsOnlyResult l = (other : Lowered) → spelling (lowered other) ≡ spelling (lowered l) → other ≡ l
