-- Graphs whose ids are distinct and in range, and whose blocks know their predecessors.
use Rattle.std.specs.Prelude.{ℕ, ◌<◌, Option, Some, None, List, [], ◌∷◌, ◌++◌, All, length, map}
use Rattle.rl_hir.specs.Blocks.{HaveOwnIds, Pair as BlockPair}
use Rattle.rl_hir.specs.declared.instruction.Place.{Place}
use Rattle.rl_hir.specs.declared.instruction.Instruction.{Instruction}
use Rattle.rl_hir.specs.declared.instruction.InstructionValue.{InstructionValue}
use Rattle.rl_hir.specs.declared.instruction.InstructionValue.TheVariants as values
use Rattle.rl_hir.specs.declared.terminal.Terminal.{Terminal}
use Rattle.rl_hir.specs.declared.terminal.Case.{Case}
use Rattle.rl_hir.specs.Pieces.{Operand, Use, Key, operands}
use Rattle.rl_hir.specs.Terminals.{Field, Reads, MayBind, Chooses, fields_of}
use Rattle.rl_hir.specs.Values.{Form, Silent, Asks, Assigns, form_of}
use Rattle.rl_hir.specs.declared.function.HirFunction.{HirFunction}
use Rattle.rl_hir.specs.declared.function.Param.{Param}
use Rattle.rl_hir.specs.declared.function.Param.TheVariants as params
use Rattle.rl_order.specs.Predecessors.{PredecessorsReached}

-- The places of operands.
abbrev pub operand_places : List Operand → List Place
operand_places [] = []
operand_places (Use p ∷ operands) = p ∷ operand_places operands
operand_places (Key key ∷ operands) = operand_places operands

-- The places of a value with an event.
abbrev pub event_places : Form → List Place
event_places (Silent word fields) = []
event_places (Asks word pieces) = operand_places (operands pieces)
event_places (Assigns word head said p targets) = p ∷ operand_places (operands targets)

-- The places that a value names.
abbrev pub value_places : InstructionValue → List Place
value_places (values.LoadLocal p) = p ∷ []
value_places (values.LoadContext p) = p ∷ []
value_places (values.TypeCastExpression p cast at) = p ∷ []
value_places (values.DeclareLocal kind p) = p ∷ []
value_places (values.DeclareContext kind p) = p ∷ []
value_places (values.StoreLocal kind p q) = p ∷ q ∷ []
value_places (values.StoreContext kind p q) = p ∷ q ∷ []
value_places value = event_places (form_of value)

-- The places that an instruction names: the one that it writes, and those that it reads.
abbrev pub instruction_places : Instruction → List Place
instruction_places i = i.lvalue ∷ value_places i.value

abbrev pub optional_place : Option Place → List Place
optional_place None = []
optional_place (Some p) = p ∷ []

-- The places of the tests of cases.
abbrev pub case_places : List Case → List Place
case_places [] = []
case_places (c ∷ cases) = optional_place c.test ++ case_places cases

-- The places that a terminal with these fields names.
abbrev pub field_places : List Field → List Place
field_places [] = []
field_places (Reads p ∷ fields) = p ∷ field_places fields
field_places (MayBind p ∷ fields) = optional_place p ++ field_places fields
field_places (Chooses cases ∷ fields) = case_places cases ++ field_places fields
field_places (_ ∷ fields) = field_places fields

-- The places that a terminal names.
abbrev pub terminal_places : Terminal → List Place
terminal_places terminal = field_places (fields_of terminal.kind)

abbrev pub param_place : Param → Place
param_place (params.Place p) = p
param_place (params.Spread p) = p

-- The places name identifiers with numbers below `count`.
abbrev pub AreKnown : (count : ℕ) → List Place → Type 0
AreKnown count places = All (λ p. p.identifier.0 < count) places

-- Block ids are distinct, blocks list indices into the function's table, and the predecessors of a block are the reached
-- blocks that have it as a successor.
pub record IsLinked (f : HirFunction (List BlockPair)) : Type 0 where
  pub ids : HaveOwnIds f.body.blocks
  pub listed : All (λ b. All (λ index. index.0 < length f.instructions) b.1.instructions) f.body.blocks
  pub preds : PredecessorsReached f.body.blocks f.body.entry f.body.blocks

-- All places of a function name identifiers with numbers below `count`.
pub record HasKnownPlaces (count : ℕ) (f : HirFunction (List BlockPair)) : Type 0 where
  pub table : All (λ i. AreKnown count (instruction_places i)) f.instructions
  pub terminals : All (λ b. AreKnown count (terminal_places b.1.terminal)) f.body.blocks
  pub params : AreKnown count (map param_place f.params)
  pub context : AreKnown count f.context
  pub returns : f.returns.identifier.0 < count

-- The graph's ids are distinct and in range, in a result with `count` identifiers.
pub record IsWellFormed (count : ℕ) (f : HirFunction (List BlockPair)) : Type 0 where
  pub linked : IsLinked f
  pub places : HasKnownPlaces count f
