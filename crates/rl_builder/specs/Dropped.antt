-- The refusals of blocks that the ordering drops although they make functions: declarations in these may be hoisted.
use Rattle.std.specs.Prelude.{Bool, true, false, if◌then◌else◌, is_some, unwrap_or, Option, Some, None, List, [], ◌∷◌, ◌++◌, slice_get}
use Rattle.rl_base.specs.Diagnostics.{diagnostic_at}
use Rattle.rl_base.specs.declared.diagnostic.Diagnostic.{Diagnostic}
use Rattle.rl_base.specs.declared.ids.InstructionId.{InstructionId}
use Rattle.rl_base.specs.declared.row.Row.TheVariants as rows
use Rattle.rl_hir.specs.Blocks.{Pair, block_at}
use Rattle.rl_hir.specs.declared.instruction.Instruction.{Instruction}
use Rattle.rl_hir.specs.declared.instruction.InstructionValue.{InstructionValue}
use Rattle.rl_hir.specs.declared.instruction.InstructionValue.TheVariants as values

-- True of the value of a function expression, an arrow function or a function declaration. A method is none.
abbrev pub is_function_expression : InstructionValue → Bool
is_function_expression (values.FunctionExpression node) = true
is_function_expression _ = false

-- The instruction, if it makes a function, before `rest`.
abbrev pub function_or : Option Instruction → (rest : Option Instruction) → Option Instruction
function_or None rest = rest
function_or (Some i) rest = if is_function_expression i.value then Some i else rest

-- The first of the listed instructions that makes a function. None if none does.
abbrev pub first_function : List Instruction → List InstructionId → Option Instruction
first_function table [] = None
first_function table (id ∷ ids) = function_or (slice_get table id.0) (first_function table ids)

-- The diagnostic of row F41, at the node of the function. An instruction without a span has the empty one at offset 0.
abbrev pub unreachable_function : Instruction → Diagnostic
unreachable_function i = diagnostic_at rows.F41 [] (unwrap_or i.span (record { start = 0; end = 0 }))

abbrev pub refused_function : Option Instruction → List Diagnostic
refused_function None = []
refused_function (Some i) = unreachable_function i ∷ []

-- The refusal of a block that is not among those in the order, if it makes a function.
abbrev pub refused_block : List Instruction → (ordered : List Pair) → Pair → List Diagnostic
refused_block table ordered p = if is_some (block_at ordered p.0) then [] else refused_function (first_function table p.1.instructions)

-- The refusals of blocks in a row.
abbrev pub refused_blocks : List Instruction → (ordered : List Pair) → List Pair → List Diagnostic
refused_blocks table ordered [] = []
refused_blocks table ordered (p ∷ pairs) = refused_block table ordered p ++ refused_blocks table ordered pairs
