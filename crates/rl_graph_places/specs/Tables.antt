-- The identifiers of a function's table and parameters.
use Rattle.std.specs.Prelude.{ℕ, List, [], map}
use Rattle.rl_hir.specs.declared.function.Param.{Param}
use Rattle.rl_hir.specs.declared.instruction.Instruction.{Instruction}
use Rattle.rl_hir.specs.declared.instruction.InstructionValue.{InstructionValue}
use Rattle.rl_hir.specs.declared.instruction.Place.{Place}
use Rattle.rl_model.specs.Code.{flat}
use Rattle.rl_model.specs.Runs.{param_identifier}
use Rattle.rl_model.specs.Worlds.{Function, assigned_identifiers, assigned_places, identifiers_in, marked_identifiers, marked_places, shared_identifiers, shared_places}
use Rattle.rl_graph_places.specs.declared.tables.Which.{Which}
use Rattle.rl_graph_places.specs.declared.tables.Which.TheVariants as which

-- The places of a value.
abbrev pub places_by : Which → InstructionValue → List Place
places_by which.Assigned value = assigned_places value
places_by which.Marked value = marked_places value
places_by which.Shared value = shared_places value

-- The identifiers of an instruction's value.
abbrev pub instruction_identifiers : Which → Instruction → List ℕ
instruction_identifiers w i = identifiers_in (places_by w i.value)

-- The identifiers of a table.
abbrev pub table_identifiers : Which → List Instruction → List ℕ
table_identifiers w table = flat (instruction_identifiers w) table

abbrev pub param_identifiers : Which → List Param → List ℕ
param_identifiers which.Assigned params = []
param_identifiers which.Marked params = map param_identifier params
param_identifiers which.Shared params = map param_identifier params

-- The identifiers of a function.
abbrev pub function_identifiers : Which → Function → List ℕ
function_identifiers which.Assigned f = assigned_identifiers f
function_identifiers which.Marked f = marked_identifiers f
function_identifiers which.Shared f = shared_identifiers f
