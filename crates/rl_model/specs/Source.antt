-- The source's meaning of a unit: the traces of its functions, which of them are orderly, and whether the unit is supported.
use Rattle.std.specs.Prelude.{ℕ, nat_eq, Bool, false, Option, Some, None, List, filter}
use Rattle.std.specs.Option.{option_map}
use Rattle.rl_ast.specs.Marked.{first}
use Rattle.rl_machine.specs.declared.trace.Answer.{Answer}
use Rattle.rl_machine.specs.declared.trace.Assignment.{Assignment}
use Rattle.rl_machine.specs.declared.trace.Trace.{Trace}
use Rattle.rl_machine.specs.declared.trace.Value.{Value}
use Rattle.rl_names.specs.Names.{at_of}
use Rattle.rl_semantic.specs.Items.{of_item}
use Rattle.rl_model.specs.Code.{inner_functions, lowered_functions}
use Rattle.rl_model.specs.Facts.{facts_of, is_shadowed}
use Rattle.rl_model.specs.Functions.{run_function}
use Rattle.rl_model.specs.Marked.{marked}
use Rattle.rl_model.specs.Orderly.{is_orderly_by}
use Rattle.rl_model.specs.Scenes.{written_scene}
use Rattle.rl_model.specs.Supported.{is_supported_by}
use Rattle.rl_model.specs.Tables.{tables_of}
use Rattle.rl_model.specs.Units.{names_of}
use Rattle.rl_syntax.specs.Syntax.{Syntax}

-- The functions of a unit that are lowered: the marked one and its inner functions, in the order of their nodes.
abbrev pub functions_of : (u : Syntax) → List Syntax
functions_of u = lowered_functions (marked u)

abbrev pub is_node : (node : ℕ) → Syntax → Bool
is_node node function = nat_eq (at_of function).id.0 node

-- The inner function with this node; the marked function if there is no number. None where the number names no inner function that is
-- lowered.
abbrev pub function_at : (u : Syntax) → (function : Option ℕ) → Option Syntax
function_at u None = Some (marked u)
function_at u (Some node) = first (filter (is_node node) (inner_functions (marked u)))

-- The trace of a function of a unit, as it is written. None where the number names no inner function.
abbrev pub source_trace_of : (u : Syntax) → (function : Option ℕ) → List Assignment → List Value → List Answer → Option Trace
source_trace_of u function start arguments answers =
    option_map (λ f. run_function (written_scene u f) f start arguments answers) (function_at u function)

-- True of an orderly function of a unit. False where the number names no inner function.
abbrev pub is_orderly : (u : Syntax) → (function : Option ℕ) → Bool
is_orderly u function =
    of_item false (λ f. is_orderly_by (names_of u) (is_shadowed (tables_of u) (names_of u)) (marked u) f) (function_at u function)

-- True of a unit to whose lowered functions no row applies.
abbrev pub is_supported : (u : Syntax) → Bool
is_supported u = is_supported_by (facts_of u) (marked u)
