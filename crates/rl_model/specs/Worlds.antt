-- The functions of a result, the variables that they share, and their runs.
use Rattle.std.specs.Prelude.{ℕ, zero, suc, nat_le, Bool, true, false, if◌then◌else◌, Option, Some, None, List, [], ◌∷◌, ◌++◌, filter, map, slice_get}
use Rattle.std.specs.Option.{option_map, option_map_or}
use Rattle.rl_base.specs.declared.ids.FunctionId.{FunctionId}
use Rattle.rl_hir.specs.Blocks.{Pair as BlockPair}
use Rattle.rl_hir.specs.Pairs.{identifier_of}
use Rattle.rl_hir.specs.Pieces.{operands}
use Rattle.rl_hir.specs.Values.{Form, Assigns, form_of}
use Rattle.rl_hir.specs.declared.function.HirFunction.{HirFunction}
use Rattle.rl_hir.specs.declared.function.InnerFunction.{InnerFunction}
use Rattle.rl_hir.specs.declared.function.Lowered.{Lowered}
use Rattle.rl_hir.specs.declared.function.Pair.{Pair}
use Rattle.rl_hir.specs.declared.instruction.Instruction.{Instruction}
use Rattle.rl_hir.specs.declared.instruction.InstructionKind.{InstructionKind}
use Rattle.rl_hir.specs.declared.instruction.InstructionKind.TheVariants as kinds
use Rattle.rl_hir.specs.declared.instruction.InstructionValue.{InstructionValue}
use Rattle.rl_hir.specs.declared.instruction.InstructionValue.TheVariants as values
use Rattle.rl_hir.specs.declared.instruction.Place.{Place}
use Rattle.rl_machine.specs.Traces.{World}
use Rattle.rl_machine.specs.declared.trace.Answer.{Answer}
use Rattle.rl_machine.specs.declared.trace.Assignment.{Assignment}
use Rattle.rl_machine.specs.declared.trace.Trace.{Trace}
use Rattle.rl_machine.specs.declared.trace.Value.{Value}
use Rattle.rl_model.specs.Code.{below, contains, flat}
use Rattle.rl_model.specs.Runs.{function_trace, param_identifier}
use Rattle.rl_model.specs.WellFormed.{operand_places, value_places}

-- A function as a graph.
abbrev pub Function : Type 0
Function = HirFunction (List BlockPair)

-- The function with this id; that of the marked function if there is no id. None where the id is that of no inner function.
abbrev pub function_in : Lowered → Option FunctionId → Option Function
function_in l None = Some l.function
function_in l (Some id) = option_map (λ (i : InnerFunction). i.function) (slice_get l.inner id.0)

-- The items of a list but the one at `index`.
abbrev pub without : {X : Type 0} → (index : ℕ) → List X → List X
without index [] = []
without zero (x ∷ xs) = xs
without (suc index) (x ∷ xs) = x ∷ without index xs

abbrev pub graphs : List InnerFunction → List Function
graphs functions = map (λ (i : InnerFunction). i.function) functions

-- The functions of a result beside one of them.
abbrev pub others_in : Lowered → Option FunctionId → List Function
others_in l None = graphs l.inner
others_in l (Some id) = l.function ∷ graphs (without id.0 l.inner)

abbrev pub identifiers_in : List Place → List ℕ
identifiers_in places = map (λ (p : Place). p.identifier.0) places

abbrev pub is_reassign : InstructionKind → Bool
is_reassign kinds.Reassign = true
is_reassign _ = false

abbrev pub is_hoisted : InstructionKind → Bool
is_hoisted kinds.HoistedConst = true
is_hoisted kinds.HoistedLet = true
is_hoisted kinds.HoistedFunction = true
is_hoisted _ = false

abbrev pub is_function_kind : InstructionKind → Bool
is_function_kind kinds.Function = true
is_function_kind _ = false

-- The places that take the parts of a value.
abbrev pub target_places : Form → List Place
target_places (Assigns word head texts v targets) = operand_places (operands targets)
target_places _ = []

-- The variables that a value assigns: it stores to them with kind `reassign`, or updates them.
abbrev pub assigned_places : InstructionValue → List Place
assigned_places (values.StoreLocal kind p v) = if is_reassign kind then p ∷ [] else []
assigned_places (values.StoreContext kind p v) = if is_reassign kind then p ∷ [] else []
assigned_places (values.Destructure d) = if is_reassign d.kind then target_places (form_of (values.Destructure d)) else []
assigned_places (values.PrefixUpdate operator p v) = p ∷ []
assigned_places (values.PostfixUpdate operator p v) = p ∷ []
assigned_places value = []

-- The places that a value names; the marker of a hoisted declaration names none.
abbrev pub marked_places : InstructionValue → List Place
marked_places (values.DeclareLocal kind p) = if is_hoisted kind then [] else p ∷ []
marked_places (values.DeclareContext kind p) = if is_hoisted kind then [] else p ∷ []
marked_places value = value_places value

-- As `marked_places`, where the store of a function declaration names none either.
abbrev pub shared_places : InstructionValue → List Place
shared_places (values.StoreLocal kind p v) = if is_function_kind kind then [] else p ∷ v ∷ []
shared_places (values.StoreContext kind p v) = if is_function_kind kind then [] else p ∷ v ∷ []
shared_places value = marked_places value

-- The identifiers of the places that `places` gives for the values of a function's table.
abbrev pub in_table : (places : InstructionValue → List Place) → Function → List ℕ
in_table places f = flat (λ (i : Instruction). identifiers_in (places i.value)) f.instructions

-- The identifiers that a function's table assigns.
abbrev pub assigned_identifiers : Function → List ℕ
assigned_identifiers f = in_table assigned_places f

-- The identifiers that stand in a function: in its parameters or its table.
abbrev pub marked_identifiers : Function → List ℕ
marked_identifiers f = map param_identifier f.params ++ in_table marked_places f

abbrev pub shared_identifiers : Function → List ℕ
shared_identifiers f = map param_identifier f.params ++ in_table shared_places f

-- The identifiers that another function assigns.
abbrev pub open_identifiers : (others : List Function) → List ℕ
open_identifiers others = flat assigned_identifiers others

-- The identifiers that stand in a function and in another one.
abbrev pub kept_identifiers : Function → (others : List Function) → List ℕ
kept_identifiers f others = filter (contains (flat shared_identifiers others)) (marked_identifiers f)

-- True of a symbol whose identifier is one of those.
abbrev pub stands_for : List Pair → (identifiers : List ℕ) → (symbol : ℕ) → Bool
stands_for pairs identifiers symbol = option_map_or (contains identifiers) (identifier_of pairs symbol) false

-- The number above the largest of the symbols that have a pair; 0 where none has.
abbrev pub symbol_bound : List Pair → ℕ
symbol_bound [] = 0
symbol_bound (p ∷ pairs) = if nat_le (symbol_bound pairs) p.symbol.0 then suc p.symbol.0 else symbol_bound pairs

-- The world of a function among others: the symbols of its open identifiers, and those of its kept ones by number.
abbrev pub world_in : Lowered → Function → (others : List Function) → World
world_in l f others = record {
  opens = stands_for l.pairs (open_identifiers others);
  keeps = filter (stands_for l.pairs (kept_identifiers f others)) (below (symbol_bound l.pairs));
}

-- The trace of a function of the result. None where the id is that of no inner function.
abbrev pub graph_trace_of : Lowered → (function : Option FunctionId) → List Assignment → List Value → List Answer → Option Trace
graph_trace_of l function start arguments answers =
    option_map (λ (f : Function). function_trace (world_in l f (others_in l function)) f l.pairs start arguments answers)
    (function_in l function)
