-- The states of updates and of assignments, between the lowering of their parts.
use Rattle.std.specs.Prelude.{ℕ, Bool, true, false, Some, None}
use Rattle.std.specs.Prelude.{unwrap_or}
use Rattle.rl_base.specs.declared.ids.SymbolId.{SymbolId}
use Rattle.rl_base.specs.declared.operator.BinaryOperator.{BinaryOperator}
use Rattle.rl_base.specs.declared.operator.BinaryOperator.TheVariants as binaries
use Rattle.rl_base.specs.declared.operator.UpdateOperator.{UpdateOperator}
use Rattle.rl_base.specs.declared.operator.UpdateOperator.TheVariants as updates
use Rattle.rl_base.specs.declared.row.Row.TheVariants as row
use Rattle.rl_base.specs.declared.span.Span.{Span}
use Rattle.rl_builder.specs.Builder.{State, recorded}
use Rattle.rl_builder.specs.Temporaries.{temporary, with_value}
use Rattle.rl_hir.specs.declared.instruction.InstructionKind.TheVariants as kinds
use Rattle.rl_hir.specs.declared.instruction.InstructionValue.{InstructionValue}
use Rattle.rl_hir.specs.declared.instruction.InstructionValue.TheVariants as values
use Rattle.rl_hir.specs.declared.instruction.Place.{Place}
use Rattle.rl_hir.specs.declared.instruction.PrimitiveValue.TheVariants as primitives
use Rattle.rl_lowered.specs.Forms.{MemberKey, load_of, store_of}
use Rattle.rl_lowered.specs.Items.{variable_at}
use Rattle.rl_lowered.specs.Named.{found}
use Rattle.rl_names.specs.Names.{Names}
use Rattle.rl_promises.specs.Rows.{refusal}
use Rattle.rl_syntax.specs.Syntax.{Syntax, span_of}

-- The state behind the refusal of a private name (row F3).
abbrev pub private_met : State → (at : Span) → State
private_met s at = recorded s (refusal row.F3 at)

-- The value of an update of a variable.
abbrev pub update_of : (prefix : Bool) → UpdateOperator → (variable : Place) → InstructionValue
update_of true operator variable = values.PrefixUpdate operator variable variable
update_of false operator variable = values.PostfixUpdate operator variable variable

-- The states of an update of a property: the old value is loaded, 1 is made, the new value is computed, and stored.

abbrev pub member_loaded : State → (object : Place) → MemberKey → Span → State
member_loaded t object key there = with_value t (load_of object key) (Some there)

abbrev pub member_one : State → (object : Place) → MemberKey → Span → State
member_one t object key there = with_value (member_loaded t object key there) (values.Primitive (primitives.Number 1)) None

abbrev pub binary_of : UpdateOperator → BinaryOperator
binary_of updates.Increment = binaries.Addition
binary_of updates.Decrement = binaries.Subtraction

abbrev pub member_updated : State → (object : Place) → MemberKey → UpdateOperator → Span → State
member_updated t object key operator there =
    with_value (member_one t object key there)
    (values.BinaryExpression (binary_of operator) (temporary t (Some there)) (temporary (member_loaded t object key there) None)) (Some there)

abbrev pub member_stored : State → (object : Place) → MemberKey → UpdateOperator → Span → State
member_stored t object key operator there =
    with_value (member_updated t object key operator there)
    (store_of object key (temporary (member_one t object key there) (Some there))) (Some there)

-- The value of the update: the new one, or the old one behind which the operator stands.
abbrev pub member_result : State → (object : Place) → MemberKey → UpdateOperator → (prefix : Bool) → Span → Place
member_result t object key operator true there = temporary (member_updated t object key operator there) (Some there)
member_result t object key operator false there = temporary t (Some there)

-- The value of an assignment to a variable.
abbrev pub assigned_to : (identifier : ℕ) → Span → (value : Place) → InstructionValue
assigned_to identifier there value = values.StoreLocal kinds.Reassign (variable_at identifier there) value

-- The states of a compound assignment to a name at `there`, behind the value `p` of its right part: the new value of the old one, `q`, is
-- computed; a variable is looked up, stored to and loaded again, and any other name is stored to.

abbrev pub name_computed : State → BinaryOperator → (q p : Place) → (at : Span) → State
name_computed u operator q p at = with_value u (values.BinaryExpression operator q p) (Some at)

abbrev pub name_found : Names → State → BinaryOperator → (q p : Place) → (at there : Span) → SymbolId → State
name_found names u operator q p at there symbol = found names (name_computed u operator q p at) symbol there

abbrev pub name_stored : Names → State → BinaryOperator → (q p : Place) → (at there : Span) → SymbolId → (identifier : ℕ) → State
name_stored names u operator q p at there symbol identifier =
    with_value (name_found names u operator q p at there symbol) (assigned_to identifier there (temporary u (Some at))) (Some at)

abbrev pub name_reloaded : Names → State → BinaryOperator → (q p : Place) → (at there : Span) → SymbolId → (identifier : ℕ) → State
name_reloaded names u operator q p at there symbol identifier =
    with_value (name_stored names u operator q p at there symbol identifier) (values.LoadLocal (variable_at identifier there)) (Some at)

-- As `name_computed`, for a property: the old value was loaded from the state `t`; and the state behind the store.

abbrev pub member_computed : (t u : State) → BinaryOperator → (p : Place) → (there : Span) → State
member_computed t u operator p there = with_value u (values.BinaryExpression operator (temporary t (Some there)) p) (Some there)

abbrev pub member_assigned : (t u : State) → (object : Place) → MemberKey → BinaryOperator → (p : Place) → (there : Span) → State
member_assigned t u object key operator p there =
    with_value (member_computed t u operator p there) (store_of object key (temporary u (Some there))) (Some there)

-- The span of a part's value, and that of the part where its value has none.
abbrev pub value_span : (value : Place) → (part : Syntax) → Span
value_span value part = unwrap_or value.span (span_of part)
