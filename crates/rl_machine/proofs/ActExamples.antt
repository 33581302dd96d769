-- The effects of instructions, each value tried once: the event that it asks, or the value that it computes.
use Rattle.std.proofs.Common.{◌≡◌, ℕ, true, Some, None, List, [], ◌∷◌, map, codes, refl}
use Rattle.rl_base.specs.declared.operator.BinaryOperator.TheVariants as binary
use Rattle.rl_base.specs.declared.operator.UnaryOperator.TheVariants as unary
use Rattle.rl_base.specs.declared.operator.UpdateOperator.TheVariants as updates
use Rattle.rl_hir.specs.declared.instruction.ArrayElement.TheVariants as elements
use Rattle.rl_hir.specs.declared.instruction.HirType.TheVariants as hir_types
use Rattle.rl_hir.specs.declared.instruction.InstructionKind.TheVariants as kinds
use Rattle.rl_hir.specs.declared.instruction.InstructionValue.{InstructionValue}
use Rattle.rl_hir.specs.declared.instruction.InstructionValue.TheVariants as values
use Rattle.rl_hir.specs.declared.instruction.JsxAttribute.TheVariants as attributes
use Rattle.rl_hir.specs.declared.instruction.JsxTag.TheVariants as tags
use Rattle.rl_hir.specs.declared.instruction.NonLocalBinding.TheVariants as bindings
use Rattle.rl_hir.specs.declared.instruction.ObjectPatternProperty.TheVariants as taken
use Rattle.rl_hir.specs.declared.instruction.ObjectProperty.TheVariants as properties
use Rattle.rl_hir.specs.declared.instruction.Pattern.TheVariants as patterns
use Rattle.rl_hir.specs.declared.instruction.PlaceOrSpread.TheVariants as arguments
use Rattle.rl_hir.specs.declared.instruction.PrimitiveValue.TheVariants as primitives
use Rattle.rl_hir.specs.declared.instruction.PropertyLiteral.TheVariants as keys
use Rattle.rl_hir.specs.declared.instruction.TemplateLiteral.{TemplateLiteral}
use Rattle.rl_machine.proofs.ExampleGraphs.{given, place}
use Rattle.rl_machine.specs.Acts.{Asks, Computes, Opens, Steps, act, gives, keeps, landed}
use Rattle.rl_machine.specs.Traces.{Store}
use Rattle.rl_machine.specs.declared.trace.AnswerKind.TheVariants.{Yes}
use Rattle.rl_machine.specs.declared.trace.Event.{Event}
use Rattle.rl_machine.specs.declared.trace.Value.{Value}
use Rattle.rl_machine.specs.declared.trace.Value.TheVariants as value
use Rattle.rl_text.specs.Number.{numeral}

-- Each identifier has the value of its number. The instruction's own identifier is 7.
abbrev store : Store
store identifier = given identifier

-- The operation computes the value, silently, which these identifiers take.
abbrev Gives : InstructionValue → Value → (into : List ℕ) → Type 0
Gives v result into = act 7 v store ≡ Computes result into

-- An event of the values of identifiers.
abbrev event : (kind : List ℕ) (texts : List (List ℕ)) (operands : List ℕ) → Event
event kind texts operands = record { kind = kind; texts = texts; operands = map given operands }

-- The operation asks the event, whose answer it takes.
abbrev Asked : InstructionValue → Event → Type 0
Asked v e = act 7 v store ≡ Asks e (gives 7)

-- The operation asks the event, and its result is the value of the identifier, whatever the answer is.
abbrev Passed : InstructionValue → Event → (identifier : ℕ) → Type 0
Passed v e identifier = act 7 v store ≡ Asks e (keeps 7 (given identifier))

-- Values without an event.
undefined : Gives (values.Primitive primitives.Undefined) value.Undefined (7 ∷ [])
undefined = refl

null : Gives (values.Primitive primitives.Null) value.Null (7 ∷ [])
null = refl

boolean : Gives (values.Primitive (primitives.Boolean true)) (value.Bool true) (7 ∷ [])
boolean = refl

number : Gives (values.Primitive (primitives.Number 3)) (value.Number 3) (7 ∷ [])
number = refl

string : Gives (values.Primitive (primitives.String (codes "a"))) (value.Text (codes "a")) (7 ∷ [])
string = refl

jsx_text : Gives (values.JsxText (codes "a")) (value.Text (codes "a")) (7 ∷ [])
jsx_text = refl

load_local : Gives (values.LoadLocal (place 1)) (given 1) (7 ∷ [])
load_local = refl

load_context : Gives (values.LoadContext (place 1)) (given 1) (7 ∷ [])
load_context = refl

type_cast : Gives (values.TypeCastExpression (place 1) hir_types.Array None) (given 1) (7 ∷ [])
type_cast = refl

store_local : Gives (values.StoreLocal kinds.Reassign (place 1) (place 2)) (given 2) (1 ∷ 7 ∷ [])
store_local = refl

store_context : Gives (values.StoreContext kinds.Reassign (place 1) (place 2)) (given 2) (1 ∷ 7 ∷ [])
store_context = refl

-- Names that no local variable has: a global, a name of the module, and the three kinds of imports.
load_global : Asked (values.LoadGlobal (bindings.Global (codes "f"))) (event (codes "global") (codes "f" ∷ []) [])
load_global = refl

load_module : Asked (values.LoadGlobal (bindings.ModuleLocal (codes "f"))) (event (codes "global") (codes "f" ∷ codes "module" ∷ []) [])
load_module = refl

load_default : Asked (values.LoadGlobal (bindings.ImportDefault (codes "f") (codes "m"))) (event (codes "global") (codes "f" ∷ codes "default" ∷ codes "m" ∷ []) [])
load_default = refl

load_namespace : Asked (values.LoadGlobal (bindings.ImportNamespace (codes "f") (codes "m"))) (event (codes "global") (codes "f" ∷ codes "namespace" ∷ codes "m" ∷ []) [])
load_namespace = refl

load_named : Asked (values.LoadGlobal (bindings.ImportSpecifier (codes "f") (record { «module» = codes "m"; imported = codes "g" }))) (event (codes "global") (codes "f" ∷ codes "named" ∷ codes "m" ∷ codes "g" ∷ []) [])
load_named = refl

store_global : Passed (values.StoreGlobal (codes "f") (place 1)) (event (codes "storeglobal") (codes "f" ∷ []) (1 ∷ [])) 1
store_global = refl

-- `{ a: x1, ...x2 } = x3`: the targets take the pieces of the answer in order.
destructure : act 7 (values.Destructure (record { kind = kinds.Let; pattern = patterns.Object (taken.Property (codes "a") (place 1) ∷ taken.Spread (place 2) ∷ []); value = place 3 })) store
    ≡ Asks (event (codes "destructure") (codes "object" ∷ codes ".a" ∷ codes "place" ∷ codes "spread" ∷ []) (3 ∷ [])) (record { given = []; taken = 1 ∷ 2 ∷ []; kept = (7, given 3) ∷ [] })
destructure = refl

binary_expression : Asked (values.BinaryExpression binary.Addition (place 1) (place 2)) (event (codes "binary") (codes "+" ∷ []) (1 ∷ 2 ∷ []))
binary_expression = refl

unary_expression : Asked (values.UnaryExpression unary.Typeof (place 1)) (event (codes "unary") (codes "typeof" ∷ []) (1 ∷ []))
unary_expression = refl

-- `++x1`, where x2 is the value before: the variable and the result take the answer.
prefix_update : act 7 (values.PrefixUpdate updates.Increment (place 1) (place 2)) store
    ≡ Asks (event (codes "prefixupdate") (codes "++" ∷ []) (2 ∷ [])) (record { given = 1 ∷ 7 ∷ []; taken = []; kept = [] })
prefix_update = refl

-- `x1--`: the variable takes the answer, and the result is the value before.
postfix_update : act 7 (values.PostfixUpdate updates.Decrement (place 1) (place 2)) store
    ≡ Asks (event (codes "postfixupdate") (codes "--" ∷ []) (2 ∷ [])) (record { given = 1 ∷ []; taken = []; kept = (7, given 2) ∷ [] })
postfix_update = refl

regexp : Asked (values.RegExpLiteral (record { pattern = codes "a+"; flags = codes "g" })) (event (codes "regexp") (codes "a+" ∷ codes "g" ∷ []) [])
regexp = refl

-- A template of two texts, of which the second stands for none, and a value between them.
abbrev template : TemplateLiteral
template = record { quasis = record { raw = codes "a"; cooked = Some (codes "b") } ∷ record { raw = codes "c"; cooked = None } ∷ []; subexpressions = place 1 ∷ [] }

template_literal : Asked (values.TemplateLiteral template) (event (codes "template") (codes "a" ∷ codes ".b" ∷ codes "c" ∷ [] ∷ codes "place" ∷ []) (1 ∷ []))
template_literal = refl

tagged_template : Asked (values.TaggedTemplateExpression (place 2) template) (event (codes "tagged") (codes "place" ∷ codes "a" ∷ codes ".b" ∷ codes "c" ∷ [] ∷ codes "place" ∷ []) (2 ∷ 1 ∷ []))
tagged_template = refl

array : Asked (values.ArrayExpression (elements.Place (place 1) ∷ elements.Hole ∷ elements.Spread (place 2) ∷ [])) (event (codes "array") (codes "place" ∷ codes "hole" ∷ codes "spread" ∷ []) (1 ∷ 2 ∷ []))
array = refl

object : Asked (values.ObjectExpression (properties.Property (codes "a") (place 1) ∷ properties.Computed (place 2) (place 3) ∷ properties.Spread (place 4) ∷ []))
    (event (codes "object") (codes ".a" ∷ codes "place" ∷ codes "place" ∷ codes "place" ∷ codes "spread" ∷ []) (1 ∷ 2 ∷ 3 ∷ 4 ∷ []))
object = refl

meta_property : Asked values.MetaProperty (event (codes "metaproperty") [] [])
meta_property = refl

debugger : Asked values.Debugger (event (codes "debugger") [] [])
debugger = refl

function_expression : Asked (values.FunctionExpression (record { 0 = 12 })) (event (codes "function") (codes "12" ∷ []) [])
unfolding numeral
function_expression = refl

object_method : Asked (values.ObjectMethod (record { 0 = 12 })) (event (codes "objectmethod") (codes "12" ∷ []) [])
unfolding numeral
object_method = refl

call : Asked (values.CallExpression (place 1) (arguments.Place (place 2) ∷ arguments.Spread (place 3) ∷ [])) (event (codes "call") (codes "place" ∷ codes "spread" ∷ []) (1 ∷ 2 ∷ 3 ∷ []))
call = refl

new : Asked (values.NewExpression (place 1) (arguments.Place (place 2) ∷ [])) (event (codes "new") (codes "place" ∷ []) (1 ∷ 2 ∷ []))
new = refl

method_call : Asked (values.MethodCall (record { receiver = place 1; property = place 2; arguments = arguments.Place (place 3) ∷ [] })) (event (codes "methodcall") (codes "place" ∷ []) (1 ∷ 2 ∷ 3 ∷ []))
method_call = refl

-- A fixed key is an operand too.
property_load : Asked (values.PropertyLoad (place 1) (keys.String (codes "a"))) (record { kind = codes "propertyload"; texts = []; operands = given 1 ∷ value.Text (codes "a") ∷ [] })
property_load = refl

property_store : Passed (values.PropertyStore (place 1) (keys.Number 2) (place 3)) (record { kind = codes "propertystore"; texts = []; operands = given 1 ∷ value.Number 2 ∷ given 3 ∷ [] }) 3
property_store = refl

property_delete : Asked (values.PropertyDelete (place 1) (keys.String (codes "a"))) (record { kind = codes "propertydelete"; texts = []; operands = given 1 ∷ value.Text (codes "a") ∷ [] })
property_delete = refl

computed_load : Asked (values.ComputedLoad (place 1) (place 2)) (event (codes "computedload") [] (1 ∷ 2 ∷ []))
computed_load = refl

computed_store : Passed (values.ComputedStore (record { object = place 1; property = place 2; value = place 3 })) (event (codes "computedstore") [] (1 ∷ 2 ∷ 3 ∷ [])) 3
computed_store = refl

computed_delete : Asked (values.ComputedDelete (place 1) (place 2)) (event (codes "computeddelete") [] (1 ∷ 2 ∷ []))
computed_delete = refl

jsx : Asked (values.JsxExpression (record { tag = tags.Builtin (codes "p"); props = attributes.Attribute (codes "a") (place 1) ∷ attributes.SpreadAttribute (place 2) ∷ []; children = place 3 ∷ [] }))
    (event (codes "jsx") (codes ".p" ∷ codes ".a" ∷ codes "place" ∷ codes "spread" ∷ codes "place" ∷ []) (1 ∷ 2 ∷ 3 ∷ []))
jsx = refl

jsx_component : Asked (values.JsxExpression (record { tag = tags.Place (place 1); props = []; children = [] })) (event (codes "jsx") (codes "place" ∷ []) (1 ∷ []))
jsx_component = refl

jsx_fragment : Asked (values.JsxFragment (place 1 ∷ place 2 ∷ [])) (event (codes "jsxfragment") (codes "place" ∷ codes "place" ∷ []) (1 ∷ 2 ∷ []))
jsx_fragment = refl

await : Asked (values.Await (place 1)) (event (codes "await") [] (1 ∷ []))
await = refl

-- Steps of loops.
get_iterator : act 7 (values.GetIterator (place 1)) store ≡ Opens (event (codes "getiterator") [] (1 ∷ [])) 7
get_iterator = refl

iterator_next : act 7 (values.IteratorNext (place 1) (place 2)) store ≡ Steps (event (codes "next") [] (1 ∷ 2 ∷ [])) 7
iterator_next = refl

next_property : act 7 (values.NextPropertyOf (place 1)) store ≡ Steps (event (codes "nextpropertyof") [] (1 ∷ [])) 7
next_property = refl

-- An answer lands: two identifiers take its value, two others its pieces, of which the second is missing, and one takes a value of its own.
abbrev lands : (identifier : ℕ) → Value
lands = landed (record { given = 1 ∷ 2 ∷ []; taken = 3 ∷ 4 ∷ []; kept = (5, given 6) ∷ [] }) (record { kind = Yes; value = given 8; pieces = given 9 ∷ []; assignments = [] }) store

landed_values : map lands (1 ∷ 2 ∷ 3 ∷ 4 ∷ 5 ∷ 6 ∷ []) ≡ given 8 ∷ given 8 ∷ given 9 ∷ value.Undefined ∷ given 6 ∷ given 6 ∷ []
landed_values = refl
