-- Values are read back from their listings.
use Rattle.std.proofs.Common.{◌≡◌, ℕ, List, [], ◌∷◌, codes, refl, ap}
use Rattle.rl_base.proofs.ClosedTexts.{value_of as written_value, value_back}
use Rattle.rl_base.proofs.Operators.{operator_of, operator-back}
use Rattle.rl_base.specs.FoundOperators.{unary_operators_found, update_operators_found}
use Rattle.rl_base.specs.Operators.{unary_text, update_text, unary_operators, update_operators}
use Rattle.rl_base.specs.declared.ids.NodeId.{NodeId}
use Rattle.rl_base.specs.declared.operator.UnaryOperator.{UnaryOperator}
use Rattle.rl_base.specs.declared.operator.UnaryOperator.TheVariants as unary
use Rattle.rl_base.specs.declared.operator.UpdateOperator.{UpdateOperator}
use Rattle.rl_base.specs.declared.operator.UpdateOperator.TheVariants as update
use Rattle.rl_text.proofs.Digits.{numeral-value}
use Rattle.rl_text.proofs.Numbers.{read_on}
use Rattle.rl_text.specs.Notation.{Tree, Parts}
use Rattle.rl_text.specs.Number.{numeral}
use Rattle.rl_hir.proofs.ReadParts.{part, parts_in, nth, later, word_of, text_of, choose, spans_of, spans-back, place_of, place-back, primitive_of, primitive-back, key_of, key-back, kind_of, kind-back, type_of, type-back}
use Rattle.rl_hir.proofs.ReadPieces.{shape_of, arguments_of, arguments-back, elements_of, elements-back, properties_of, properties-back, pattern_of, pattern-back, children_of, values-back, jsx_of, jsx-back, template_of, template-back, binding_of, binding-back}
use Rattle.rl_hir.specs.Values as spec
use Rattle.rl_hir.specs.declared.instruction.Place.{Place}
use Rattle.rl_hir.specs.declared.instruction.PlaceOrSpread.{PlaceOrSpread}
use Rattle.rl_hir.specs.declared.instruction.PropertyLiteral.{PropertyLiteral}
use Rattle.rl_hir.specs.declared.instruction.InstructionValue.{InstructionValue}
use Rattle.rl_hir.specs.declared.instruction.InstructionValue.TheVariants as values

-- The parts of an event's listing.

abbrev texts : Tree → Parts
texts tree = parts_in (part 0 tree)

abbrev operands : Tree → Parts
operands tree = parts_in (part 1 tree)

abbrev text : ℕ → Tree → List ℕ
text n tree = text_of (nth (texts tree) n)

abbrev operand : ℕ → Tree → Place
operand n tree = place_of (nth (operands tree) n)

abbrev key : Tree → PropertyLiteral
key tree = key_of (nth (operands tree) 1)

-- The arguments behind these operands.
abbrev arguments : Tree → Parts → List PlaceOrSpread
arguments tree rest = arguments_of (shape_of (texts tree) rest)

unary_of : List ℕ → UnaryOperator
unary_of text = written_value unary.Void unary_text unary_operators text

unary-back : (o : UnaryOperator) → unary_of (unary_text o) ≡ o
unfolding unary_of
unary-back o = value_back unary.Void unary_text unary_operators unary_operators_found o

update_of : List ℕ → UpdateOperator
update_of text = written_value update.Increment update_text update_operators text

update-back : (o : UpdateOperator) → update_of (update_text o) ≡ o
unfolding update_of
update-back o = value_back update.Increment update_text update_operators update_operators_found o

node_of : List ℕ → NodeId
node_of text = record { 0 = read_on 0 text }

node-back : (id : NodeId) → node_of (numeral id.0) ≡ id
unfolding node_of
node-back id = ap (λ n. record { 0 = n }) (numeral-value id.0)

value_readers : List (List ℕ × (Tree → InstructionValue))
value_readers =
    (codes "primitive", λ tree. values.Primitive (primitive_of (part 0 tree)))
    ∷ (codes "jsxtext", λ tree. values.JsxText (text_of (part 0 tree)))
    ∷ (codes "loadlocal", λ tree. values.LoadLocal (place_of (part 0 tree)))
    ∷ (codes "loadcontext", λ tree. values.LoadContext (place_of (part 0 tree)))
    ∷ (codes "typecast", λ tree. values.TypeCastExpression (place_of (part 0 tree)) (type_of (part 1 tree)) (spans_of (part 2 tree)))
    ∷ (codes "declarelocal", λ tree. values.DeclareLocal (kind_of (part 0 tree)) (place_of (part 1 tree)))
    ∷ (codes "declarecontext", λ tree. values.DeclareContext (kind_of (part 0 tree)) (place_of (part 1 tree)))
    ∷ (codes "storelocal", λ tree. values.StoreLocal (kind_of (part 0 tree)) (place_of (part 1 tree)) (place_of (part 2 tree)))
    ∷ (codes "storecontext", λ tree. values.StoreContext (kind_of (part 0 tree)) (place_of (part 1 tree)) (place_of (part 2 tree)))
    ∷ (codes "loadglobal", λ tree. values.LoadGlobal (binding_of (part 0 tree)))
    ∷ (codes "storeglobal", λ tree. values.StoreGlobal (text 0 tree) (operand 0 tree))
    ∷ (codes "destructure", λ tree. values.Destructure (record { kind = kind_of (part 0 tree); pattern = pattern_of (parts_in (part 1 tree)) (parts_in (part 3 tree)); value = place_of (nth (parts_in (part 2 tree)) 0) }))
    ∷ (codes "binary", λ tree. values.BinaryExpression (operator_of (text 0 tree)) (operand 0 tree) (operand 1 tree))
    ∷ (codes "unary", λ tree. values.UnaryExpression (unary_of (text 0 tree)) (operand 0 tree))
    ∷ (codes "prefixupdate", λ tree. values.PrefixUpdate (update_of (text 0 tree)) (place_of (nth (parts_in (part 2 tree)) 0)) (operand 0 tree))
    ∷ (codes "postfixupdate", λ tree. values.PostfixUpdate (update_of (text 0 tree)) (place_of (nth (parts_in (part 2 tree)) 0)) (operand 0 tree))
    ∷ (codes "regexp", λ tree. values.RegExpLiteral (record { pattern = text 0 tree; flags = text 1 tree }))
    ∷ (codes "template", λ tree. values.TemplateLiteral (template_of (texts tree) (operands tree)))
    ∷ (codes "tagged", λ tree. values.TaggedTemplateExpression (operand 0 tree) (template_of (later (texts tree)) (later (operands tree))))
    ∷ (codes "array", λ tree. values.ArrayExpression (elements_of (shape_of (texts tree) (operands tree))))
    ∷ (codes "object", λ tree. values.ObjectExpression (properties_of (shape_of (texts tree) (operands tree))))
    ∷ (codes "metaproperty", λ tree. values.MetaProperty)
    ∷ (codes "debugger", λ tree. values.Debugger)
    ∷ (codes "function", λ tree. values.FunctionExpression (node_of (text 0 tree)))
    ∷ (codes "objectmethod", λ tree. values.ObjectMethod (node_of (text 0 tree)))
    ∷ (codes "call", λ tree. values.CallExpression (operand 0 tree) (arguments tree (later (operands tree))))
    ∷ (codes "new", λ tree. values.NewExpression (operand 0 tree) (arguments tree (later (operands tree))))
    ∷ (codes "methodcall", λ tree. values.MethodCall (record { receiver = operand 0 tree; property = operand 1 tree; arguments = arguments tree (later (later (operands tree))) }))
    ∷ (codes "propertyload", λ tree. values.PropertyLoad (operand 0 tree) (key tree))
    ∷ (codes "propertystore", λ tree. values.PropertyStore (operand 0 tree) (key tree) (operand 2 tree))
    ∷ (codes "propertydelete", λ tree. values.PropertyDelete (operand 0 tree) (key tree))
    ∷ (codes "computedload", λ tree. values.ComputedLoad (operand 0 tree) (operand 1 tree))
    ∷ (codes "computedstore", λ tree. values.ComputedStore (record { object = operand 0 tree; property = operand 1 tree; value = operand 2 tree }))
    ∷ (codes "computeddelete", λ tree. values.ComputedDelete (operand 0 tree) (operand 1 tree))
    ∷ (codes "jsx", λ tree. values.JsxExpression (jsx_of (shape_of (texts tree) (operands tree))))
    ∷ (codes "jsxfragment", λ tree. values.JsxFragment (children_of (shape_of (texts tree) (operands tree))))
    ∷ (codes "await", λ tree. values.Await (operand 0 tree))
    ∷ (codes "getiterator", λ tree. values.GetIterator (operand 0 tree))
    ∷ (codes "iteratornext", λ tree. values.IteratorNext (operand 0 tree) (operand 1 tree))
    ∷ (codes "nextpropertyof", λ tree. values.NextPropertyOf (operand 0 tree))
    ∷ []

pub value_of : Tree → InstructionValue
value_of tree = choose (word_of tree) value_readers (λ tree. values.Debugger) tree

pub value-back : (v : InstructionValue) → value_of (spec.value v) ≡ v
unfolding value_of value_readers text_of
value-back (values.Primitive v) = λ i. values.Primitive (primitive-back v i)
value-back (values.JsxText text) = refl
value-back (values.LoadLocal p) = λ i. values.LoadLocal (place-back p i)
value-back (values.LoadContext p) = λ i. values.LoadContext (place-back p i)
value-back (values.TypeCastExpression p cast at) = λ i. values.TypeCastExpression (place-back p i) (type-back cast i) (spans-back at i)
value-back (values.DeclareLocal kind p) = λ i. values.DeclareLocal (kind-back kind i) (place-back p i)
value-back (values.DeclareContext kind p) = λ i. values.DeclareContext (kind-back kind i) (place-back p i)
value-back (values.StoreLocal kind p v) = λ i. values.StoreLocal (kind-back kind i) (place-back p i) (place-back v i)
value-back (values.StoreContext kind p v) = λ i. values.StoreContext (kind-back kind i) (place-back p i) (place-back v i)
value-back (values.LoadGlobal b) = λ i. values.LoadGlobal (binding-back b i)
value-back (values.StoreGlobal name v) = λ i. values.StoreGlobal name (place-back v i)
value-back (values.Destructure d) = λ i. values.Destructure (record { kind = kind-back d.kind i; pattern = pattern-back d.pattern i; value = place-back d.value i })
value-back (values.BinaryExpression o l r) = λ i. values.BinaryExpression (operator-back o i) (place-back l i) (place-back r i)
value-back (values.UnaryExpression o v) = λ i. values.UnaryExpression (unary-back o i) (place-back v i)
value-back (values.PrefixUpdate o p v) = λ i. values.PrefixUpdate (update-back o i) (place-back p i) (place-back v i)
value-back (values.PostfixUpdate o p v) = λ i. values.PostfixUpdate (update-back o i) (place-back p i) (place-back v i)
value-back (values.RegExpLiteral literal) = refl
value-back (values.TemplateLiteral template) = λ i. values.TemplateLiteral (template-back template i)
value-back (values.TaggedTemplateExpression tag template) = λ i. values.TaggedTemplateExpression (place-back tag i) (template-back template i)
value-back (values.ArrayExpression xs) = λ i. values.ArrayExpression (elements-back xs i)
value-back (values.ObjectExpression xs) = λ i. values.ObjectExpression (properties-back xs i)
value-back values.MetaProperty = refl
value-back values.Debugger = refl
value-back (values.FunctionExpression id) = λ i. values.FunctionExpression (node-back id i)
value-back (values.ObjectMethod id) = λ i. values.ObjectMethod (node-back id i)
value-back (values.CallExpression callee xs) = λ i. values.CallExpression (place-back callee i) (arguments-back xs i)
value-back (values.NewExpression callee xs) = λ i. values.NewExpression (place-back callee i) (arguments-back xs i)
value-back (values.MethodCall call) = λ i. values.MethodCall (record { receiver = place-back call.receiver i; property = place-back call.property i; arguments = arguments-back call.arguments i })
value-back (values.PropertyLoad o k) = λ i. values.PropertyLoad (place-back o i) (key-back k i)
value-back (values.PropertyStore o k v) = λ i. values.PropertyStore (place-back o i) (key-back k i) (place-back v i)
value-back (values.PropertyDelete o k) = λ i. values.PropertyDelete (place-back o i) (key-back k i)
value-back (values.ComputedLoad o k) = λ i. values.ComputedLoad (place-back o i) (place-back k i)
value-back (values.ComputedStore store) = λ i. values.ComputedStore (record { object = place-back store.object i; property = place-back store.property i; value = place-back store.value i })
value-back (values.ComputedDelete o k) = λ i. values.ComputedDelete (place-back o i) (place-back k i)
value-back (values.JsxExpression jsx) = λ i. values.JsxExpression (jsx-back jsx.tag jsx.props jsx.children i)
value-back (values.JsxFragment children) = λ i. values.JsxFragment (values-back children i)
value-back (values.Await v) = λ i. values.Await (place-back v i)
value-back (values.GetIterator v) = λ i. values.GetIterator (place-back v i)
value-back (values.IteratorNext iterator collection) = λ i. values.IteratorNext (place-back iterator i) (place-back collection i)
value-back (values.NextPropertyOf v) = λ i. values.NextPropertyOf (place-back v i)
