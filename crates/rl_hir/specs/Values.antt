-- The table of values, and the listing of each.
use Rattle.std.specs.Prelude.{ℕ, List, [], ◌∷◌, ◌++◌, codes}
use Rattle.rl_text.specs.Notation.{Tree, Said, Listed}
use Rattle.rl_text.specs.Number.{numeral}
use Rattle.rl_base.specs.Operators.{operator_text, unary_text, update_text}
use Rattle.rl_hir.specs.Trees.{node, optional, span, place, primitive, kind, hir_type}
use Rattle.rl_hir.specs.Pieces.{Key, Piece, Says, Gives, Takes, used, row_parts, gathered, value_pieces, binding_pieces, argument_pieces, element_pieces, property_pieces, pattern_pieces, template_pieces, tag_pieces, attribute_pieces}
use Rattle.rl_hir.specs.declared.pieces.Row.{Row}
use Rattle.rl_hir.specs.declared.pieces.Row.TheVariants as rows
use Rattle.rl_base.specs.declared.operator.UpdateOperator.{UpdateOperator}
use Rattle.rl_hir.specs.declared.instruction.Destructure.{Destructure}
use Rattle.rl_hir.specs.declared.instruction.Place.{Place}
use Rattle.rl_hir.specs.declared.instruction.InstructionValue.{InstructionValue}
use Rattle.rl_hir.specs.declared.instruction.InstructionValue.TheVariants as values

pub data Form : Type 0 where
  -- a value without an event
  Silent : (word : List ℕ) (fields : List Tree) → Form
  -- a value with an event
  Asks : (word : List ℕ) (pieces : List Piece) → Form
  -- a value with an event that gives values to places: those of `targets`
  Assigns : (word : List ℕ) (head : List Tree) (texts : List Piece) (value : Place) (targets : List Piece) → Form

abbrev pub destructure_form : (word : List ℕ) → Destructure → Form
destructure_form word d = Assigns word (kind d.kind ∷ []) (pattern_pieces d.pattern) d.value (pattern_pieces d.pattern)

-- `value` is read, and `place` takes the new value.
abbrev pub update_form : (word : List ℕ) → UpdateOperator → (place value : Place) → Form
update_form word operator place value = Assigns word [] (Says (update_text operator) ∷ []) value (used place ∷ [])

-- The table of values: the word, and the fields or the pieces of each.
abbrev pub form_of : InstructionValue → Form
form_of (values.Primitive value) = Silent (codes "primitive") (primitive value ∷ [])
form_of (values.JsxText text) = Silent (codes "jsxtext") (Said text ∷ [])
form_of (values.LoadLocal variable) = Silent (codes "loadlocal") (place variable ∷ [])
form_of (values.LoadContext variable) = Silent (codes "loadcontext") (place variable ∷ [])
form_of (values.TypeCastExpression value cast at) = Silent (codes "typecast") (place value ∷ hir_type cast ∷ optional span at ∷ [])
form_of (values.DeclareLocal k variable) = Silent (codes "declarelocal") (kind k ∷ place variable ∷ [])
form_of (values.DeclareContext k variable) = Silent (codes "declarecontext") (kind k ∷ place variable ∷ [])
form_of (values.StoreLocal k variable value) = Silent (codes "storelocal") (kind k ∷ place variable ∷ place value ∷ [])
form_of (values.StoreContext k variable value) = Silent (codes "storecontext") (kind k ∷ place variable ∷ place value ∷ [])
form_of (values.LoadGlobal binding) = Asks (codes "loadglobal") (binding_pieces binding)
form_of (values.StoreGlobal name value) = Asks (codes "storeglobal") (Says name ∷ used value ∷ [])
form_of (values.Destructure destructure) = destructure_form (codes "destructure") destructure
form_of (values.BinaryExpression operator left right) = Asks (codes "binary") (Says (operator_text operator) ∷ used left ∷ used right ∷ [])
form_of (values.UnaryExpression operator value) = Asks (codes "unary") (Says (unary_text operator) ∷ used value ∷ [])
form_of (values.PrefixUpdate operator variable value) = update_form (codes "prefixupdate") operator variable value
form_of (values.PostfixUpdate operator variable value) = update_form (codes "postfixupdate") operator variable value
form_of (values.RegExpLiteral literal) = Asks (codes "regexp") (Says literal.pattern ∷ Says literal.flags ∷ [])
form_of (values.TemplateLiteral template) = Asks (codes "template") (template_pieces template)
form_of (values.TaggedTemplateExpression tag template) = Asks (codes "tagged") (Gives tag ∷ template_pieces template)
form_of (values.ArrayExpression items) = Asks (codes "array") (gathered element_pieces items)
form_of (values.ObjectExpression properties) = Asks (codes "object") (gathered property_pieces properties)
form_of values.MetaProperty = Asks (codes "metaproperty") []
form_of values.Debugger = Asks (codes "debugger") []
form_of (values.FunctionExpression id) = Asks (codes "function") (Says (numeral id.0) ∷ [])
form_of (values.ObjectMethod id) = Asks (codes "objectmethod") (Says (numeral id.0) ∷ [])
form_of (values.CallExpression callee arguments) = Asks (codes "call") (used callee ∷ gathered argument_pieces arguments)
form_of (values.NewExpression callee arguments) = Asks (codes "new") (used callee ∷ gathered argument_pieces arguments)
form_of (values.MethodCall call) = Asks (codes "methodcall") (used call.receiver ∷ used call.property ∷ gathered argument_pieces call.arguments)
form_of (values.PropertyLoad object key) = Asks (codes "propertyload") (used object ∷ Takes (Key key) ∷ [])
form_of (values.PropertyStore object key value) = Asks (codes "propertystore") (used object ∷ Takes (Key key) ∷ used value ∷ [])
form_of (values.PropertyDelete object key) = Asks (codes "propertydelete") (used object ∷ Takes (Key key) ∷ [])
form_of (values.ComputedLoad object key) = Asks (codes "computedload") (used object ∷ used key ∷ [])
form_of (values.ComputedStore store) = Asks (codes "computedstore") (used store.object ∷ used store.property ∷ used store.value ∷ [])
form_of (values.ComputedDelete object key) = Asks (codes "computeddelete") (used object ∷ used key ∷ [])
form_of (values.JsxExpression jsx) = Asks (codes "jsx") (tag_pieces jsx.tag ++ (gathered attribute_pieces jsx.props ++ gathered value_pieces jsx.children))
form_of (values.JsxFragment children) = Asks (codes "jsxfragment") (gathered value_pieces children)
form_of (values.Await value) = Asks (codes "await") (used value ∷ [])
form_of (values.GetIterator collection) = Asks (codes "getiterator") (used collection ∷ [])
form_of (values.IteratorNext iterator collection) = Asks (codes "iteratornext") (used iterator ∷ used collection ∷ [])
form_of (values.NextPropertyOf value) = Asks (codes "nextpropertyof") (used value ∷ [])

abbrev pub row : Row → List Piece → Tree
row which pieces = Listed (row_parts which pieces)

-- `(WORD FIELD ..)`, `(WORD [TEXT] [OPERAND])`, `(WORD HEAD .. [TEXT] [VALUE] [TARGET])`
abbrev pub form_tree : Form → Tree
form_tree (Silent word fields) = node word fields
form_tree (Asks word pieces) = node word (row rows.Texts pieces ∷ row rows.Operands pieces ∷ [])
form_tree (Assigns word head pieces value targets) = node word (head ++ row rows.Texts pieces ∷ row rows.Operands (used value ∷ []) ∷ row rows.Operands targets ∷ [])

abbrev pub value : InstructionValue → Tree
value v = form_tree (form_of v)
