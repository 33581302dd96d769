-- The events of the source.
use Rattle.std.specs.Prelude.{ℕ, Bool, true, false, if◌then◌else◌, List, [], ◌∷◌, ◌++◌, codes}
use Rattle.std.specs.Fmt.{decimal}
use Rattle.rl_machine.specs.declared.trace.Event.{Event}
use Rattle.rl_machine.specs.declared.trace.Value.{Value}

abbrev pub event : (kind : List ℕ) → (texts : List (List ℕ)) → (operands : List Value) → Event
event kind texts operands = record { kind = kind; texts = texts; operands = operands }

-- Reads a name that is no local: the name, and where it is imported from.
abbrev pub global : List (List ℕ) → Event
global texts = event (codes "global") texts []

abbrev pub store_global : (name : List ℕ) → Value → Event
store_global name v = event (codes "storeglobal") (name ∷ []) (v ∷ [])

abbrev pub binary : (operator : List ℕ) → (left right : Value) → Event
binary operator left right = event (codes "binary") (operator ∷ []) (left ∷ right ∷ [])

abbrev pub unary : (operator : List ℕ) → Value → Event
unary operator v = event (codes "unary") (operator ∷ []) (v ∷ [])

abbrev pub update : (prefix : Bool) → (operator : List ℕ) → Value → Event
update prefix operator v = event (if prefix then codes "prefixupdate" else codes "postfixupdate") (operator ∷ []) (v ∷ [])

-- The key of a property: a fixed one, or a value that was computed.
pub record Key : Type 0 where
  pub fixed : Bool
  pub value : Value

abbrev pub fixed_key : Value → Key
fixed_key v = record { fixed = true; value = v }

abbrev pub computed_key : Value → Key
computed_key v = record { fixed = false; value = v }

abbrev pub property : (what : List ℕ) → Key → (operands : List Value) → Event
property what key operands = event ((if key.fixed then codes "property" else codes "computed") ++ what) [] operands

abbrev pub load : (object : Value) → Key → Event
load object key = property (codes "load") key (object ∷ key.value ∷ [])

abbrev pub store_in : (object : Value) → Key → Value → Event
store_in object key v = property (codes "store") key (object ∷ key.value ∷ v ∷ [])

abbrev pub delete : (object : Value) → Key → Event
delete object key = property (codes "delete") key (object ∷ key.value ∷ [])

abbrev pub function : (node : ℕ) → Event
function node = event (codes "function") (decimal node ∷ []) []

abbrev pub method : (node : ℕ) → Event
method node = event (codes "objectmethod") (decimal node ∷ []) []

abbrev pub destructure : (shape : List (List ℕ)) → Value → Event
destructure shape v = event (codes "destructure") shape (v ∷ [])

abbrev pub get_iterator : Value → Event
get_iterator v = event (codes "getiterator") [] (v ∷ [])

abbrev pub next_of : (iterator collection : Value) → Event
next_of iterator collection = event (codes "next") [] (iterator ∷ collection ∷ [])

abbrev pub next_key : Value → Event
next_key v = event (codes "nextpropertyof") [] (v ∷ [])
