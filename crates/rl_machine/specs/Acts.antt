-- The effects of instructions: a table over all values.
use Rattle.std.specs.Prelude.{ℕ, List, [], ◌∷◌, map, codes}
use Rattle.rl_hir.specs.Pieces.{Operand, Use, Key, operands, texts}
use Rattle.rl_hir.specs.Values.{Form, Silent, Asks as Asking, Assigns, form_of}
use Rattle.rl_hir.specs.declared.instruction.InstructionKind.{InstructionKind}
use Rattle.rl_hir.specs.declared.instruction.InstructionKind.TheVariants as kinds
use Rattle.rl_hir.specs.declared.instruction.InstructionValue.{InstructionValue}
use Rattle.rl_hir.specs.declared.instruction.InstructionValue.TheVariants as values
use Rattle.rl_hir.specs.declared.instruction.PrimitiveValue.{PrimitiveValue}
use Rattle.rl_hir.specs.declared.instruction.PrimitiveValue.TheVariants as primitives
use Rattle.rl_hir.specs.declared.instruction.PropertyLiteral.{PropertyLiteral}
use Rattle.rl_hir.specs.declared.instruction.PropertyLiteral.TheVariants as keys
use Rattle.rl_machine.specs.Traces.{Store, set, take_values}
use Rattle.rl_machine.specs.declared.trace.Answer.{Answer}
use Rattle.rl_machine.specs.declared.trace.Event.{Event}
use Rattle.rl_machine.specs.declared.trace.Value.{Value}
use Rattle.rl_machine.specs.declared.trace.Value.TheVariants as value

abbrev pub value_of : PrimitiveValue → Value
value_of primitives.Undefined = value.Undefined
value_of primitives.Null = value.Null
value_of (primitives.Boolean flag) = value.Bool flag
value_of (primitives.Number number) = value.Number number
value_of (primitives.String text) = value.Text text

abbrev pub key_value : PropertyLiteral → Value
key_value (keys.String text) = value.Text text
key_value (keys.Number number) = value.Number number

abbrev pub operand_value : Store → Operand → Value
operand_value store (Use place) = store place.identifier.0
operand_value store (Key key) = key_value key

-- The event of a form, from the texts and operands of its listing. A silent form has none.
abbrev pub event_in : Store → (kind : List ℕ) → Form → Event
event_in store kind (Silent word fields) = record { kind = kind; texts = []; operands = [] }
event_in store kind (Asking word pieces) = record { kind = kind; texts = texts pieces; operands = map (operand_value store) (operands pieces) }
event_in store kind (Assigns word head pieces v targets) = record { kind = kind; texts = texts pieces; operands = store v.identifier.0 ∷ [] }

abbrev pub word_of : Form → List ℕ
word_of (Silent word fields) = word
word_of (Asking word pieces) = word
word_of (Assigns word head pieces v targets) = word

-- The kind of a value's event: the word of its listing, but for two.
abbrev pub event_kind : InstructionValue → List ℕ
event_kind (values.LoadGlobal binding) = codes "global"
event_kind (values.IteratorNext iterator collection) = codes "next"
event_kind v = word_of (form_of v)

abbrev pub event_of : InstructionValue → Store → Event
event_of v store = event_in store (event_kind v) (form_of v)

-- Identifiers that take values when an event has its answer.
pub record Landing : Type 0 where
  -- those that take the answer's value
  pub given : List ℕ
  -- those that take its pieces, each the one at its index
  pub taken : List ℕ
  -- those that take these values
  pub kept : List (ℕ × Value)

-- The effect of an instruction.
pub data Act : Type 0 where
  -- The identifiers take the value, silently.
  Computes : (v : Value) (into : List ℕ) → Act
  -- Asks an event.
  Asks : (event : Event) (landing : Landing) → Act
  -- Asks for the iterator of a `for`-`of` loop, once in each run of the loop; `result` takes it.
  Opens : (event : Event) (result : ℕ) → Act
  -- Asks for the next value of a loop, which `result` takes, or for its end.
  Steps : (event : Event) (result : ℕ) → Act

-- A declaration sets its variable to Undefined; the marker of a hoisted one and the parameter of a `catch` do nothing.
abbrev pub declared : InstructionKind → (variable : ℕ) → Act
declared kinds.Catch variable = Computes value.Undefined []
declared kinds.HoistedConst variable = Computes value.Undefined []
declared kinds.HoistedLet variable = Computes value.Undefined []
declared kinds.HoistedFunction variable = Computes value.Undefined []
declared _ variable = Computes value.Undefined (variable ∷ [])

-- The identifiers of the places that pieces give.
abbrev pub targets : List Operand → List ℕ
targets [] = []
targets (Use place ∷ operands) = place.identifier.0 ∷ targets operands
targets (Key key ∷ operands) = targets operands

abbrev pub targets_of : Form → List ℕ
targets_of (Assigns word head pieces v places) = targets (operands places)
targets_of _ = []

-- The event's answer is the result; or the result is a value that was there before; or a variable takes the answer as well.
abbrev pub gives : ℕ → Landing
gives result = record { given = result ∷ []; taken = []; kept = [] }

abbrev pub keeps : ℕ → Value → Landing
keeps result v = record { given = []; taken = []; kept = (result, v) ∷ [] }

-- The table of effects: `result` is the identifier of the instruction.
abbrev pub act : (result : ℕ) → InstructionValue → Store → Act
act result (values.Primitive v) store = Computes (value_of v) (result ∷ [])
act result (values.JsxText text) store = Computes (value.Text text) (result ∷ [])
act result (values.LoadLocal p) store = Computes (store p.identifier.0) (result ∷ [])
act result (values.LoadContext p) store = Computes (store p.identifier.0) (result ∷ [])
act result (values.TypeCastExpression p cast at) store = Computes (store p.identifier.0) (result ∷ [])
act result (values.DeclareLocal kind p) store = declared kind p.identifier.0
act result (values.DeclareContext kind p) store = declared kind p.identifier.0
act result (values.StoreLocal kind p v) store = Computes (store v.identifier.0) (p.identifier.0 ∷ result ∷ [])
act result (values.StoreContext kind p v) store = Computes (store v.identifier.0) (p.identifier.0 ∷ result ∷ [])
act result (values.StoreGlobal name v) store = Asks (event_of (values.StoreGlobal name v) store) (keeps result (store v.identifier.0))
act result (values.PropertyStore object key v) store = Asks (event_of (values.PropertyStore object key v) store) (keeps result (store v.identifier.0))
act result (values.ComputedStore s) store = Asks (event_of (values.ComputedStore s) store) (keeps result (store s.value.identifier.0))
act result (values.Destructure d) store =
    Asks (event_of (values.Destructure d) store) (record { given = []; taken = targets_of (form_of (values.Destructure d)); kept = (result, store d.value.identifier.0) ∷ [] })
act result (values.PrefixUpdate operator p v) store =
    Asks (event_of (values.PrefixUpdate operator p v) store) (record { given = p.identifier.0 ∷ result ∷ []; taken = []; kept = [] })
act result (values.PostfixUpdate operator p v) store =
    Asks (event_of (values.PostfixUpdate operator p v) store) (record { given = p.identifier.0 ∷ []; taken = []; kept = (result, store v.identifier.0) ∷ [] })
act result (values.GetIterator p) store = Opens (event_of (values.GetIterator p) store) result
act result (values.IteratorNext iterator p) store = Steps (event_of (values.IteratorNext iterator p) store) result
act result (values.NextPropertyOf p) store = Steps (event_of (values.NextPropertyOf p) store) result
act result v store = Asks (event_of v store) (gives result)

-- The identifiers take one value.
abbrev pub set_each : List ℕ → Value → Store → Store
set_each [] v store = store
set_each (id ∷ ids) v store = set_each ids v (set store id v)

-- Identifiers take values of their own.
abbrev pub set_kept : List (ℕ × Value) → Store → Store
set_kept [] store = store
set_kept (p ∷ ps) store = set_kept ps (set store p.0 p.1)

-- The store after an event that completed normally.
abbrev pub landed : Landing → Answer → Store → Store
landed l answer store = set_kept l.kept (take_values l.taken answer.pieces (set_each l.given answer.value store))
