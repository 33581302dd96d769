-- The meaning of expressions, and of the targets that they assign to (ECMA-262, 13).
use Rattle.std.specs.Prelude.{ℕ, Bool, true, false, ◌&&◌, not, if◌then◌else◌, Option, Some, None, is_some, List, [], ◌∷◌, ◌++◌, codes}
use Rattle.std.specs.Str.{bytes_eq}
use Rattle.rl_text.specs.Numeral.{is_numeral, number_of}
use Rattle.rl_hir.specs.Instructions.{binding_texts}
use Rattle.rl_machine.specs.Traces.{truthy, nullish}
use Rattle.rl_machine.specs.declared.trace.Value.{Value}
use Rattle.rl_machine.specs.declared.trace.Value.TheVariants as value
use Rattle.rl_names.specs.declared.names.Meaning.{Meaning}
use Rattle.rl_names.specs.declared.names.Meaning.TheVariants.{Local, Outer}
use Rattle.rl_model.specs.Actions.{◌>>=◌, ◌>>◌, Action, answer_to, ask, assign, chained, done, end_short, give, no_meaning, test, variable}
use Rattle.rl_model.specs.Events.{Key, binary, computed_key, delete, destructure, event, fixed_key, function, global, load, method}
use Rattle.rl_model.specs.Events.{store_global, store_in, unary, update}
use Rattle.rl_model.specs.Scene.{Scene}
use Rattle.rl_model.specs.Shapes as shapes
use Rattle.rl_syntax.specs.Syntax.{Syntax, Node, Listed, Said, Flag, Absent, Pieces, End, Then}
use Rattle.rl_syntax.specs.declared.word.Word.TheVariants as word

-- Reads a name: a local variable silently, any other name by an event.
abbrev pub read : Scene → Meaning → Action Value
read scene (Local symbol) = variable symbol.0
read scene (Outer binding) = ask scene (global (binding_texts binding))

-- Stores a value in a name, and gives it.
abbrev pub write : Scene → Meaning → (name : List ℕ) → Value → Action Value
write scene (Local symbol) name v = do
  assign symbol.0 v
  give v
write scene (Outer binding) name v = do
  answer_to scene (store_global name v)
  give v

-- Stores a value in a property, and gives it.
abbrev pub write_property : Scene → (object : Value) → Key → Value → Action Value
write_property scene object key v = do
  answer_to scene (store_in object key v)
  give v

-- Applies `++` or `--` to a name: the event gives its new value. Only a local variable has it (rows F20 and F21).
abbrev pub update_name : Scene → (prefix : Bool) → (operator : List ℕ) → Meaning → Action Value
update_name scene prefix operator (Local symbol) = do
  old ← variable symbol.0
  new ← ask scene (update prefix operator old)
  assign symbol.0 new
  give (if prefix then new else old)
update_name scene prefix operator (Outer binding) = no_meaning

-- As `update_name`, for a property.
abbrev pub update_property : Scene → (prefix : Bool) → (operator : List ℕ) → (object : Value) → Key → Action Value
update_property scene prefix operator object key = do
  old ← ask scene (load object key)
  new ← ask scene (binary (shapes.first_character operator) old (value.Number 1))
  write_property scene object key new
  give (if prefix then new else old)

-- Asks by the value of the left part of a logical operation if the right one is needed.
abbrev pub needs_right : Scene → (operator : List ℕ) → Value → Action Bool
needs_right scene operator v =
    if bytes_eq operator (codes "&&") then test scene (truthy v)
    else if bytes_eq operator (codes "||") then (do
      holds ← test scene (truthy v)
      give (not holds))
    else test scene (nullish v)

-- In front of an optional link: the chain ends early if the value in front of it is null or undefined.
abbrev pub unless_nullish : Scene → (optional : Bool) → Value → Action (Unit {0})
unless_nullish scene false v = done
unless_nullish scene true v = do
  missing ← test scene (nullish v)
  if missing then end_short else done

-- Takes a value apart: one event gives all pieces.
abbrev pub take_apart : Scene → (shape : List (List ℕ)) → Value → Action (List Value)
take_apart scene shape v = do
  a ← answer_to scene (destructure shape v)
  give a.pieces

-- The first of the pieces that are left; Undefined where none is left.
abbrev pub first_piece : List Value → Value
first_piece [] = value.Undefined
first_piece (v ∷ vs) = v

abbrev pub later_pieces : List Value → List Value
later_pieces [] = []
later_pieces (v ∷ vs) = vs

-- The value, or its default where it is undefined.
abbrev pub or_default : Scene → Value → (default : Action Value) → Action Value
or_default scene v default = do
  same ← ask scene (binary (codes "===") v value.Undefined)
  missing ← test scene (truthy same)
  if missing then default else give v

-- A value, if there is a text.
abbrev pub text_values : Option (List ℕ) → List Value
text_values None = []
text_values (Some text) = value.Text text ∷ []

abbrev pub one_value : Action Value → Action (List Value)
one_value action = do
  v ← action
  give (v ∷ [])

-- The value of a property's key in an object literal, if it is computed there. A key of another kind has no meaning (row F9).
abbrev pub property_key : (computed : Bool) → Syntax → (key_value : Action Value) → Action (List Value)
property_key computed key key_value =
    if shapes.is_computed computed key then one_value key_value
    else if is_some (shapes.key_text computed key) then give [] else no_meaning

abbrev pub tag_values : Syntax → (tag_value : Action Value) → Action (List Value)
tag_values tag tag_value = if is_some (shapes.builtin tag) then give [] else one_value tag_value

-- The function that is called, behind the object that it lends.
abbrev pub called : List Value → Value
called [] = value.Undefined
called (f ∷ []) = f
called (object ∷ f ∷ vs) = f

abbrev pub call_kind : List Value → List ℕ
call_kind (object ∷ f ∷ vs) = codes "methodcall"
call_kind _ = codes "call"

-- `=` to a property: its object and key come before the value. The port has the value first.
abbrev pub assignment_in : Scene → (place : Action (Value × Key)) → (right : Action Value) → Action Value
assignment_in scene place right =
    if scene.ported then (do
      v ← right
      (object, key) ← place
      write_property scene object key v)
    else (do
      (object, key) ← place
      v ← right
      write_property scene object key v)

-- The key in brackets: a number is fixed.
abbrev pub key_in : Syntax → (computed : Action Value) → Action Key
key_in (Node at word.Num (Then (Said text) End)) computed =
    if is_numeral text then give (fixed_key (value.Number (number_of text))) else no_meaning
key_in property computed = do
  v ← computed
  give (computed_key v)

-- `=`: to a name and to a pattern the value comes first.
abbrev pub assignment : Scene → (target : Syntax) → (place : Action (Value × Key)) → (take : Value → Action (Unit {0})) →
    (right : Action Value) → Action Value
assignment scene (Node at word.Id (Then (Said name) End)) place take right = do
  v ← right
  write scene (scene.names.meaning at.reference.0 name) name v
assignment scene (Node at word.Member parts) place take right = assignment_in scene place right
assignment scene (Node at word.Index parts) place take right = assignment_in scene place right
assignment scene (Node at word.Privatemember parts) place take right = no_meaning
assignment scene pattern place take right = do
  v ← right
  take v
  give v

-- A compound assignment: the old value is read before the right part is evaluated.
abbrev pub compound : Scene → (operator : List ℕ) → (target : Syntax) → (place : Action (Value × Key)) → (right : Action Value) →
    Action Value
compound scene operator (Node at word.Id (Then (Said name) End)) place right = do
  old ← read scene (scene.names.meaning at.reference.0 name)
  w ← right
  v ← ask scene (binary operator old w)
  write scene (scene.names.meaning at.reference.0 name) name v
compound scene operator target place right = do
  (object, key) ← place
  old ← ask scene (load object key)
  w ← right
  v ← ask scene (binary operator old w)
  write_property scene object key v

abbrev mutual
  -- The value of an expression.
  pub eval : Scene → Syntax → Action Value
  -- literals and names
  eval scene (Node at word.Null End) = give value.Null
  eval scene (Node at word.Bool (Then (Flag flag) End)) = give (value.Bool flag)
  eval scene (Node at word.Num (Then (Said text) End)) = if is_numeral text then give (value.Number (number_of text)) else no_meaning
  eval scene (Node at word.Str (Then (Said text) End)) = give (value.Text text)
  eval scene (Node at word.Regexp (Then (Said pattern) (Then (Said flags) End))) =
      ask scene (event (codes "regexp") (pattern ∷ flags ∷ []) [])
  eval scene (Node at word.Id (Then (Said name) End)) = read scene (scene.names.meaning at.reference.0 name)
  eval scene (Node at word.Importmeta End) = ask scene (event (codes "metaproperty") [] [])
  -- wrappers
  eval scene (Node at word.Paren (Then expression End)) = eval scene expression
  eval scene (Node at word.As (Then expression (Then type End))) = eval scene expression
  eval scene (Node at word.Satisfies (Then expression (Then type End))) = eval scene expression
  eval scene (Node at word.Assert (Then type (Then expression End))) = eval scene expression
  eval scene (Node at word.Nonnull (Then expression End)) = eval scene expression
  eval scene (Node at word.Instantiate (Then expression (Then names End))) = eval scene expression
  -- templates, arrays and objects
  eval scene (Node at word.Template (Then (Listed quasis) (Then (Listed expressions) End))) = do
    vs ← values scene expressions
    ask scene (event (codes "template") (shapes.quasis quasis ++ shapes.shapes expressions) vs)
  eval scene (Node at word.Tagged (Then tag (Then (Node there word.Template (Then (Listed quasis) (Then (Listed expressions) End))) End))) =
      if shapes.are_raw quasis then (do
        head ← (if shapes.lends_to_tag scene tag then callee scene tag else one_value (eval scene tag))
        vs ← values scene expressions
        ask scene (event (codes "tagged") (codes "place" ∷ shapes.quasis quasis ++ shapes.shapes expressions) (head ++ vs)))
      else no_meaning
  eval scene (Node at word.Array (Then (Listed items) End)) = do
    vs ← values scene items
    ask scene (event (codes "array") (shapes.shapes items) vs)
  eval scene (Node at word.Object (Then (Listed properties) End)) = do
    vs ← values scene properties
    ask scene (event (codes "object") (shapes.shapes properties) vs)
  -- operators
  eval scene (Node at word.Unary (Then (Said operator) (Then argument End))) =
      if bytes_eq operator (codes "delete") then delete_property scene argument
      else (do
        v ← eval scene argument
        ask scene (unary operator v))
  eval scene (Node at word.Update (Then (Said operator) (Then (Flag prefix) (Then (Node there word.Id (Then (Said name) End)) End)))) =
      update_name scene prefix operator (scene.names.meaning there.reference.0 name)
  eval scene (Node at word.Update (Then (Said operator) (Then (Flag prefix) (Then target End)))) = do
    (object, key) ← place scene target
    update_property scene prefix operator object key
  eval scene (Node at word.Binary (Then (Said operator) (Then left (Then right End)))) = do
    v ← eval scene left
    w ← eval scene right
    ask scene (binary operator v w)
  eval scene (Node at word.Logical (Then (Said operator) (Then left (Then right End)))) = do
    v ← eval scene left
    needed ← needs_right scene operator v
    if needed then eval scene right else give v
  eval scene (Node at word.Cond (Then condition (Then consequent (Then alternate End)))) = do
    v ← eval scene condition
    holds ← test scene (truthy v)
    if holds then eval scene consequent else eval scene alternate
  eval scene (Node at word.Seq (Then (Listed expressions) End)) = eval_last scene expressions
  eval scene (Node at word.Await (Then argument End)) = do
    v ← eval scene argument
    ask scene (event (codes "await") [] (v ∷ []))
  -- assignments
  eval scene (Node at word.Assign (Then (Said operator) (Then target (Then right End)))) =
      if bytes_eq operator (codes "=") then assignment scene target (place scene target) (assign_to scene target) (eval scene right)
      else if shapes.is_logical operator then no_meaning
      else compound scene (shapes.operator_in operator) target (place scene target) (eval scene right)
  -- properties, calls and chains
  eval scene (Node at word.Member (Then (Flag optional) (Then object (Then (Said name) End)))) = do
    v ← eval scene object
    unless_nullish scene optional v
    ask scene (load v (fixed_key (value.Text name)))
  eval scene (Node at word.Index (Then (Flag optional) (Then object (Then property End)))) = do
    v ← eval scene object
    unless_nullish scene optional v
    key ← key_in property (eval scene property)
    ask scene (load v key)
  eval scene (Node at word.Call (Then (Flag optional) (Then called_part (Then (Listed arguments) End)))) = do
    head ← (if shapes.lends_receiver scene called_part then callee scene called_part else one_value (eval scene called_part))
    unless_nullish scene optional (called head)
    vs ← values scene arguments
    ask scene (event (call_kind head) (shapes.shapes arguments) (head ++ vs))
  eval scene (Node at word.New (Then called_part (Then (Listed arguments) End))) = do
    v ← eval scene called_part
    vs ← values scene arguments
    ask scene (event (codes "new") (shapes.shapes arguments) (v ∷ vs))
  eval scene (Node at word.Chain (Then expression End)) = chained value.Undefined (eval scene expression)
  -- functions
  eval scene (Node at word.Arrow parts) = ask scene (function at.id.0)
  eval scene (Node at word.Funexpr parts) = ask scene (function at.id.0)
  -- JSX
  eval scene
      (Node at word.Element
      (Then (Node there word.Opening (Then tag (Then (Listed attributes) End))) (Then (Listed children) (Then closing End)))) = do
        head ← tag_values tag (tag_value scene tag)
        vs ← values scene attributes
        ws ← values scene children
        ask scene (event (codes "jsx") (shapes.tag_shape tag ++ shapes.attribute_shapes attributes ++ shapes.child_shapes scene children)
            (head ++ vs ++ ws))
  eval scene (Node at word.Fragment (Then (Listed children) End)) = do
    vs ← values scene children
    ask scene (event (codes "jsxfragment") (shapes.child_shapes scene children) vs)
  -- the others have no meaning (rows F4, F5, F14 to F18, F42)
  eval scene _ = no_meaning

  -- The values of parts, from left to right.
  pub values : Scene → Pieces → Action (List Value)
  values scene End = give []
  values scene (Then part parts) = do
    vs ← values_of scene part (eval scene part)
    ws ← values scene parts
    give (vs ++ ws)

  -- The values of an argument, an element, a property, an attribute or a child.
  pub values_of : Scene → Syntax → (plain : Action Value) → Action (List Value)
  values_of scene (Node at word.Hole End) plain = give []
  values_of scene (Node at word.Spread (Then argument End)) plain = one_value (eval scene argument)
  values_of scene (Node at word.Attrspread (Then argument End)) plain = one_value (eval scene argument)
  values_of scene (Node at word.Prop (Then (Flag computed) (Then key (Then expression End)))) plain = do
    vs ← property_key computed key (eval scene key)
    v ← eval scene expression
    give (vs ++ v ∷ [])
  values_of scene (Node at word.Method (Then (Flag computed) (Then key (Then (Node there word.Funexpr parts) End)))) plain = do
    vs ← property_key computed key (eval scene key)
    v ← ask scene (method there.id.0)
    give (vs ++ v ∷ [])
  values_of scene (Node at word.Get parts) plain = no_meaning
  values_of scene (Node at word.Set parts) plain = no_meaning
  values_of scene (Node at word.Attr (Then name (Then Absent End))) plain = give (value.Bool true ∷ [])
  values_of scene (Node at word.Attr (Then name (Then (Node there word.Str (Then (Said text) End)) End))) plain =
      give (value.Text (scene.attribute_text text) ∷ [])
  values_of scene (Node at word.Attr (Then name (Then (Node there word.Container (Then Absent End)) End))) plain = give []
  values_of scene (Node at word.Attr (Then name (Then (Node there word.Container (Then expression End)) End))) plain =
      one_value (eval scene expression)
  values_of scene (Node at word.Attr (Then name (Then expression End))) plain = one_value (eval scene expression)
  values_of scene (Node at word.Text (Then (Said text) End)) plain = give (text_values (scene.child_text at.id.0 text))
  values_of scene (Node at word.Container (Then Absent End)) plain = give []
  values_of scene (Node at word.Container (Then expression End)) plain = one_value (eval scene expression)
  values_of scene (Node at word.Spreadchild parts) plain = no_meaning
  values_of scene expression plain = one_value plain

  -- A callee that lends its object: the object, and then the function.
  pub callee : Scene → Syntax → Action (List Value)
  callee scene (Node at word.Paren (Then expression End)) = callee scene expression
  callee scene (Node at word.As (Then expression (Then type End))) = callee scene expression
  callee scene (Node at word.Satisfies (Then expression (Then type End))) = callee scene expression
  callee scene (Node at word.Assert (Then type (Then expression End))) = callee scene expression
  callee scene (Node at word.Nonnull (Then expression End)) = callee scene expression
  callee scene (Node at word.Instantiate (Then expression (Then names End))) = callee scene expression
  callee scene (Node at word.Chain (Then expression End)) = chained (value.Undefined ∷ value.Undefined ∷ []) (callee scene expression)
  callee scene (Node at word.Member (Then (Flag optional) (Then object (Then (Said name) End)))) = do
    v ← eval scene object
    unless_nullish scene optional v
    f ← ask scene (load v (fixed_key (value.Text name)))
    give (v ∷ f ∷ [])
  callee scene (Node at word.Index (Then (Flag optional) (Then object (Then property End)))) = do
    v ← eval scene object
    unless_nullish scene optional v
    key ← key_in property (eval scene property)
    f ← ask scene (load v key)
    give (v ∷ f ∷ [])
  callee scene expression = no_meaning

  -- A property that is assigned to, updated or deleted: its object and its key.
  pub place : Scene → Syntax → Action (Value × Key)
  place scene (Node at word.Member (Then optional (Then object (Then (Said name) End)))) = do
    v ← eval scene object
    give (v, fixed_key (value.Text name))
  place scene (Node at word.Index (Then optional (Then object (Then property End)))) = do
    v ← eval scene object
    key ← key_in property (eval scene property)
    give (v, key)
  place scene _ = no_meaning

  pub delete_property : Scene → Syntax → Action Value
  delete_property scene (Node at word.Paren (Then expression End)) = delete_property scene expression
  delete_property scene (Node at word.Member (Then optional (Then object (Then (Said name) End)))) = do
    v ← eval scene object
    ask scene (delete v (fixed_key (value.Text name)))
  delete_property scene (Node at word.Index (Then optional (Then object (Then property End)))) = do
    v ← eval scene object
    key ← key_in property (eval scene property)
    ask scene (delete v key)
  delete_property scene _ = no_meaning

  -- The value of the last of some expressions, which are all evaluated.
  pub eval_last : Scene → Pieces → Action Value
  eval_last scene End = no_meaning
  eval_last scene (Then expression End) = eval scene expression
  eval_last scene (Then expression expressions) = do
    eval scene expression
    eval_last scene expressions

  -- The value of a tag that is no builtin name.
  pub tag_value : Scene → Syntax → Action Value
  tag_value scene (Node at word.Tag (Then (Said name) End)) = ask scene (global (name ∷ []))
  tag_value scene (Node at word.This End) = ask scene (global (codes "this" ∷ []))
  tag_value scene (Node at word.Id (Then (Said name) End)) = read scene (scene.names.meaning at.reference.0 name)
  tag_value scene (Node at word.Tagns (Then (Said namespace) (Then (Said name) End))) = give (value.Text (namespace ++ codes ":" ++ name))
  tag_value scene (Node at word.Tagmember (Then object (Then (Said name) End))) = do
    v ← tag_value scene object
    ask scene (load v (fixed_key (value.Text name)))
  tag_value scene _ = no_meaning

  -- A target takes a value (ECMA-262, 13.15.5).
  pub assign_to : Scene → Syntax → Value → Action (Unit {0})
  assign_to scene Absent v = done
  assign_to scene (Node at word.Id (Then (Said name) End)) v = do
    write scene (scene.names.meaning at.reference.0 name) name v
    done
  assign_to scene (Node at word.Default (Then target (Then default End))) v = do
    w ← or_default scene v (eval scene default)
    assign_to scene target w
  assign_to scene (Node at word.Short (Then name (Then Absent End))) v = assign_to scene name v
  assign_to scene (Node at word.Short (Then name (Then default End))) v = do
    w ← or_default scene v (eval scene default)
    assign_to scene name w
  assign_to scene (Node at word.Keyed (Then computed (Then key (Then target End)))) v = assign_to scene target v
  assign_to scene (Node at word.Rest (Then target End)) v = assign_to scene target v
  assign_to scene (Node at word.Arraytarget (Then (Listed items) (Then rest End))) v = do
    pieces ← take_apart scene (codes "array" ∷ shapes.piece_shapes items ++ shapes.rest_shape rest) v
    left ← assign_items scene items pieces
    assign_to scene rest (first_piece left)
  assign_to scene (Node at word.Objecttarget (Then (Listed properties) (Then rest End))) v =
      if shapes.have_keys properties && shapes.is_plain_rest rest then (do
        pieces ← take_apart scene (codes "object" ∷ shapes.piece_shapes properties ++ shapes.rest_shape rest) v
        left ← assign_items scene properties pieces
        assign_to scene rest (first_piece left))
      else no_meaning
  assign_to scene (Node at word.Member (Then optional (Then object (Then (Said name) End)))) v = do
    o ← eval scene object
    write_property scene o (fixed_key (value.Text name)) v
    done
  assign_to scene (Node at word.Index (Then optional (Then object (Then property End)))) v = do
    o ← eval scene object
    key ← key_in property (eval scene property)
    write_property scene o key v
    done
  assign_to scene _ v = no_meaning

  -- The items take a piece each, from left to right; the pieces that are left.
  pub assign_items : Scene → Pieces → List Value → Action (List Value)
  assign_items scene End pieces = give pieces
  assign_items scene (Then item items) pieces =
      if shapes.is_hole item then assign_items scene items pieces
      else (do
        assign_to scene item (first_piece pieces)
        assign_items scene items (later_pieces pieces))
