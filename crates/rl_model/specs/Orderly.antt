-- Orderly functions: those whose run by the port (`Scene`) is the run of their source. In an orderly function
-- (a) of each assignment to a property the value is steady, or object and key are: it may be evaluated at another time;
-- (b) each test of a `switch` is steady;
-- (c) no callee is a chain, or a property or a chain in parentheses or under a type; no tag is a property or a chain, in these or not;
-- (d) each name right of a default or a nested part of its pattern or parameter list stands there once, no default there names it, no
--     other function assigns it, and the pattern stands in no `try` block;
-- (e) the name of each function declaration, also less an ending `_` and digits, names no other symbol of its scope or of one around it.
use Rattle.std.specs.Prelude.{ℕ, nat_eq, nat_le, Bool, true, false, ◌&&◌, ◌||◌, not, if◌then◌else◌, List, [], ◌∷◌, ◌++◌}
use Rattle.std.specs.Prelude.{codes, length, filter, map}
use Rattle.std.specs.List.{list_all}
use Rattle.std.specs.Str.{bytes_eq}
use Rattle.rl_names.specs.Functions.{body_in, params_in}
use Rattle.rl_names.specs.Names.{Names}
use Rattle.rl_names.specs.declared.names.Meaning.{Meaning}
use Rattle.rl_names.specs.declared.names.Meaning.TheVariants.{Local, Outer}
use Rattle.rl_model.specs.Code.{assigned_in, bound_by, builtin_tag_at, code, code_of, contains, flat, is_open, local_of, lowered_functions}
use Rattle.rl_model.specs.Shapes.{is_absent, is_link}
use Rattle.rl_syntax.specs.Syntax.{Syntax, Node, Listed, Said, Absent, Pieces, End, Then}
use Rattle.rl_syntax.specs.declared.word.Word.TheVariants as word

-- A local variable that no lowered function assigns.
abbrev pub is_steady_name : (assigned : List ℕ) → Meaning → Bool
is_steady_name assigned (Local symbol) = not (contains assigned symbol.0)
is_steady_name assigned (Outer binding) = false

-- An expression that may be evaluated at another time: a literal or such a variable, also in parentheses and under a type.
abbrev pub is_steady : Names → (assigned : List ℕ) → Syntax → Bool
is_steady names assigned (Node at word.Null parts) = true
is_steady names assigned (Node at word.Bool parts) = true
is_steady names assigned (Node at word.Num parts) = true
is_steady names assigned (Node at word.Str parts) = true
is_steady names assigned (Node at word.Id (Then (Said name) End)) = is_steady_name assigned (names.meaning at.reference.0 name)
is_steady names assigned (Node at word.Paren (Then expression End)) = is_steady names assigned expression
is_steady names assigned (Node at word.As (Then expression parts)) = is_steady names assigned expression
is_steady names assigned (Node at word.Satisfies (Then expression parts)) = is_steady names assigned expression
is_steady names assigned (Node at word.Assert (Then type (Then expression End))) = is_steady names assigned expression
is_steady names assigned (Node at word.Nonnull (Then expression End)) = is_steady names assigned expression
is_steady names assigned (Node at word.Instantiate (Then expression parts)) = is_steady names assigned expression
is_steady names assigned _ = false

-- In an assignment to a property, the value is steady, or object and key are.
abbrev pub is_steady_target : Names → (assigned : List ℕ) → Syntax → Bool
is_steady_target names assigned (Node at word.Member (Then optional (Then object parts))) = is_steady names assigned object
is_steady_target names assigned (Node at word.Index (Then optional (Then object (Then property End)))) =
    is_steady names assigned object && is_steady names assigned property
is_steady_target names assigned (Node at word.Privatemember (Then optional (Then object parts))) = is_steady names assigned object
is_steady_target names assigned _ = true

-- A property or a chain, without parentheses and types.
abbrev pub is_link_inside : Syntax → Bool
is_link_inside (Node at word.Chain parts) = true
is_link_inside (Node at word.Paren (Then expression End)) = is_link_inside expression
is_link_inside (Node at word.As (Then expression parts)) = is_link_inside expression
is_link_inside (Node at word.Satisfies (Then expression parts)) = is_link_inside expression
is_link_inside (Node at word.Assert (Then type (Then expression End))) = is_link_inside expression
is_link_inside (Node at word.Nonnull (Then expression End)) = is_link_inside expression
is_link_inside (Node at word.Instantiate (Then expression parts)) = is_link_inside expression
is_link_inside expression = is_link expression

-- (a), (b) and (c), of one node.
abbrev pub is_orderly_node : Names → (assigned : List ℕ) → Syntax → Bool
is_orderly_node names assigned (Node at word.Assign (Then (Said operator) (Then target (Then right End)))) =
    not (bytes_eq operator (codes "=")) || is_steady names assigned right || is_steady_target names assigned target
is_orderly_node names assigned (Node at word.Case (Then condition parts)) = is_absent condition || is_steady names assigned condition
is_orderly_node names assigned (Node at word.Call (Then optional (Then callee parts))) = is_link callee || not (is_link_inside callee)
is_orderly_node names assigned (Node at word.Tagged (Then tag parts)) = not (is_link_inside tag)
is_orderly_node names assigned _ = true

-- An item of a binding pattern or a parameter list, from left to right: a name, or the end of a default or of a nested part.
pub data Item : Type 0 where
  Binds : (symbol : ℕ) → Item
  Passes : Item

abbrev mutual
  pub items_of : Names → Syntax → List Item
  items_of names (Node at word.Arraypat (Then (Listed items) (Then rest End))) = items_among names items ++ items_of_part names rest
  items_of names (Node at word.Objectpat (Then (Listed properties) (Then rest End))) =
      items_among names properties ++ items_of_part names rest
  items_of names (Node at word.Params (Then (Listed params) (Then rest End))) = items_among names params ++ items_of_part names rest
  items_of names _ = []

  -- A part: behind a default and behind a nested pattern something has passed.
  pub items_of_part : Names → Syntax → List Item
  items_of_part names (Node at word.Bind parts) = map (λ symbol. Binds symbol) (bound_by names (Node at word.Bind parts))
  items_of_part names (Node at word.Defaultpat (Then pattern (Then default End))) = items_of_part names pattern ++ Passes ∷ []
  items_of_part names (Node at word.Keyedpat (Then computed (Then key (Then pattern End)))) = items_of_part names pattern
  items_of_part names (Node at word.Rest (Then pattern End)) = items_of_part names pattern
  items_of_part names (Node at word.Param (Then pattern (Then Absent End))) = items_of_part names pattern
  items_of_part names (Node at word.Param (Then pattern (Then default End))) = items_of_part names pattern ++ Passes ∷ []
  items_of_part names (Node at word.Arraypat (Then (Listed items) (Then rest End))) =
      items_among names items ++ items_of_part names rest ++ Passes ∷ []
  items_of_part names (Node at word.Objectpat (Then (Listed properties) (Then rest End))) =
      items_among names properties ++ items_of_part names rest ++ Passes ∷ []
  items_of_part names _ = []

  pub items_among : Names → Pieces → List Item
  items_among names End = []
  items_among names (Then part parts) = items_of_part names part ++ items_among names parts

abbrev pub symbols_in : List Item → List ℕ
symbols_in [] = []
symbols_in (Binds symbol ∷ items) = symbol ∷ symbols_in items
symbols_in (Passes ∷ items) = symbols_in items

-- The names right of a default or a nested part.
abbrev pub right_of : List Item → List ℕ
right_of [] = []
right_of (Binds symbol ∷ items) = right_of items
right_of (Passes ∷ items) = symbols_in items

abbrev mutual
  -- The defaults in a binding pattern or a parameter list.
  pub defaults_in : Syntax → List Syntax
  defaults_in (Node at word.Arraypat (Then (Listed items) (Then rest End))) = defaults_among items ++ defaults_in rest
  defaults_in (Node at word.Objectpat (Then (Listed properties) (Then rest End))) = defaults_among properties ++ defaults_in rest
  defaults_in (Node at word.Params (Then (Listed params) (Then rest End))) = defaults_among params ++ defaults_in rest
  defaults_in (Node at word.Defaultpat (Then pattern (Then default End))) = defaults_in pattern ++ default ∷ []
  defaults_in (Node at word.Keyedpat (Then computed (Then key (Then pattern End)))) = defaults_in pattern
  defaults_in (Node at word.Rest (Then pattern End)) = defaults_in pattern
  defaults_in (Node at word.Param (Then pattern (Then default End))) = defaults_in pattern ++ default ∷ []
  defaults_in _ = []

  pub defaults_among : Pieces → List Syntax
  defaults_among End = []
  defaults_among (Then part parts) = defaults_in part ++ defaults_among parts

-- The variables that an expression names, outside its inner functions.
abbrev pub used_at : Names → (tags : List ℕ) → Syntax → List ℕ
used_at names tags (Node at word.Id (Then (Said name) End)) =
    if contains tags at.id.0 then [] else local_of (names.meaning at.reference.0 name)
used_at names tags _ = []

abbrev pub used_in : Names → Syntax → List ℕ
used_in names expression = flat (used_at names (flat builtin_tag_at (code expression))) (code expression)

-- (d), of one pattern or parameter list; `tried` is true of one that stands in a `try` block.
abbrev pub is_orderly_pattern : Names → (opens : ℕ → Bool) → (tried : Bool) → Syntax → Bool
is_orderly_pattern names opens tried pattern =
    list_all (λ symbol. not tried && not (opens symbol) && not (contains (flat (used_in names) (defaults_in pattern)) symbol)
    && nat_le (length (filter (nat_eq symbol) (symbols_in (items_of names pattern)))) 1)
    (right_of (items_of names pattern))

abbrev mutual
  -- The binding patterns of declarators and `catch` clauses in some code, each with whether it stands in a `try` block.
  pub patterns_in : (tried : Bool) → Syntax → List (Bool × Syntax)
  patterns_in tried (Node at word.Try (Then block parts)) = patterns_in true block ++ patterns_among tried parts
  patterns_in tried (Node at word.Declarator (Then pattern parts)) = (tried, pattern) ∷ patterns_among tried parts
  patterns_in tried (Node at word.Catch (Then pattern parts)) = (tried, pattern) ∷ patterns_among tried parts
  patterns_in tried (Node at word.Arrow parts) = []
  patterns_in tried (Node at word.Funexpr parts) = []
  patterns_in tried (Node at word.Fundecl parts) = []
  patterns_in tried (Node at word.Classdecl parts) = []
  patterns_in tried (Node at word.Classexpr parts) = []
  patterns_in tried (Node at w parts) = patterns_among tried parts
  patterns_in tried (Listed parts) = patterns_among tried parts
  patterns_in tried _ = []

  pub patterns_among : (tried : Bool) → Pieces → List (Bool × Syntax)
  patterns_among tried End = []
  patterns_among tried (Then part parts) = patterns_in tried part ++ patterns_among tried parts

-- (e), of one node: `shadowed` is true of the name of a function declaration that also names another symbol around it.
abbrev pub is_orderly_name : (shadowed : Syntax → Bool) → Syntax → Bool
is_orderly_name shadowed (Node at word.Fundecl parts) = not (shadowed (Node at word.Fundecl parts))
is_orderly_name shadowed _ = true

-- An orderly function, in a unit with the names and the marked function.
abbrev pub is_orderly_by : Names → (shadowed : Syntax → Bool) → (marked function : Syntax) → Bool
is_orderly_by names shadowed marked function =
    list_all (is_orderly_node names (flat (assigned_in names) (lowered_functions marked))) (code_of function)
    && list_all (is_orderly_name shadowed) (code_of function)
    && list_all (λ p. is_orderly_pattern names (is_open names marked function) p.0 p.1)
    ((false, params_in function) ∷ patterns_in false (body_in function))
