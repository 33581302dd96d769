-- The code of a function, the functions that are lowered, and the variables that they name, assign and share.
use Rattle.std.specs.Prelude.{ℕ, zero, suc, nat_eq, Bool, true, false, ◌&&◌, ◌||◌, not, if◌then◌else◌, Option, Some, None, List, [], ◌∷◌}
use Rattle.std.specs.Prelude.{◌++◌, filter}
use Rattle.std.specs.List.{list_any}
use Rattle.rl_base.specs.declared.ids.SymbolId.{SymbolId}
use Rattle.rl_machine.specs.Traces.{World}
use Rattle.rl_names.specs.Functions.{body_in, params_in}
use Rattle.rl_names.specs.Names.{Names, at_of}
use Rattle.rl_names.specs.declared.names.Meaning.{Meaning}
use Rattle.rl_names.specs.declared.names.Meaning.TheVariants.{Local, Outer}
use Rattle.rl_model.specs.Shapes.{is_capital}
use Rattle.rl_syntax.specs.Syntax.{Syntax, Node, Listed, Said, Absent, Pieces, End, Then}
use Rattle.rl_syntax.specs.declared.word.Word.{Word}
use Rattle.rl_syntax.specs.declared.word.Word.TheVariants as word

-- Nodes that are no code: types, classes, and function declarations without a body.
abbrev pub is_no_code : Word → Pieces → Bool
is_no_code word.Type parts = true
is_no_code word.Classdecl parts = true
is_no_code word.Classexpr parts = true
is_no_code word.Fundecl (Then marked (Then is_async (Then generator (Then name (Then params (Then Absent End)))))) = true
is_no_code _ parts = false

-- Functions, apart from those that are no code.
abbrev pub is_function : Word → Bool
is_function word.Arrow = true
is_function word.Funexpr = true
is_function word.Fundecl = true
is_function _ = false

abbrev pub is_instantiate : Word → Bool
is_instantiate word.Instantiate = true
is_instantiate _ = false

abbrev mutual
  -- The nodes of a part of a function that are its code, in order.
  pub code : Syntax → List Syntax
  code (Node at w parts) =
      if is_no_code w parts then []
      else Node at w parts ∷ (if is_function w then name_code w parts else if is_instantiate w then first_code parts else code_among parts)
  code (Listed parts) = code_among parts
  code _ = []

  pub code_among : Pieces → List Syntax
  code_among End = []
  code_among (Then part parts) = code part ++ code_among parts

  pub first_code : Pieces → List Syntax
  first_code End = []
  first_code (Then part parts) = code part

  -- The name of a function declaration is of the function around it.
  pub name_code : Word → Pieces → List Syntax
  name_code word.Fundecl (Then marked (Then is_async (Then generator (Then name parts)))) = code name
  name_code w parts = []

-- The code of a function: its parameters and its body.
abbrev pub code_of : (function : Syntax) → List Syntax
code_of function = code (params_in function) ++ code (body_in function)

abbrev mutual
  -- The functions in a part that are lowered, in the order of their nodes.
  pub lowered_in : Syntax → List Syntax
  lowered_in (Node at w parts) =
      if is_no_code w parts then []
      else (if is_function w then Node at w parts ∷ [] else []) ++ (if is_instantiate w then first_lowered parts else lowered_among parts)
  lowered_in (Listed parts) = lowered_among parts
  lowered_in _ = []

  pub lowered_among : Pieces → List Syntax
  lowered_among End = []
  lowered_among (Then part parts) = lowered_in part ++ lowered_among parts

  pub first_lowered : Pieces → List Syntax
  first_lowered End = []
  first_lowered (Then part parts) = lowered_in part

-- The inner functions of a function.
abbrev pub inner_functions : (function : Syntax) → List Syntax
inner_functions function = lowered_in (params_in function) ++ lowered_in (body_in function)

-- The marked function and its inner functions.
abbrev pub lowered_functions : (marked : Syntax) → List Syntax
lowered_functions marked = marked ∷ inner_functions marked

-- The local variable that a name stands for.
abbrev pub local_of : Meaning → List ℕ
local_of (Local symbol) = symbol.0 ∷ []
local_of (Outer binding) = []

abbrev pub declared_by : Option SymbolId → List ℕ
declared_by None = []
declared_by (Some symbol) = symbol.0 ∷ []

abbrev mutual
  -- The local variables that a target assigns.
  pub assigned_by : Names → Syntax → List ℕ
  assigned_by names (Node at word.Id (Then (Said name) End)) = local_of (names.meaning at.reference.0 name)
  assigned_by names (Node at word.Arraytarget (Then (Listed items) (Then rest End))) = assigned_among names items ++ assigned_by names rest
  assigned_by names (Node at word.Objecttarget (Then (Listed properties) (Then rest End))) =
      assigned_among names properties ++ assigned_by names rest
  assigned_by names (Node at word.Default (Then target parts)) = assigned_by names target
  assigned_by names (Node at word.Short (Then name parts)) = assigned_by names name
  assigned_by names (Node at word.Keyed (Then computed (Then key (Then target End)))) = assigned_by names target
  assigned_by names (Node at word.Rest (Then target End)) = assigned_by names target
  assigned_by names _ = []

  pub assigned_among : Names → Pieces → List ℕ
  assigned_among names End = []
  assigned_among names (Then part parts) = assigned_by names part ++ assigned_among names parts

-- The local variables that a node assigns: an assignment, an update, or the head of a loop that is a target.
abbrev pub assigned_at : Names → Syntax → List ℕ
assigned_at names (Node at word.Assign (Then operator (Then target parts))) = assigned_by names target
assigned_at names (Node at word.Update (Then operator (Then prefix (Then target End)))) = assigned_by names target
assigned_at names (Node at word.Forin (Then head parts)) = assigned_by names head
assigned_at names (Node at word.Forof (Then is_await (Then head parts))) = assigned_by names head
assigned_at names _ = []

abbrev pub flat : {A B : Type 0} → (A → List B) → List A → List B
flat f [] = []
flat f (x ∷ xs) = f x ++ flat f xs

abbrev pub assigned_in : Names → (function : Syntax) → List ℕ
assigned_in names function = flat (assigned_at names) (code_of function)

abbrev mutual
  -- The symbols that a binding pattern declares.
  pub bound_by : Names → Syntax → List ℕ
  bound_by names (Node at word.Bind parts) = declared_by (names.declared at.id.0)
  bound_by names (Node at word.Arraypat (Then (Listed items) (Then rest End))) = bound_among names items ++ bound_by names rest
  bound_by names (Node at word.Objectpat (Then (Listed properties) (Then rest End))) = bound_among names properties ++ bound_by names rest
  bound_by names (Node at word.Defaultpat (Then pattern parts)) = bound_by names pattern
  bound_by names (Node at word.Keyedpat (Then computed (Then key (Then pattern End)))) = bound_by names pattern
  bound_by names (Node at word.Rest (Then pattern End)) = bound_by names pattern
  bound_by names _ = []

  pub bound_among : Names → Pieces → List ℕ
  bound_among names End = []
  bound_among names (Then part parts) = bound_by names part ++ bound_among names parts

-- The tag of an element that is a builtin name; its `id` names no variable.
abbrev pub is_builtin_tag : Syntax → Bool
is_builtin_tag (Node at word.Id (Then (Said name) End)) = not (is_capital name)
is_builtin_tag _ = false

-- The ids of the builtin tags in some code.
abbrev pub builtin_tag_at : Syntax → List ℕ
builtin_tag_at (Node at word.Opening (Then tag parts)) = if is_builtin_tag tag then (at_of tag).id.0 ∷ [] else []
builtin_tag_at _ = []

abbrev pub contains : List ℕ → ℕ → Bool
contains xs n = list_any (nat_eq n) xs

-- The symbols that a node names, but for the name of a function declaration: a name that is used, or what a parameter, a declarator or a
-- `catch` declares.
abbrev pub named_at : Names → (tags : List ℕ) → Syntax → List ℕ
named_at names tags (Node at word.Id (Then (Said name) End)) =
    if contains tags at.id.0 then [] else local_of (names.meaning at.reference.0 name)
named_at names tags (Node at word.Param (Then pattern parts)) = bound_by names pattern
named_at names tags (Node at word.Params (Then params (Then rest End))) = bound_by names rest
named_at names tags (Node at word.Declarator (Then pattern parts)) = bound_by names pattern
named_at names tags (Node at word.Catch (Then pattern parts)) = bound_by names pattern
named_at names tags _ = []

abbrev pub named_in : Names → (function : Syntax) → List ℕ
named_in names function = flat (named_at names (flat builtin_tag_at (code_of function))) (code_of function)

-- The symbols of the function declarations of a function, by the symbols that they store to.
abbrev pub function_names_at : (stored : ℕ → Option SymbolId) → Syntax → List ℕ
function_names_at stored (Node at word.Fundecl (Then marked (Then is_async (Then generator (Then name parts))))) =
    declared_by (stored (at_of name).id.0)
function_names_at stored _ = []

-- The other lowered functions.
abbrev pub others : (marked function : Syntax) → List Syntax
others marked function = filter (λ other. not (nat_eq (at_of other).id.0 (at_of function).id.0)) (lowered_functions marked)

-- The variables that another function assigns.
abbrev pub is_open : Names → (marked function : Syntax) → (symbol : ℕ) → Bool
is_open names marked function symbol = list_any (λ other. contains (assigned_in names other) symbol) (others marked function)

abbrev pub names_symbol : Names → (stored : ℕ → Option SymbolId) → (function : Syntax) → (symbol : ℕ) → Bool
names_symbol names stored function symbol =
    contains (named_in names function) symbol || contains (flat (function_names_at stored) (code_of function)) symbol

-- The variables that the function names, and that another one names otherwise than as its function declaration.
abbrev pub is_kept : Names → (stored : ℕ → Option SymbolId) → (marked function : Syntax) → (symbol : ℕ) → Bool
is_kept names stored marked function symbol =
    names_symbol names stored function symbol && list_any (λ other. contains (named_in names other) symbol) (others marked function)

-- The numbers below `count`, in order.
abbrev pub below : (count : ℕ) → List ℕ
below zero = []
below (suc n) = below n ++ n ∷ []

-- The world of a function in a unit of so many symbols.
abbrev pub world_of : Names → (count : ℕ) → (stored : ℕ → Option SymbolId) → (marked function : Syntax) → World
world_of names count stored marked function = record {
  opens = is_open names marked function;
  keeps = filter (is_kept names stored marked function) (below count);
}
