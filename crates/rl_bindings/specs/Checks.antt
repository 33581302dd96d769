-- The loop that makes symbols and tries the rules on names, step by step.
use Rattle.std.specs.Prelude.{ℕ, Bool, true, false, not, ◌&&◌, ◌||◌, if◌then◌else◌, Option, Some, None, is_some, slice_get, slice_set, List, [], ◌∷◌, ◌++◌, length}
use Rattle.std.specs.Option.{unwrap_or}
use Rattle.rl_bindings.specs.NameRules.{is_lexical, is_param, is_type, is_misplaced}
use Rattle.rl_bindings.specs.Symbols.{is_own, number_at, add}
use Rattle.rl_bindings.specs.declared.event.Bound.{Bound}
use Rattle.rl_bindings.specs.declared.event.Event.{Event}
use Rattle.rl_bindings.specs.declared.event.Event.TheVariants as event
use Rattle.rl_bindings.specs.declared.rules.Found.{Found}
use Rattle.rl_bindings.specs.declared.rules.Marks.{Marks}

abbrev pub marks_of : Bound → Marks
marks_of b = record { lexical = is_lexical b; param = is_param b.kind; type_name = is_type b.kind }

abbrev pub no_marks : Marks
no_marks = record { lexical = false; param = false; type_name = false }

abbrev pub both_marks : Marks → Marks → Marks
both_marks x y = record { lexical = x.lexical || y.lexical; param = x.param || y.param; type_name = x.type_name || y.type_name }

abbrev pub marks_or_none : Option Marks → Marks
marks_or_none None = no_marks
marks_or_none (Some m) = m

-- The marks of a symbol, by those of all symbols.
abbrev pub marks_at : List Marks → (symbol : Option ℕ) → Marks
marks_at marks None = no_marks
marks_at marks (Some k) = marks_or_none (slice_get marks k)

-- A declaration adds its marks to those of its symbol. Those of a new symbol are appended.
abbrev pub add_marks : List Marks → (symbol : Option ℕ) → Marks → List Marks
add_marks marks None m = marks ++ m ∷ []
add_marks marks (Some k) m = slice_set marks k (both_marks (marks_at marks (Some k)) m)

-- The symbol that a declaration declares, if it has declarations already.
abbrev pub known_symbol : (symbols : List Bound) → Bound → Option ℕ
known_symbol symbols b = number_at (is_own b.kind) b.scope.0 b.name symbols

-- The symbol of a declaration's name and scope that is an own name if the declaration is none, and the other way round. Only own
-- names and types ask for it.
abbrev pub other_symbol : (symbols : List Bound) → Bound → Option ℕ
other_symbol symbols b = if is_own b.kind || is_type b.kind then number_at (not (is_own b.kind)) b.scope.0 b.name symbols else None

-- B2 is broken by a declaration of a symbol that is known or not, with the marks `earlier`.
abbrev pub is_clash : Bound → (known : Bool) → (earlier : Marks) → Bool
is_clash b known earlier = if is_own b.kind then false else (if is_lexical b then known else earlier.lexical)

-- B5 is broken by a declaration, if its name is known in its scope or not, as that of a type or not.
abbrev pub is_share : Bound → (known typed : Bool) → Bool
is_share b known typed = if is_misplaced b then true else (if is_type b.kind then known else typed)

-- Result of the declarations so far, with one more, if `known` and `other` are its symbols.
abbrev pub step_by : (known other : Option ℕ) → Found → Bound → Found
step_by known other f b = record {
  symbols = add f.symbols b;
  marks = add_marks f.marks known (marks_of b);
  declarations = f.declarations ++ record { node = b.node; symbol = Some (unwrap_or known (length f.symbols)) } ∷ [];
  clashed = f.clashed || is_clash b (is_some known) (marks_at f.marks known);
  repeated = f.repeated || (is_param b.kind && (marks_at f.marks known).param);
  shared = f.shared || is_share b (is_some known || is_some other) ((marks_at f.marks known).type_name || (marks_at f.marks other).type_name);
}

abbrev pub step : Found → Bound → Found
step f b = step_by (known_symbol f.symbols b) (other_symbol f.symbols b) f b

abbrev pub steps : Found → List Event → Found
steps f [] = f
steps f (event.Bind b ∷ es) = steps (step f b) es
steps f (_ ∷ es) = steps f es

-- Before all declarations.
abbrev pub start : Found
start = record { symbols = []; marks = []; declarations = []; clashed = false; repeated = false; shared = false }

-- The symbols that the lexical declarations among events add.
abbrev pub lexical_steps : (symbols : List Bound) → List Event → List Bound
lexical_steps symbols [] = symbols
lexical_steps symbols (event.Bind b ∷ es) = lexical_steps (if is_lexical b then add symbols b else symbols) es
lexical_steps symbols (_ ∷ es) = lexical_steps symbols es
