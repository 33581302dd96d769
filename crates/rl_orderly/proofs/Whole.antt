-- Orderly functions, from their nodes and patterns, and by the tables of a unit.
use Rattle.std.proofs.Common.{◌≡◌, ℕ, Bool, false, ◌&&◌, List, [], ◌∷◌, ◌++◌, Option, Some, None, option_map}
use Rattle.std.proofs.Common.{ap, sym, refl, ◌∙◌}
use Rattle.rl_code.proofs.FunctionParts.{parts_are, no_parts}
use Rattle.rl_code.specs.Parts.{parts_of_function}
use Rattle.rl_model.specs.Code.{assigned_in, lowered_functions, others}
use Rattle.rl_model.specs.Facts.{is_shadowed}
use Rattle.rl_model.specs.Marked.{marked}
use Rattle.rl_model.specs.Orderly.{is_orderly_by, patterns_in}
use Rattle.rl_model.specs.Source.{function_at, functions_of, is_orderly}
use Rattle.rl_model.specs.Tables.{tables_of}
use Rattle.rl_model.specs.Units.{names_of}
use Rattle.rl_names.specs.Functions.{body_in, params_in}
use Rattle.rl_names.specs.Names.{Names, at_of}
use Rattle.rl_names.specs.Seen.{shown}
use Rattle.rl_orderly.specs.Patterns.{are_orderly}
use Rattle.rl_shadowed.specs.Shadowed.{is_shadowed_by}
use Rattle.rl_orderly.specs.Whole.{has_orderly_nodes, has_orderly_patterns, orderly_at}
use Rattle.rl_shadowed.proofs.Shadowing.{shadowed_same}
use Rattle.rl_semantic.specs.Items.{of_item}
use Rattle.rl_semantic.specs.declared.semantic.Semantic.{Semantic}
use Rattle.rl_syntax.specs.Syntax.{Syntax, Absent}
use Rattle.rl_syntax.specs.declared.numbered.At.{At}
use Rattle.rl_worlds.proofs.Shared.{contains_flat}
use Rattle.rl_worlds.proofs.UnitTables.{names_are}
use Rattle.rl_worlds.specs.Units.{IsSemanticOf}

absent_orderly : (n : Names) (opens : ℕ → Bool) → are_orderly n opens [] ≡ are_orderly n opens ((false, Absent) ∷ [])
absent_orderly n opens = refl

pub patterns_some : (n : Names) (opens : ℕ → Bool) (f params body : Syntax) (out o1 o2 : List (Bool × Syntax))
    → Some (params, body) ≡ parts_of_function f → out ≡ []
    → o1 ≡ out ++ (false, params) ∷ [] → o2 ≡ o1 ++ patterns_in false body
    → are_orderly n opens o2 ≡ are_orderly n opens ((false, params_in f) ∷ patterns_in false (body_in f))
patterns_some n opens f params body out o1 o2 is empty e1 e2 =
    let both = parts_are f params body is in
    ap (are_orderly n opens) (e2 ∙ ap (λ l. l ++ patterns_in false body) (e1 ∙ ap (λ l. l ++ (false, params) ∷ []) empty))
    ∙ ap (λ s. are_orderly n opens ((false, s) ∷ patterns_in false body)) (sym both.0)
    ∙ ap (λ s. are_orderly n opens ((false, params_in f) ∷ patterns_in false s)) (sym both.1)

pub patterns_none : (n : Names) (opens : ℕ → Bool) (f : Syntax) (out : List (Bool × Syntax)) → None ≡ parts_of_function f → out ≡ []
    → are_orderly n opens out ≡ are_orderly n opens ((false, params_in f) ∷ patterns_in false (body_in f))
patterns_none n opens f out none empty =
    let both = no_parts f none in
    ap (are_orderly n opens) empty
    ∙ absent_orderly n opens
    ∙ ap (λ s. are_orderly n opens ((false, s) ∷ [])) (sym both.0)
    ∙ ap (λ s. are_orderly n opens ((false, params_in f) ∷ patterns_in false s)) (sym both.1)

pub ruleset patterns = (patterns_some, patterns_none)

by_patterns : (n : Names) (shadowed : Syntax → Bool) (m f : Syntax)
    → has_orderly_nodes n shadowed (lowered_functions m) f && has_orderly_patterns n (lowered_functions m) f ≡ is_orderly_by n shadowed m f
by_patterns n shadowed m f =
    λ i. has_orderly_nodes n shadowed (lowered_functions m) f
    && are_orderly n (λ s. contains_flat (assigned_in n) (others m f) s i) ((false, params_in f) ∷ patterns_in false (body_in f))

-- A function is orderly whose nodes and patterns are.
pub by_parts : (n : Names) (shadowed : Syntax → Bool) (fs : List Syntax) (m f : Syntax) (nodes patterns : Bool) → fs ≡ lowered_functions m
    → nodes ≡ has_orderly_nodes n shadowed fs f → patterns ≡ has_orderly_patterns n fs f
    → nodes && patterns ≡ is_orderly_by n shadowed m f
by_parts n shadowed fs m f nodes patterns are e1 e2 =
    (λ i. e1 i && e2 i) ∙ ap (λ l. has_orderly_nodes n shadowed l f && has_orderly_patterns n l f) are ∙ by_patterns n shadowed m f

-- The ids of the first function, or others where there is none.
abbrev first_at : (other : At) → List Syntax → At
first_at other [] = other
first_at other (f ∷ fs) = at_of f

pub ids_none : (u : Syntax) (fs : List Syntax) (other : At) → fs ≡ [] → fs ≡ functions_of u → other ≡ at_of (marked u)
ids_none u fs other empty are = ap (first_at other) (sym empty ∙ are)

pub ids_first : (u t : Syntax) (fs rest : List Syntax) → fs ≡ t ∷ rest → fs ≡ functions_of u → at_of t ≡ at_of (marked u)
ids_first u t fs rest split are = ap (first_at (at_of t)) (sym split ∙ are)

pub ruleset marked_ids = (ids_none, ids_first)

-- Function declarations whose name another symbol has too, by the tables of a unit.
tables_shadowed : (s : Semantic) (u : Syntax) (n : Names) → IsSemanticOf s u → (t : Syntax)
    → is_shadowed_by s.bindings.names s.bindings.scopes s.bindings.symbols n t ≡ is_shadowed (tables_of u) n t
tables_shadowed s u n is t =
    (λ i. is_shadowed_by (is.names i) (is.scopes i) (is.symbols i) n t) ∙ shadowed_same (tables_of u) n t

abbrev orderly_by : Semantic → Names → (m f : Syntax) → Bool
orderly_by s n m f = is_orderly_by n (is_shadowed_by s.bindings.names s.bindings.scopes s.bindings.symbols n) m f

-- By the semantic tables of a unit, a function is orderly that is so in the unit.
pub unit_orderly : (s again : Semantic) (u f : Syntax) (at : At) (b : Bool) → IsSemanticOf s u → again ≡ s → at ≡ at_of (marked u)
    → b ≡ orderly_by again (shown again at) (marked u) f
    → b ≡ is_orderly_by (names_of u) (is_shadowed (tables_of u) (names_of u)) (marked u) f
unit_orderly s again u f at b is same at_is e =
    e ∙ (λ i. orderly_by (same i) (shown (same i) (at_is i)) (marked u) f)
    ∙ ap (λ n. orderly_by s n (marked u) f) (names_are s u is)
    ∙ (λ i. is_orderly_by (names_of u) (λ t. tables_shadowed s u (names_of u) is t i) (marked u) f)

-- The value of a test at an item that may be absent.
mapped_value : (test : Syntax → Bool) (o : Option Syntax) (b : Bool) → Some b ≡ option_map test o → b ≡ of_item false test o
mapped_value test None b is = absurd (cc)
mapped_value test (Some x) b is = ap (of_item false (λ b. b)) is

mapped_none : (test : Syntax → Bool) (o : Option Syntax) → None ≡ option_map test o → false ≡ of_item false test o
mapped_none test None is = refl
mapped_none test (Some x) is = absurd (cc)

pub orderly_value : (u : Syntax) (function : Option ℕ) (b : Bool) → Some b ≡ orderly_at u function → b ≡ is_orderly u function
orderly_value u function b is = mapped_value _ (function_at u function) b is

pub orderly_none : (u : Syntax) (function : Option ℕ) → None ≡ orderly_at u function → false ≡ is_orderly u function
orderly_none u function is = mapped_none _ (function_at u function) is
