-- Supported units, by their facts and by their tables.
use Rattle.std.proofs.Common.{◌≡◌, Bool, true, false, ◌&&◌, not, None, Some, unwrap_or, List, [], ap, sym, refl, ◌∙◌}
use Rattle.rl_ast.specs.Marked.{first, marked_functions}
use Rattle.rl_code.proofs.Smaller.{unpacked}
use Rattle.rl_facts.specs.Facts.{facts_by}
use Rattle.rl_markers.specs.Named.{bare}
use Rattle.rl_model.specs.Applied.{Facts}
use Rattle.rl_model.specs.Code.{lowered_functions}
use Rattle.rl_model.specs.Facts.{facts_of}
use Rattle.rl_model.specs.Marked.{marked}
use Rattle.rl_model.specs.Source.{is_supported}
use Rattle.rl_model.specs.Supported.{has_wrapped_target, is_supported_by}
use Rattle.rl_model.specs.Tables.{tables_of}
use Rattle.rl_names.specs.Names.{at_of, function_names}
use Rattle.rl_names.specs.Seen.{shown}
use Rattle.rl_semantic.specs.Items.{of_item}
use Rattle.rl_semantic.specs.declared.semantic.Semantic.{Semantic}
use Rattle.rl_syntax.specs.Nodes.{entries}
use Rattle.rl_syntax.specs.Syntax.{Syntax, Absent}
use Rattle.rl_worlds.proofs.UnitTables.{names_are}
use Rattle.rl_worlds.specs.Units.{IsSemanticOf}

-- The marked function.
marked_is : (u f : Syntax) → first (marked_functions u) ≡ Some f → f ≡ marked u
marked_is u f found = ap (λ o. unwrap_or o Absent) (sym found)

-- The lowered functions are those of the marked one.
pub functions_are : (u f : Syntax) (functions : List Syntax) → first (marked_functions u) ≡ Some f
    → functions ≡ of_item [] lowered_functions (first (marked_functions u)) → functions ≡ lowered_functions f
functions_are u f functions found are = are ∙ ap (of_item [] lowered_functions) found

-- A unit that was tried by facts about its names.
pub tried : (u f : Syntax) (facts known : Facts) (b : Bool) → first (marked_functions u) ≡ Some f → known ≡ facts
    → b ≡ is_supported_by known (marked u) → b ≡ is_supported_by facts f
tried u f facts known b found same e =
    e ∙ ap (λ k. is_supported_by k (marked u)) same ∙ ap (is_supported_by facts) (sym (marked_is u f found))

refused : (clear is_wrapped rest : Bool) → is_wrapped ≡ true → false ≡ (clear && not is_wrapped && rest)
refused true is_wrapped rest is = ap (λ b. (true && not b) && rest) (sym is)
refused false is_wrapped rest is = refl

-- A unit with a wrapped target.
pub unwrapped : (facts : Facts) (f : Syntax) → has_wrapped_target f ≡ true → false ≡ is_supported_by facts f
unwrapped facts f is = refused _ (has_wrapped_target f) _ is

pub ruleset by_facts = (functions_are, tried, unwrapped)

bare_tables : (s : Semantic) (u : Syntax) → IsSemanticOf s u → bare s.bindings ≡ tables_of u
bare_tables s u is = λ i. record {
  names = is.names i;
  scopes = is.scopes i;
  symbols = is.symbols i;
  declarations = is.declarations i;
  references = is.references i;
  least_broken_name_rule = None;
  keeps_other_rules = true;
}

facts_are : (s : Semantic) (u : Syntax) → IsSemanticOf s u
    → facts_by (bare s.bindings) s.nodes.now (shown s (at_of (marked u))) (marked u) ≡ facts_of u
facts_are s u is = λ i. facts_by (bare_tables s u is i) (is.nodes i) (names_are s u is i) (marked u)

-- A unit that was tried by its tables.
pub by_semantic : (s : Semantic) (u f : Syntax) (b : Bool) → first (marked_functions u) ≡ Some f
    → b ≡ is_supported_by (facts_by (bare s.bindings) s.nodes.now (shown s (at_of f)) f) f → IsSemanticOf s u → b ≡ is_supported u
by_semantic s u f b found e is =
    e ∙ ap (λ m. is_supported_by (facts_by (bare s.bindings) s.nodes.now (shown s (at_of m)) m) m) (marked_is u f found)
    ∙ ap (λ facts. is_supported_by facts (marked u)) (facts_are s u is)

-- The two ways to find the marked function give one.
pub found_same : (u f m : Syntax) → first (marked_functions u) ≡ Some f → Some m ≡ first (marked_functions u) → f ≡ m
found_same u f m found again = sym (unpacked m f (again ∙ found))

-- A unit without a marked function.
pub none_marked : (u : Syntax) → first (marked_functions u) ≡ None → true ≡ is_supported u
none_marked u none =
    ap (λ o. is_supported_by (facts_by (tables_of u) (entries u) (function_names u (unwrap_or o Absent)) (unwrap_or o Absent))
    (unwrap_or o Absent)) (sym none)

pub none_listed : (u : Syntax) → marked_functions u ≡ [] → true ≡ is_supported u
none_listed u none = none_marked u (ap first none)

pub ruleset by_tables = (found_same, none_marked, none_listed)
