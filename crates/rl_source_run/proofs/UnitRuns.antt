-- The runs of a unit's functions are those in their scenes as they are written.
use Rattle.std.proofs.Common.{◌≡◌, ℕ, Bool, true, false, Option, Some, None, List, [], ◌∷◌, map, slice_get, refl, ap, sym, ◌∙◌}
use Rattle.std.specs.Prelude.{unwrap_or}
use Rattle.rl_ast.proofs.MarkedFunctions.{marked_fits}
use Rattle.rl_ast.specs.FunctionTrees.{is_function}
use Rattle.rl_ast.specs.Marked.{first, marked_functions}
use Rattle.rl_base.specs.declared.ids.SymbolId.{SymbolId}
use Rattle.rl_code.specs.Flags.{flag_at}
use Rattle.rl_grammar.specs.Grammar.{fits}
use Rattle.rl_grammar.specs.declared.kind.Field.TheVariants as field
use Rattle.rl_grammar.specs.declared.kind.Kind.TheVariants as kind
use Rattle.rl_model.specs.Code as code
use Rattle.rl_model.specs.Marked.{marked}
use Rattle.rl_names.proofs.Marks.{keeps_marked, one_marked}
use Rattle.rl_names.specs.Names.{Names, at_of}
use Rattle.rl_semantic.specs.Rules.{least_broken}
use Rattle.rl_semantic.specs.Items.{of_item}
use Rattle.rl_syntax.specs.Syntax.{Syntax, Absent}
use Rattle.rl_trace.specs.Shared.{or_false}

flag_is : (found : Option Bool) → or_false found ≡ of_item false (λ flag. flag) found
flag_is None = refl
flag_is (Some flag) = refl

-- The world of the tables of a run is that of the function: `open_now` are the open variables that the run holds, `kept_now` the kept ones.
pub world_made : (names unit_names : Names) (count unit_count : ℕ) (m function : Syntax) (opens open_now : List Bool) (keeps numbers : List ℕ)
    (kept kept_now : List SymbolId) → names ≡ unit_names → count ≡ unit_count
    → ((symbol : ℕ) → flag_at opens symbol ≡ code.is_open names m function symbol)
    → keeps ≡ (code.world_of names count names.declared m function).keeps
    → map (λ symbol. symbol.0) kept ≡ numbers → numbers ≡ keeps → open_now ≡ opens → kept_now ≡ kept
    → record { opens = λ symbol. or_false (slice_get open_now symbol); keeps = map (λ (symbol : SymbolId). symbol.0) kept_now }
    ≡ code.world_of unit_names unit_count unit_names.declared m function
world_made names unit_names count unit_count m function opens open_now keeps numbers kept kept_now names_are counts opened kept_are symbols
    numbers_are open_is kept_is =
    (λ i. record {
      opens = λ symbol. (ap (λ l. or_false (slice_get l symbol)) open_is ∙ flag_is (slice_get opens symbol) ∙ opened symbol) i;
      keeps = (ap (map (λ (symbol : SymbolId). symbol.0)) kept_is ∙ symbols ∙ numbers_are ∙ kept_are) i;
    })
    ∙ (λ i. code.world_of (names_are i) (counts i) (names_are i).declared m function)

-- A unit that keeps the rules has a marked function.
pub none_breaks : (u : Syntax) → least_broken u ≡ None → marked_functions u ≡ [] → ⊥
none_breaks u rules none =
    let one = one_marked u (keeps_marked u rules) in
    let never : [] ≡ one.0 ∷ [] = sym none ∙ one.1 in cc

-- The function that was found is the marked one.
pub marked_at : (u f : Syntax) → first (marked_functions u) ≡ Some f → at_of f ≡ at_of (marked u)
marked_at u f found = ap (λ (o : Option Syntax). at_of (unwrap_or o Absent)) (sym found)

pub ruleset marking = (none_breaks, marked_at)

-- The marked function of a unit fits the grammar.
pub marked_function : (u : Syntax) → least_broken u ≡ None → fits (field.One kind.Unit) u ≡ true → is_function (marked u) ≡ true
marked_function u rules h =
    let one = one_marked u (keeps_marked u rules) in
    let found : first (marked_functions u) ≡ Some one.0 = ap first one.1 in
    ap (λ (o : Option Syntax). is_function (unwrap_or o Absent)) found ∙ marked_fits u one.0 found h
