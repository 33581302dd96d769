-- A covered function has no inner function, so no variable of it is a context identifier by what inner functions name.
use Rattle.std.proofs.Common.{◌≡◌, ℕ, ◌+◌, Bool, true, false, true≢false, ◌&&◌, ◌||◌, if◌then◌else◌, Option, Some, None, List, [], ◌∷◌}
use Rattle.std.proofs.Common.{◌++◌, refl, sym, ap, ◌∙◌}
use Rattle.std.specs.List.{AllByRecursion, list_any}
use Rattle.rl_base.specs.declared.ids.SymbolId.{SymbolId}
use Rattle.rl_base.specs.declared.span.Span.{Span}
use Rattle.rl_bindings.specs.declared.bindings.Bindings.{Bindings}
use Rattle.rl_context.specs.Context.{assigns, captures, is_context, is_outside, is_symbol, symbol_if, symbol_of}
use Rattle.rl_context.specs.Roles.{below, makes_function, role_of, top}
use Rattle.rl_context.specs.Sites.{is_class, reference_of, site_of, sites, sites_among, sites_from, sites_in, wrapped_site}
use Rattle.rl_context.specs.declared.role.Above.{Above}
use Rattle.rl_context.specs.declared.role.Role.{Role}
use Rattle.rl_context.specs.declared.role.Role.TheVariants as role
use Rattle.rl_context.specs.declared.role.Target.{Target}
use Rattle.rl_context.specs.declared.role.Target.TheVariants as target
use Rattle.rl_context.specs.declared.site.NodeRange.{NodeRange}
use Rattle.rl_context.specs.declared.site.Site.{Site}
use Rattle.rl_context.specs.declared.site.Wrapper.{Wrapper}
use Rattle.rl_model.specs.Hoisting.{Use, is_inner_use_of, is_use_of, uses_among, uses_in}
use Rattle.rl_names.proofs.Items.{each-append, each_weaker}
use Rattle.rl_promises.specs.Covered.{AreCovered, IsCovered, IsCoveredFunction, covers}
use Rattle.rl_syntax.specs.Syntax.{Syntax, Node, Listed, Said, Count, Flag, Absent, Pieces, End, Then}
use Rattle.rl_syntax.specs.declared.numbered.At.{At}
use Rattle.rl_syntax.specs.declared.word.Word.{Word}
use Rattle.rl_syntax.specs.declared.word.Word.TheVariants as word

pub none_passes : {X : Type 0} (test : X → Bool) (xs : List X) → AllByRecursion (λ x. test x ≡ false) xs → list_any test xs ≡ false
none_passes test [] all = refl
none_passes test (x ∷ xs) all = ap (λ (b : Bool). b || list_any test xs) all.0 ∙ none_passes test xs all.1

-- A covered node makes no function.
plain_node : (w : Word) (parts : Pieces) → covers w parts ≡ true → makes_function w ≡ false
plain_node word.Arrow parts covered = absurd (true≢false (sym covered))
plain_node word.Fundecl parts covered = absurd (true≢false (sym covered))
plain_node word.Funexpr parts covered = absurd (true≢false (sym covered))
plain_node word.Method parts covered = absurd (true≢false (sym covered))
plain_node word.Get parts covered = absurd (true≢false (sym covered))
plain_node word.Set parts covered = absurd (true≢false (sym covered))
plain_node _ parts covered = refl

-- The sites of covered trees name no variable from an inner function.
module _ (b : Bindings) (symbol : ℕ) where
  abbrev AreFree : List Site → Type 0
  AreFree ss = AllByRecursion (λ s. captures b symbol s ≡ false) ss

  never_outside : (o : Option SymbolId) → is_symbol symbol (symbol_if (is_outside b None) o) ≡ false
  never_outside None = refl
  never_outside (Some found) = refl

  wrapper_free : (t : Target) (span : Span) (wrapper : Wrapper) → AreFree (wrapped_site t span wrapper)
  wrapper_free (target.Assignment assignment) span wrapper = (refl, tt)
  wrapper_free target.Nothing span wrapper = tt
  wrapper_free target.Update span wrapper = tt

  site_free : (r : Role) (a : Above) (at : At) → a.function ≡ None → AreFree (site_of r a at)
  site_free role.Reference a at none = (
    ap (λ (f : Option NodeRange). is_symbol symbol (symbol_if (is_outside b f) (symbol_of b (reference_of a at)))) none
        ∙ never_outside (symbol_of b (reference_of a at)),
    tt,
  )
  site_free role.Declaration a at none = (refl, tt)
  site_free (role.Wrapper wrapper) a at none = wrapper_free a.target at.span wrapper
  site_free role.Class a at none = tt
  site_free role.Plain a at none = tt

  free_if : (class : Bool) (ss : List Site) → AreFree ss → AreFree (if class then [] else ss)
  free_if true ss all = tt
  free_if false ss all = all

  -- Below a node that makes no function stands none.
  none_below : (a : Above) (at : At) (w : Word) (index : ℕ) → makes_function w ≡ false → a.function ≡ None
      → (below a at w index).function ≡ None
  none_below a at w index plain none =
      ap (λ (makes : Bool). if makes then Some (record { start = at.id; end = at.end }) else a.function) plain ∙ none

  mutual
    sites_free : (a : Above) (e : Syntax) → a.function ≡ None → IsCovered e → AreFree (sites a e)
    sites_free a (Node at w parts) none covered =
        free_if (is_class (role_of w)) (site_of (role_of w) a at ++ sites_from a at w 0 parts)
        (each-append (λ s. captures b symbol s ≡ false) (site_of (role_of w) a at) (sites_from a at w 0 parts)
        (site_free (role_of w) a at none) (from_free a at w 0 parts (plain_node w parts covered.0) none covered.1))
    sites_free a (Listed items) none covered = among_free a items none covered
    sites_free a (Said text) none covered = tt
    sites_free a (Count number) none covered = tt
    sites_free a (Flag flag) none covered = tt
    sites_free a Absent none covered = tt

    from_free : (a : Above) (at : At) (w : Word) (index : ℕ) (parts : Pieces) → makes_function w ≡ false → a.function ≡ None
        → AreCovered parts → AreFree (sites_from a at w index parts)
    from_free a at w index End plain none covered = tt
    from_free a at w index (Then part parts) plain none covered =
        each-append (λ s. captures b symbol s ≡ false) (sites (below a at w index) part) (sites_from a at w (index + 1) parts)
        (sites_free (below a at w index) part (none_below a at w index plain none) covered.0)
        (from_free a at w (index + 1) parts plain none covered.1)

    among_free : (a : Above) (parts : Pieces) → a.function ≡ None → AreCovered parts → AreFree (sites_among a parts)
    among_free a End none covered = tt
    among_free a (Then part parts) none covered =
        each-append (λ s. captures b symbol s ≡ false) (sites a part) (sites_among a parts)
        (sites_free a part none covered.0) (among_free a parts none covered.1)

  function_free : (f : Syntax) → IsCoveredFunction f → AreFree (sites_in f)
  function_free (Node at word.Arrow parts) covered = among_free top parts refl covered
  function_free (Node at word.Fundecl parts) covered = among_free top parts refl covered
  function_free (Node at word.Funexpr parts) covered = among_free top parts refl covered
  function_free _ covered = absurd covered

  neither_both : (ss : List Site) → AreFree ss → AllByRecursion (λ s. (assigns b symbol s && captures b symbol s) ≡ false) ss
  neither_both [] all = tt
  neither_both (s ∷ ss) all =
      (ap (λ (x : Bool). assigns b symbol s && x) all.0 ∙ never_and (assigns b symbol s), neither_both ss all.1)
    where
      never_and : (x : Bool) → x && false ≡ false
      never_and true = refl
      never_and false = refl

  -- No inner function names the variable.
  pub no_context : (f : Syntax) → IsCoveredFunction f → is_context b (sites_in f) symbol ≡ false
  no_context f covered =
      let free = function_free f covered in
      ap (λ (x : Bool). x || (list_any (assigns b symbol) (sites_in f) && list_any (captures b symbol) (sites_in f)))
      (none_passes (λ s. assigns b symbol s && captures b symbol s) (sites_in f) (neither_both (sites_in f) free))
      ∙ ap (λ (x : Bool). list_any (assigns b symbol) (sites_in f) && x) (none_passes (captures b symbol) (sites_in f) free)
      ∙ by_test (list_any (assigns b symbol) (sites_in f))
    where
      by_test : (x : Bool) → x && false ≡ false
      by_test true = refl
      by_test false = refl

-- The names that covered trees use stand in no inner function.

abbrev AreOuter : List Use → Type 0
AreOuter uses = AllByRecursion (λ (used : Use). used.inner ≡ false) uses

mutual
  uses_outer : (e : Syntax) → IsCovered e → AreOuter (uses_in false e)
  uses_outer (Node at word.Id parts) covered = (refl, tt)
  uses_outer (Node at word.Opening parts) covered = absurd (true≢false (sym covered.0))
  uses_outer (Node at word.Classdecl parts) covered = absurd (true≢false (sym covered.0))
  uses_outer (Node at word.Classexpr parts) covered = absurd (true≢false (sym covered.0))
  uses_outer (Node at word.Arrow parts) covered = absurd (true≢false (sym covered.0))
  uses_outer (Node at word.Fundecl parts) covered = absurd (true≢false (sym covered.0))
  uses_outer (Node at word.Funexpr parts) covered = absurd (true≢false (sym covered.0))
  uses_outer (Node at word.Method parts) covered = absurd (true≢false (sym covered.0))
  uses_outer (Node at word.Get parts) covered = absurd (true≢false (sym covered.0))
  uses_outer (Node at word.Set parts) covered = absurd (true≢false (sym covered.0))
  uses_outer (Node at w parts) covered = all_outer parts covered.1
  uses_outer (Listed parts) covered = all_outer parts covered
  uses_outer (Said text) covered = tt
  uses_outer (Count number) covered = tt
  uses_outer (Flag flag) covered = tt
  uses_outer Absent covered = tt

  all_outer : (parts : Pieces) → AreCovered parts → AreOuter (uses_among false parts)
  all_outer End covered = tt
  all_outer (Then part parts) covered =
      each-append (λ (used : Use). used.inner ≡ false) (uses_in false part) (uses_among false parts) (uses_outer part covered.0)
      (all_outer parts covered.1)

-- A covered tree holds no use of a variable in an inner function.
pub no_inner_use : (b : Bindings) (symbol : ℕ) (e : Syntax) → IsCovered e → list_any (is_inner_use_of b symbol) (uses_in false e) ≡ false
no_inner_use b symbol e covered =
    none_passes (is_inner_use_of b symbol) (uses_in false e)
    (each_weaker (λ (used : Use). used.inner ≡ false) (λ used. is_inner_use_of b symbol used ≡ false) (uses_in false e)
    (λ used outer. ap (λ (inner : Bool). inner && is_use_of b symbol used) outer) (uses_outer e covered))
