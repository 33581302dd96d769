-- The rule on optional chains (B6), as it holds of the trees of a function whose unit keeps it.
use Rattle.std.proofs.Common.{◌≡◌, ℕ, ◌+◌, ◌≤◌, nat_eq, eqb-true, Bool, true, false, not, ◌&&◌, if◌then◌else◌, Option, Some, None}
use Rattle.std.proofs.Common.{List, [], ◌∷◌, refl, ap, sym, subst, ◌∙◌, arith}
use Rattle.std.proofs.lemmas.Bool.{and_parts, not-true}
use Rattle.std.specs.List.{AllByRecursion}
use Rattle.rl_ast.specs.Marked.{first, is_marked, marked_among, marked_functions}
use Rattle.rl_bindings.specs.Tables as names
use Rattle.rl_names.proofs.Items.{each-append}
use Rattle.rl_promises.specs.Chains.{AreChained, Below, HasChains, IsChainedAt, Off, Spine, Top}
use Rattle.rl_rules.specs.Chains.{has_optional, keeps_chains, link_fits, spine_below}
use Rattle.rl_rules.specs.Declarations.{keeps_declarations}
use Rattle.rl_rules.specs.Forms.{keeps_forms}
use Rattle.rl_rules.specs.Marks.{keeps_mark}
use Rattle.rl_rules.specs.Pieces.{first_is, is_yes}
use Rattle.rl_rules.specs.Variables.{keeps_variables}
use Rattle.rl_rules.specs.Walks.{items_pass, parts_pass, passes}
use Rattle.rl_semantic.specs.Rules.{least, least_broken, least_broken_form, least_form}
use Rattle.rl_syntax.specs.Syntax.{Syntax, Node, Listed, Said, Count, Flag, Absent, Pieces, End, Then}
use Rattle.rl_syntax.specs.declared.word.Word.{Word}
use Rattle.rl_syntax.specs.declared.word.Word.TheVariants as word

-- Rule B6 of a tree, on a spine or off it, and of parts in a row.

abbrev passing : (spine : Bool) → Syntax → Bool
passing spine t = passes link_fits spine_below spine t

abbrev passing_parts : (spine : Bool) → Word → (index : ℕ) → Pieces → Bool
passing_parts spine w index parts = parts_pass link_fits spine_below spine w index parts

abbrev on_spine : Spine → Bool
on_spine Off = false
on_spine Top = true
on_spine Below = true

three_true : (a b c : Bool) → a && (b && c) ≡ true → (a ≡ true) × (b ≡ true) × (c ≡ true)
three_true a b c h = let first = and_parts a (b && c) h in let others = and_parts b c first.1 in (first.0, others.0, others.1)

-- The parts behind the object or callee of a link are off the spine.
later_index : (i : ℕ) → 2 ≤ i → nat_eq i 1 ≡ false
later_index i le = by_test (nat_eq i 1) refl
  where
    by_test : (b : Bool) → nat_eq i 1 ≡ b → b ≡ false
    by_test false is = refl
    by_test true is = let one : i ≡ 1 = eqb-true i 1 is in absurd (omega (arith, le, one))

-- A link on the spine of a chain: the spine goes on in its object or callee alone.
linked : (w : Word) (optional object : Syntax) (rest : Pieces) → (passing false optional ≡ true → IsChainedAt Off optional)
    → (passing true object ≡ true → IsChainedAt Below object) → (passing_parts true w 2 rest ≡ true → AreChained rest)
    → passing false optional && (passing true object && passing_parts true w 2 rest) ≡ true
    → IsChainedAt Off optional × IsChainedAt Below object × AreChained rest
linked w optional object rest flag spine later kept =
    let three = three_true (passing false optional) (passing true object) (passing_parts true w 2 rest) kept in
    (flag three.0, spine three.1, later three.2)

mutual
  -- A tree that keeps the rule has its links where they may be.
  pub chained_at : (place : Spine) (t : Syntax) → passing (on_spine place) t ≡ true → IsChainedAt place t
  chained_at Off (Node at word.Chain (Then expression rest)) kept =
      let three = three_true (has_optional expression) (passing true expression)
      (passing_parts (on_spine Off) word.Chain 1 rest) kept in (three.0, chained_at Top expression three.1)
  chained_at Off (Node at word.Chain End) kept = tt
  chained_at Top (Node at word.Chain (Then expression rest)) kept =
      let three = three_true (has_optional expression) (passing true expression)
      (passing_parts (on_spine Top) word.Chain 1 rest) kept in (three.0, chained_at Top expression three.1)
  chained_at Top (Node at word.Chain End) kept = tt
  chained_at Below (Node at word.Chain (Then expression rest)) kept =
      let three = three_true (has_optional expression) (passing true expression)
      (passing_parts (on_spine Below) word.Chain 1 rest) kept in (three.0, chained_at Top expression three.1)
  chained_at Below (Node at word.Chain End) kept = tt
  chained_at Off (Node at word.Member parts) kept =
      let both = and_parts (not (first_is is_yes parts)) (passing_parts false word.Member 0 parts) kept in
      (not-true (first_is is_yes parts) both.0, parts_chained false word.Member 0 parts (λ i le. refl) both.1)
  chained_at Off (Node at word.Index parts) kept =
      let both = and_parts (not (first_is is_yes parts)) (passing_parts false word.Index 0 parts) kept in
      (not-true (first_is is_yes parts) both.0, parts_chained false word.Index 0 parts (λ i le. refl) both.1)
  chained_at Off (Node at word.Privatemember parts) kept =
      let both = and_parts (not (first_is is_yes parts)) (passing_parts false word.Privatemember 0 parts) kept in
      (not-true (first_is is_yes parts) both.0, parts_chained false word.Privatemember 0 parts (λ i le. refl) both.1)
  chained_at Off (Node at word.Call parts) kept =
      let both = and_parts (not (first_is is_yes parts)) (passing_parts false word.Call 0 parts) kept in
      (not-true (first_is is_yes parts) both.0, parts_chained false word.Call 0 parts (λ i le. refl) both.1)
  chained_at Off (Node at w parts) kept = parts_chained false w 0 parts (λ i le. refl) kept
  chained_at place (Node at word.Member (Then optional (Then object rest))) kept =
      linked word.Member optional object rest (chained_at Off optional) (chained_at Below object)
      (parts_chained true word.Member 2 rest later_index) kept
  chained_at place (Node at word.Member (Then optional End)) kept = tt
  chained_at place (Node at word.Member End) kept = tt
  chained_at place (Node at word.Index (Then optional (Then object rest))) kept =
      linked word.Index optional object rest (chained_at Off optional) (chained_at Below object)
      (parts_chained true word.Index 2 rest later_index) kept
  chained_at place (Node at word.Index (Then optional End)) kept = tt
  chained_at place (Node at word.Index End) kept = tt
  chained_at place (Node at word.Privatemember (Then optional (Then object rest))) kept =
      linked word.Privatemember optional object rest (chained_at Off optional) (chained_at Below object)
      (parts_chained true word.Privatemember 2 rest later_index) kept
  chained_at place (Node at word.Privatemember (Then optional End)) kept = tt
  chained_at place (Node at word.Privatemember End) kept = tt
  chained_at place (Node at word.Call (Then optional (Then object rest))) kept =
      linked word.Call optional object rest (chained_at Off optional) (chained_at Below object)
      (parts_chained true word.Call 2 rest later_index) kept
  chained_at place (Node at word.Call (Then optional End)) kept = tt
  chained_at place (Node at word.Call End) kept = tt
  chained_at place (Node at word.Nonnull (Then expression rest)) kept =
      chained_at place expression (and_parts (passing true expression) (passing_parts true word.Nonnull 1 rest) kept).0
  chained_at place (Node at word.Nonnull End) kept = tt
  chained_at place (Node at w parts) kept = parts_chained true w 0 parts (λ i le. refl) kept
  chained_at Off (Listed parts) kept = items_chained parts kept
  chained_at place (Listed parts) kept = tt
  chained_at place (Said text) kept = tt
  chained_at place (Count number) kept = tt
  chained_at place (Flag flag) kept = tt
  chained_at place Absent kept = tt

  -- As `chained_at`, for parts of a node that are off the spine.
  parts_chained : (spine : Bool) (w : Word) (index : ℕ) (ps : Pieces) → ((i : ℕ) → index ≤ i → spine_below spine w i ≡ false)
      → passing_parts spine w index ps ≡ true → AreChained ps
  parts_chained spine w index End off kept = tt
  parts_chained spine w index (Then p ps) off kept =
      let both = and_parts (passing (spine_below spine w index) p) (passing_parts spine w (index + 1) ps) kept in (
        chained_at Off p (ap (λ (s : Bool). passing s p) (sym (off index (omega arith))) ∙ both.0),
        parts_chained spine w (index + 1) ps (λ i le. off i (omega (arith, le))) both.1,
      )

  -- As `chained_at`, for the items of a list.
  items_chained : (ps : Pieces) → items_pass link_fits spine_below false ps ≡ true → AreChained ps
  items_chained End kept = tt
  items_chained (Then p ps) kept =
      let both = and_parts (passing false p) (items_pass link_fits spine_below false ps) kept in
      (chained_at Off p both.0, items_chained ps both.1)

-- A tree that keeps the rule where it stands.
record IsKept (f : Syntax) : Type 0 where
  pub spine : Bool
  pub passes : passing spine f ≡ true

own_kept : (mark : Bool) (f : Syntax) → IsKept f → AllByRecursion IsKept (if mark then f ∷ [] else [])
own_kept true f kept = (kept, tt)
own_kept false f kept = tt

mutual
  -- Each marked function of a tree that keeps the rule keeps it.
  functions_kept : (spine : Bool) (t : Syntax) → passing spine t ≡ true → AllByRecursion IsKept (marked_functions t)
  functions_kept spine (Node at w parts) kept =
      each-append IsKept (if is_marked w parts then Node at w parts ∷ [] else []) (marked_among parts)
      (own_kept (is_marked w parts) (Node at w parts) (record { spine = spine; passes = kept }))
      (parts_kept spine w 0 parts (and_parts (link_fits spine w parts) (passing_parts spine w 0 parts) kept).1)
  functions_kept spine (Listed parts) kept = items_kept spine parts kept
  functions_kept spine (Said text) kept = tt
  functions_kept spine (Count number) kept = tt
  functions_kept spine (Flag flag) kept = tt
  functions_kept spine Absent kept = tt

  parts_kept : (spine : Bool) (w : Word) (index : ℕ) (ps : Pieces) → passing_parts spine w index ps ≡ true
      → AllByRecursion IsKept (marked_among ps)
  parts_kept spine w index End kept = tt
  parts_kept spine w index (Then p ps) kept =
      let both = and_parts (passing (spine_below spine w index) p) (passing_parts spine w (index + 1) ps) kept in
      each-append IsKept (marked_functions p) (marked_among ps) (functions_kept (spine_below spine w index) p both.0)
      (parts_kept spine w (index + 1) ps both.1)

  items_kept : (spine : Bool) (ps : Pieces) → items_pass link_fits spine_below spine ps ≡ true → AllByRecursion IsKept (marked_among ps)
  items_kept spine End kept = tt
  items_kept spine (Then p ps) kept =
      let both = and_parts (passing spine p) (items_pass link_fits spine_below spine ps) kept in
      each-append IsKept (marked_functions p) (marked_among ps) (functions_kept spine p both.0) (items_kept spine ps both.1)

first_kept : (fs : List Syntax) (f : Syntax) → AllByRecursion IsKept fs → first fs ≡ Some f → IsKept f
first_kept [] f kept is = absurd (cc)
first_kept (g ∷ fs) f kept is = let same : g ≡ f = cc in subst IsKept same kept.0

-- The parameters and the body of a function are off the spine.
function_chains : (f : Syntax) → IsKept f → HasChains f
function_chains (Node at word.Arrow (Then marked (Then is_async (Then params (Then body End))))) kept =
    let parts : Pieces = Then marked (Then is_async (Then params (Then body End))) in
    let are = parts_chained kept.spine word.Arrow 0 parts (λ i le. refl) kept.passes in
    record { params = are.1.1.0; body = are.1.1.1.0 }
function_chains (Node at word.Fundecl (Then marked (Then is_async (Then generator (Then name (Then params (Then body End))))))) kept =
    let parts : Pieces = Then marked (Then is_async (Then generator (Then name (Then params (Then body End))))) in
    let are = parts_chained kept.spine word.Fundecl 0 parts (λ i le. refl) kept.passes in
    record { params = are.1.1.1.1.0; body = are.1.1.1.1.1.0 }
function_chains (Node at word.Funexpr (Then marked (Then is_async (Then generator (Then name (Then params (Then body End))))))) kept =
    let parts : Pieces = Then marked (Then is_async (Then generator (Then name (Then params (Then body End))))) in
    let are = parts_chained kept.spine word.Funexpr 0 parts (λ i le. refl) kept.passes in
    record { params = are.1.1.1.1.0; body = are.1.1.1.1.1.0 }
function_chains _ kept = record { params = tt; body = tt }

least_formed : (marked : Bool) (named formed : Option ℕ) → least marked named formed ≡ None → formed ≡ None
least_formed true None formed none = none
least_formed true (Some rule) formed none = absurd (cc)
least_formed false named formed none = absurd (cc)

least_chained : (chains variables declarations forms : Bool) → least_form chains variables declarations forms ≡ None → chains ≡ true
least_chained true variables declarations forms none = refl
least_chained false variables declarations forms none = absurd (cc)

-- A unit that breaks no rule keeps that on chains.
pub unbroken_chains : (u : Syntax) → least_broken u ≡ None → keeps_chains u ≡ true
unbroken_chains u none =
    least_chained (keeps_chains u) (keeps_variables u) (keeps_declarations u) (keeps_forms u)
    (least_formed (keeps_mark u) (names.least_broken u) (least_broken_form u) none)

-- The function that was found in such a unit keeps the rule.
pub has_chains : (u f : Syntax) → least_broken u ≡ None → first (marked_functions u) ≡ Some f → HasChains f
has_chains u f rules found =
    function_chains f (first_kept (marked_functions u) f (functions_kept false u (unbroken_chains u rules)) found)
