-- L1 and L4 find nothing in a unit that is clear: what the test of its tables says of the sites of its tree, and of findings at these.
use Rattle.std.proofs.Common.{◌≡◌, ◌<◌, arith, ℕ, suc, ◌+◌, Bool, true, false, true≢false, not, ◌&&◌, ◌||◌, if◌then◌else◌}
use Rattle.std.proofs.Common.{nat_eq, nat_lt, nat_le, is_none, Option, Some, None, slice_get, List, [], ◌∷◌, ◌++◌, All}
use Rattle.std.proofs.Common.{refl, sym, ap, ◌∙◌, eqb-true, eq-eqb, leb-true, le-leb, ltb-true, lt-ltb}
use Rattle.std.proofs.lemmas.Bool.{and_parts, and_from, false_from_ne_true, or_from, or_parts}
use Rattle.std.proofs.lemmas.List.Elements.{All-nil, All-cons, All-append, All-head, All-tail}
use Rattle.std.specs.List.{list_any}
use Rattle.rl_base.specs.declared.ids.NodeId.{NodeId}
use Rattle.rl_bindings.specs.declared.event.Bound.{Bound}
use Rattle.rl_bindings.specs.declared.resolve.Declaration.{Declaration}
use Rattle.rl_lint.specs.Clear.{are_clear_declarations, are_clear_from, FindsNone, is_clear_bind, is_clear_declaration, is_clear_name}
use Rattle.rl_lint.specs.Clear.{is_clear_node, is_clear_use}
use Rattle.rl_lint.specs.Findings.{finding}
use Rattle.rl_lint.specs.Late.{has_late, has_late_among, has_late_from, is_late as is_late_place, is_late_bind}
use Rattle.rl_lint.specs.Roles.{below, declaring, function_below, function_role, has_body, is_var, kept, listed, only_at, place_below}
use Rattle.rl_lint.specs.Roles.{role_of, variables_role, item_place, top}
use Rattle.rl_lint.specs.Rules.{declared, early, early_of, early_use, is_late, stands_before, taken, taken_by, taken_name, taken_of, used}
use Rattle.rl_lint.specs.Sites.{bind_site, site_of, sites, sites_among, sites_from, sites_in, use_site}
use Rattle.rl_lint.specs.Tables.{Tables}
use Rattle.rl_lint.specs.declared.finding.LintRule.TheVariants as rule
use Rattle.rl_lint.specs.declared.role.Above.{Above}
use Rattle.rl_lint.specs.declared.role.Place.{Place}
use Rattle.rl_lint.specs.declared.role.Place.TheVariants as place
use Rattle.rl_lint.specs.declared.site.LateSite.{LateSite}
use Rattle.rl_lint.specs.declared.site.NamedSite.{NamedSite}
use Rattle.rl_lint.specs.declared.site.Site.{Site}
use Rattle.rl_lint.specs.declared.site.Site.TheVariants as site
use Rattle.rl_lint.specs.declared.site.UseSite.{UseSite}
use Rattle.rl_lint_hints.specs.Hints.{declared_scope, function_around, function_at, function_inside, is_before, is_behind_last}
use Rattle.rl_lint_hints.specs.Hints.{is_closed, is_hinted, is_inside, is_known, is_on_path, is_path_around, is_up_to}
use Rattle.rl_lint_hints.specs.Hints.{is_up_to_last, named_scope, parent_scope}
use Rattle.rl_lint_hints.specs.declared.hints.Hints.{Hints}
use Rattle.rl_lint_hints.specs.declared.hints.LastBind.{LastBind}
use Rattle.rl_resolver.specs.Inside.{is_function_word}
use Rattle.rl_resolver.specs.Lookups.{is_number, name_text}
use Rattle.rl_semantic.specs.Items.{of_item}
use Rattle.rl_syntax.specs.Nodes.{entries, entries_among, entries_under}
use Rattle.rl_syntax.specs.Syntax.{Syntax, Node, Listed, Said, Count, Flag, Absent, Pieces, End, Then, is_reference}
use Rattle.rl_syntax.specs.declared.nodes.NodeEntry.{NodeEntry}
use Rattle.rl_syntax.specs.declared.numbered.At.{At}
use Rattle.rl_syntax.specs.declared.word.Word.{Word}
use Rattle.rl_syntax.specs.declared.word.Word.TheVariants as word

left_all : {X : Type 0} (P : X → Type 0) (xs ys : List X) → All P (xs ++ ys) → All P xs
left_all P [] ys all = All-nil P
left_all P (x ∷ xs) ys all = All-cons P x xs (All-head P x (xs ++ ys) all) (left_all P xs ys (All-tail P x (xs ++ ys) all))

right_all : {X : Type 0} (P : X → Type 0) (xs ys : List X) → All P (xs ++ ys) → All P ys
right_all P [] ys all = all
right_all P (x ∷ xs) ys all = right_all P xs ys (All-tail P x (xs ++ ys) all)

-- The function around the parts of a node, by its word.
inside_is : (f : NodeId) (at : At) (w : Word) (ps : Pieces) → function_below f at (role_of w ps) ≡ (if is_function_word w then at.id else f)
inside_is f at word.Arrow ps = refl
inside_is f at word.Funexpr ps = refl
inside_is f at word.Fundecl ps = by_body (has_body ps)
  where
    by_body : (with_body : Bool) → function_below f at (function_role with_body) ≡ at.id
    by_body true = refl
    by_body false = refl
inside_is f at word.Var ps = by_kind (is_var ps)
  where
    by_kind : (of_var : Bool) → function_below f at (variables_role of_var) ≡ f
    by_kind true = refl
    by_kind false = refl
inside_is f at _ ps = refl

-- A node on a path is inside another on it, so that the walk comes to it.
looked_inside : (own around inside : Bool) → (not own || around) ≡ true → (around ≡ true → (own && inside) ≡ false) → own ≡ true
    → inside ≡ false
looked_inside true around inside closed looked is = looked closed
looked_inside false around inside closed looked is = absurd (true≢false (sym is))

-- True of a parent with an id that is not smaller.
abbrev is_up_from : NodeId → (parent : Option NodeId) → Bool
is_up_from statement parent = of_item false (λ (p : NodeId). nat_le statement.0 p.0) parent

statement_inside : (statement : NodeId) (parent : Option NodeId) (node : ℕ) → is_up_from statement parent ≡ true
    → is_inside parent node ≡ true
    → statement.0 < node
statement_inside statement None node up inside = absurd (true≢false (sym up))
statement_inside statement (Some p) node up inside =
    let le = leb-true statement.0 p.0 up in let lt = ltb-true p.0 node inside in omega (arith, le, lt)

module _ (nodes : List NodeEntry) (h : Hints) (b : Tables) where
  -- A node that the test passed, at its id.
  record IsPassed (e : NodeEntry) : Type 0 where
    itself : slice_get nodes e.at.id.0 ≡ Some e
    clear : is_clear_node h b e ≡ true

  all_passed : (index : ℕ) (es : List NodeEntry) → ((k : ℕ) → slice_get nodes (index + k) ≡ slice_get es k)
      → are_clear_from h b index es ≡ true → All IsPassed es
  all_passed index [] same is = All-nil IsPassed
  all_passed index (e ∷ es) same is =
      let first = and_parts (nat_eq e.at.id.0 index) (is_clear_node h b e && are_clear_from h b (index + 1) es) is in
      let rest = and_parts (is_clear_node h b e) (are_clear_from h b (index + 1) es) first.1 in
      let here : e.at.id.0 ≡ index + 0 = let id = eqb-true e.at.id.0 index first.0 in omega (arith, id) in
      All-cons IsPassed e es (record { itself = ap (slice_get nodes) here ∙ same 0; clear = rest.0 })
      (all_passed (index + 1) es
      (λ k. let next : index + 1 + k ≡ index + suc k = omega arith in ap (slice_get nodes) next ∙ same (suc k)) rest.1)

  -- The facts that the test of a site decides.
  abbrev IsTold : Site → Type 0
  IsTold (site.Use u) = ((function_at h.functions u.at.id.0).0 ≡ u.function.0) × (is_clear_use h b u.at ≡ true)
  IsTold (site.Late d) = ((function_at h.functions d.bind.0).0 ≡ d.function.0) × (d.statement.0 < d.bind.0)
      × (named_scope nodes d.bind.0 ≡ None) × (is_on_path h.paths d.bind.0 ≡ false)
  IsTold (site.Named f) = named_scope nodes f.bind.id.0 ≡ Some f.scope

  -- The facts on the parent of a node that stands in a place.
  abbrev Stands : Place → (parent : Option NodeId) → Type 0
  Stands (place.Late first statement) parent = (parent_scope nodes parent ≡ None) × (is_up_from statement parent ≡ true)
  Stands (place.Name scope) parent = parent_scope nodes parent ≡ Some scope
  Stands (place.Listed first) parent = Unit {0}
  Stands place.Elsewhere parent = Unit {0}

  -- The walk found nothing inside a node that is around a path.
  abbrev Looked : (parent : Option NodeId) → (found : Bool) → Type 0
  Looked parent found = is_path_around h.paths parent ≡ true → found ≡ false

  looked_first : (parent : Option NodeId) (first rest : Bool) → Looked parent (first || rest) → Looked parent first
  looked_first parent first rest looked is = (or_parts first rest (looked is)).0

  looked_rest : (parent : Option NodeId) (first rest : Bool) → Looked parent (first || rest) → Looked parent rest
  looked_rest parent first rest looked is = (or_parts first rest (looked is)).1

  -- A node by its parts.
  module _ (parent : Option NodeId) (at : At) (w : Word) (passed : IsPassed (record { word = w; parent = parent; at = at })) where
    abbrev entry : NodeEntry
    entry = record { word = w; parent = parent; at = at }

    abbrev is_right : Bool
    is_right = nat_eq (function_at h.functions at.id.0).0 (function_inside h.functions entry).0

    known_parts : (is_inside parent at.id.0 ≡ true) × ((is_right && is_closed h.paths entry) ≡ true)
    known_parts = and_parts (is_inside parent at.id.0) (is_right && is_closed h.paths entry)
        (and_parts (is_known h entry) (not (is_reference w) || is_clear_use h b at) passed.clear).0

    function_known : (function_at h.functions at.id.0).0 ≡ (function_inside h.functions entry).0
    function_known = eqb-true (function_at h.functions at.id.0).0 (function_inside h.functions entry).0
        (and_parts is_right (is_closed h.paths entry) known_parts.1).0

    looked_parts : (found : Bool) → Looked parent (is_on_path h.paths at.id.0 && found) → Looked (Some at.id) found
    looked_parts found = looked_inside (is_on_path h.paths at.id.0) (is_path_around h.paths parent) found
        (and_parts is_right (is_closed h.paths entry) known_parts.1).1

    own_name : named_scope nodes at.id.0 ≡ parent_scope nodes parent
    own_name = ap (of_item None (λ (e : NodeEntry). parent_scope nodes e.parent)) passed.itself

    as_parent : parent_scope nodes (Some at.id) ≡ declared_scope entry
    as_parent = ap (of_item None declared_scope) passed.itself

    next_function : (f : NodeId) (ps : Pieces) → (function_around h.functions parent).0 ≡ f.0
        → (function_around h.functions (Some at.id)).0 ≡ (function_below f at (role_of w ps)).0
    next_function f ps is = function_known ∙ by_word (is_function_word w) ∙ ap (λ (g : NodeId). g.0) (sym (inside_is f at w ps))
      where
        by_word : (c : Bool) → (if c then at.id else function_around h.functions parent).0 ≡ (if c then at.id else f).0
        by_word true = refl
        by_word false = is

    late_stands : (p : Place) → parent_scope nodes (Some at.id) ≡ None → Stands (declaring p at) (Some at.id)
    late_stands (place.Listed first) none = (none, le-leb at.id.0 at.id.0 (omega arith))
    late_stands (place.Late first statement) none = tt
    late_stands (place.Name scope) none = tt
    late_stands place.Elsewhere none = tt

    kept_stands : (p : Place) → Stands p parent → parent_scope nodes (Some at.id) ≡ None → Stands (kept p) (Some at.id)
    kept_stands (place.Late first statement) s none =
        (none, le-leb statement.0 at.id.0 (let lt = statement_inside statement parent at.id.0 s.1 known_parts.0 in omega (arith, lt)))
    kept_stands (place.Listed first) s none = tt
    kept_stands (place.Name scope) s none = tt
    kept_stands place.Elsewhere s none = tt

    only_stands : (p : Place) (wanted index : ℕ) → Stands p (Some at.id) → Stands (only_at p wanted index) (Some at.id)
    only_stands p wanted index s = by_case (nat_eq index wanted)
      where
        by_case : (c : Bool) → Stands (if c then p else place.Elsewhere) (Some at.id)
        by_case true = s
        by_case false = tt

  next_stands : (parent : Option NodeId) (at : At) (w : Word) (ps : Pieces) (p : Place) (index : ℕ)
      → IsPassed (record { word = w; parent = parent; at = at })
      → Stands p parent → Stands (place_below p at (role_of w ps) index) (Some at.id)
  next_stands parent at word.Var ps p index passed s = by_kind (is_var ps)
    where
      by_kind : (of_var : Bool) → Stands (place_below p at (variables_role of_var) index) (Some at.id)
      by_kind true = tt
      by_kind false = late_stands parent at word.Var passed p (as_parent parent at word.Var passed)
  next_stands parent at word.Classdecl ps p index passed s =
      only_stands parent at word.Classdecl passed (declaring p at) 0 index
      (late_stands parent at word.Classdecl passed p (as_parent parent at word.Classdecl passed))
  next_stands parent at word.Arraypat ps p index passed s =
      kept_stands parent at word.Arraypat passed p s (as_parent parent at word.Arraypat passed)
  next_stands parent at word.Objectpat ps p index passed s =
      kept_stands parent at word.Objectpat passed p s (as_parent parent at word.Objectpat passed)
  next_stands parent at word.Rest ps p index passed s =
      kept_stands parent at word.Rest passed p s (as_parent parent at word.Rest passed)
  next_stands parent at word.Declarator ps p index passed s =
      only_stands parent at word.Declarator passed (kept p) 0 index
      (kept_stands parent at word.Declarator passed p s (as_parent parent at word.Declarator passed))
  next_stands parent at word.Defaultpat ps p index passed s =
      only_stands parent at word.Defaultpat passed (kept p) 0 index
      (kept_stands parent at word.Defaultpat passed p s (as_parent parent at word.Defaultpat passed))
  next_stands parent at word.Keyedpat ps p index passed s =
      only_stands parent at word.Keyedpat passed (kept p) 2 index
      (kept_stands parent at word.Keyedpat passed p s (as_parent parent at word.Keyedpat passed))
  next_stands parent at word.Fundecl ps p index passed s = by_body (has_body ps)
    where
      by_body : (with_body : Bool) → Stands (place_below p at (function_role with_body) index) (Some at.id)
      by_body true = only_stands parent at word.Fundecl passed (place.Name at.scope) 3 index (as_parent parent at word.Fundecl passed)
      by_body false = tt
  next_stands parent at _ ps p index passed s = tt

  list_stands : (p : Place) (items : Pieces) (parent : Option NodeId) → Stands p parent → Stands (item_place p items) parent
  list_stands (place.Late first statement) items parent s = s
  list_stands (place.Listed first) items parent s = tt
  list_stands (place.Name scope) items parent s = tt
  list_stands place.Elsewhere items parent s = tt

  -- The site that a node itself is.
  bind_told : (p : Place) (a : Above) (parent : Option NodeId) (at : At)
      → IsPassed (record { word = word.Bind; parent = parent; at = at }) → (function_around h.functions parent).0 ≡ a.function.0
      → Stands p parent → Looked (Some at.id) (is_late_place p) → All IsTold (bind_site p a at)
  bind_told (place.Late first statement) a parent at passed f s looked =
      All-cons IsTold (site.Late (record { bind = at.id; first = first; statement = statement; function = a.function })) [] (
        function_known parent at word.Bind passed ∙ f,
        statement_inside statement parent at.id.0 s.1 (known_parts parent at word.Bind passed).0,
        own_name parent at word.Bind passed ∙ s.0,
        false_from_ne_true (is_on_path h.paths at.id.0) (λ is. true≢false (looked is)),
      ) (All-nil IsTold)
  bind_told (place.Name scope) a parent at passed f s looked =
      All-cons IsTold (site.Named (record { bind = at; scope = scope })) [] (own_name parent at word.Bind passed ∙ s) (All-nil IsTold)
  bind_told (place.Listed first) a parent at passed f s looked = All-nil IsTold
  bind_told place.Elsewhere a parent at passed f s looked = All-nil IsTold

  use_told : (a : Above) (parent : Option NodeId) (at : At) → IsPassed (record { word = word.Id; parent = parent; at = at })
      → (function_around h.functions parent).0 ≡ a.function.0 → All IsTold (use_site a at)
  use_told a parent at passed f = by_case a.in_type
    where
      by_case : (in_type : Bool) → All IsTold (if in_type then [] else site.Use (record { at = at; function = a.function }) ∷ [])
      by_case true = All-nil IsTold
      by_case false = All-cons IsTold (site.Use (record { at = at; function = a.function })) [] (
        function_known parent at word.Id passed ∙ f,
        (and_parts (is_known h (record { word = word.Id; parent = parent; at = at })) (is_clear_use h b at) passed.clear).1,
      )
          (All-nil IsTold)

  own_told : (a : Above) (parent : Option NodeId) (at : At) (w : Word) (ps : Pieces)
      → IsPassed (record { word = w; parent = parent; at = at }) → (function_around h.functions parent).0 ≡ a.function.0
      → Stands a.place parent → Looked (Some at.id) (is_late_bind (role_of w ps) a.place) → All IsTold (site_of (role_of w ps) a at)
  own_told a parent at word.Id ps passed f s looked = use_told a parent at passed f
  own_told a parent at word.Bind ps passed f s looked = bind_told a.place a parent at passed f s looked
  own_told a parent at word.Var ps passed f s looked = by_kind (is_var ps)
    where
      by_kind : (of_var : Bool) → All IsTold (site_of (variables_role of_var) a at)
      by_kind true = All-nil IsTold
      by_kind false = All-nil IsTold
  own_told a parent at word.Fundecl ps passed f s looked = by_body (has_body ps)
    where
      by_body : (with_body : Bool) → All IsTold (site_of (function_role with_body) a at)
      by_body true = All-nil IsTold
      by_body false = All-nil IsTold
  own_told a parent at _ ps passed f s looked = All-nil IsTold

  mutual
    told_in : (a : Above) (parent : Option NodeId) (t : Syntax) → All IsPassed (entries_under parent t)
        → (function_around h.functions parent).0 ≡ a.function.0
        → Stands a.place parent → Looked parent (has_late h.paths a.place t) → All IsTold (sites a t)
    told_in a parent (Node at w ps) passed f s looked =
        let here = All-head IsPassed (record { word = w; parent = parent; at = at }) (entries_among (Some at.id) ps) passed in
        let inside = All-tail IsPassed (record { word = w; parent = parent; at = at }) (entries_among (Some at.id) ps) passed in
        let own = is_late_bind (role_of w ps) a.place in
        let deep = has_late_from h.paths a.place at (role_of w ps) 0 ps in
        let found : Looked (Some at.id) (own || deep) = looked_parts parent at w here (own || deep) looked in
        All-append IsTold (site_of (role_of w ps) a at) (sites_from a at (role_of w ps) 0 ps)
        (own_told a parent at w ps here f s (looked_first (Some at.id) own deep found))
        (told_from a parent at w ps 0 ps inside here f s (looked_rest (Some at.id) own deep found))
    told_in a parent (Listed items) passed f s looked =
        told_among (listed a items) parent items passed f (list_stands a.place items parent s) looked
    told_in a parent (Said text) passed f s looked = All-nil IsTold
    told_in a parent (Count number) passed f s looked = All-nil IsTold
    told_in a parent (Flag flag) passed f s looked = All-nil IsTold
    told_in a parent Absent passed f s looked = All-nil IsTold

    -- Parts of a node, the first of them at `index`; all of them are `all`.
    told_from : (a : Above) (parent : Option NodeId) (at : At) (w : Word) (all : Pieces) (index : ℕ) (ps : Pieces)
        → All IsPassed (entries_among (Some at.id) ps)
        → IsPassed (record { word = w; parent = parent; at = at }) → (function_around h.functions parent).0 ≡ a.function.0
        → Stands a.place parent → Looked (Some at.id) (has_late_from h.paths a.place at (role_of w all) index ps)
        → All IsTold (sites_from a at (role_of w all) index ps)
    told_from a parent at w all index End passed here f s looked = All-nil IsTold
    told_from a parent at w all index (Then t ps) passed here f s looked =
        let first = has_late h.paths (place_below a.place at (role_of w all) index) t in
        let rest = has_late_from h.paths a.place at (role_of w all) (index + 1) ps in
        All-append IsTold (sites (below a at (role_of w all) index) t) (sites_from a at (role_of w all) (index + 1) ps)
        (told_in (below a at (role_of w all) index) (Some at.id) t
        (left_all IsPassed (entries_under (Some at.id) t) (entries_among (Some at.id) ps) passed)
        (next_function parent at w here a.function all f) (next_stands parent at w all a.place index here s)
        (looked_first (Some at.id) first rest looked))
        (told_from a parent at w all (index + 1) ps
        (right_all IsPassed (entries_under (Some at.id) t) (entries_among (Some at.id) ps) passed) here f s
        (looked_rest (Some at.id) first rest looked))

    told_among : (a : Above) (parent : Option NodeId) (ps : Pieces) → All IsPassed (entries_among parent ps)
        → (function_around h.functions parent).0 ≡ a.function.0
        → Stands a.place parent → Looked parent (has_late_among h.paths a.place ps) → All IsTold (sites_among a ps)
    told_among a parent End passed f s looked = All-nil IsTold
    told_among a parent (Then t ps) passed f s looked =
        let first = has_late h.paths a.place t in let rest = has_late_among h.paths a.place ps in
        All-append IsTold (sites a t) (sites_among a ps)
        (told_in a parent t (left_all IsPassed (entries_under parent t) (entries_among parent ps) passed) f s
        (looked_first parent first rest looked))
        (told_among a parent ps (right_all IsPassed (entries_under parent t) (entries_among parent ps) passed) f s
        (looked_rest parent first rest looked))

  told_all : (tree : Syntax) → nodes ≡ entries tree → are_clear_from h b 0 nodes ≡ true → has_late h.paths place.Elsewhere tree ≡ false
      → All IsTold (sites_in tree)
  told_all tree is clear looked =
      told_in top None tree
      (all_passed 0 (entries tree)
      (λ k. let same : 0 + k ≡ k = omega arith in ap (λ l. slice_get l (0 + k)) is ∙ ap (slice_get (entries tree)) same)
      (sym (ap (are_clear_from h b 0) is) ∙ clear)) refl tt (λ around. looked)

  -- A declaration of a symbol, among declarations that are clear.
  declared_clear : (ds : List Declaration) (node symbol : ℕ) → are_clear_declarations nodes h b ds ≡ true
      → declared ds node ≡ Some symbol → is_clear_bind nodes h b node symbol ≡ true
  declared_clear [] node symbol clear is = absurd (cc)
  declared_clear (d ∷ ds) node symbol clear is = by_case (declared_clear ds node symbol parts.1) (nat_eq d.node.0 node) refl
    where
      parts : (is_clear_declaration nodes h b d ≡ true) × (are_clear_declarations nodes h b ds ≡ true)
      parts = and_parts (is_clear_declaration nodes h b d) (are_clear_declarations nodes h b ds) clear

      by_case : (declared ds node ≡ Some symbol → is_clear_bind nodes h b node symbol ≡ true) → (c : Bool) → nat_eq d.node.0 node ≡ c
          → is_clear_bind nodes h b node symbol ≡ true
      by_case rest true same =
          let of : d.symbol ≡ Some symbol = ap (λ (c : Bool). if c then d.symbol else declared ds node) (sym same) ∙ is in
          ap (λ n. is_clear_bind nodes h b n symbol) (sym (eqb-true d.node.0 node same))
          ∙ ap (of_item true (is_clear_bind nodes h b d.node.0)) (sym of) ∙ parts.0
      by_case rest false other = rest
          (ap (λ (c : Bool). if c then d.symbol else declared ds node) (sym other) ∙ is)

  -- L1 finds nothing at a use.

  number_is : (symbol : ℕ) (o : Option ℕ) → is_number symbol o ≡ true → o ≡ Some symbol
  number_is symbol None is = absurd (true≢false (sym is))
  number_is symbol (Some number) is = ap Some (eqb-true number symbol is)

  -- A declaration up to the last one, and a use that is not before that one, stand in no function together, the use before the other.
  apart : (last : Option LastBind) (user bind : ℕ) → of_item true (is_up_to h bind) last ≡ true
      → of_item false (λ (l : LastBind). not (is_before h user l)) last ≡ true → user < bind
      → (function_at h.functions user).0 ≡ (function_at h.functions bind).0 → ⊥
  apart None user bind up behind lt same = true≢false (sym behind)
  apart (Some l) user bind up behind lt same =
      let aside = not (is_on_path h.paths l.node.0) in
      let parts = and_parts (nat_le bind l.node.0) (aside && nat_eq (function_at h.functions bind).0 l.function.0) up in
      let le = leb-true bind l.node.0 parts.0 in
      let more = and_parts aside (nat_eq (function_at h.functions bind).0 l.function.0) parts.1 in
      let before : is_before h user l ≡ true =
      and_from (nat_lt user l.node.0) (aside && nat_eq (function_at h.functions user).0 l.function.0)
      (lt-ltb user l.node.0 (omega (arith, le, lt)))
      (and_from aside (nat_eq (function_at h.functions user).0 l.function.0) more.0
      (eq-eqb (function_at h.functions user).0 l.function.0
      (same ∙ eqb-true (function_at h.functions bind).0 l.function.0 more.1))) in
      true≢false (sym behind ∙ ap not before)

  module _ (clear : are_clear_declarations nodes h b b.declarations ≡ true) where
    not_late : (u : UseSite) (symbol : ℕ) (d : LateSite) → is_behind_last h u.at.id.0 symbol ≡ true
        → IsTold (site.Use u) → IsTold (site.Late d) → is_late b u symbol (site.Late d) ≡ true → ⊥
    not_late u symbol d behind user late is =
        let both = and_parts (is_number symbol (declared b.declarations d.bind.0)) (stands_before u d) is in
        let stands = and_parts (nat_le d.first.0 u.at.id.0) (nat_lt u.at.id.0 d.statement.0 && nat_eq d.function.0 u.function.0) both.1 in
        let order = and_parts (nat_lt u.at.id.0 d.statement.0) (nat_eq d.function.0 u.function.0) stands.1 in
        let lt = ltb-true u.at.id.0 d.statement.0 order.0 in
        let bound = declared_clear b.declarations d.bind.0 symbol clear (number_is symbol (declared b.declarations d.bind.0) both.0) in
        let hinted : is_hinted h d.bind.0 symbol ≡ true =
        ap (of_item (is_hinted h d.bind.0 symbol) (is_clear_name b symbol)) (sym late.2) ∙ bound in
        apart (slice_get h.lasts symbol) u.at.id.0 d.bind.0
        (ap (λ (on : Bool). on || is_up_to_last h d.bind.0 symbol) (sym late.3) ∙ hinted) behind (omega (arith, lt, late.1))
        (user.0 ∙ sym (eqb-true d.function.0 u.function.0 order.1) ∙ sym late.0)

    none_late : (u : UseSite) (symbol : ℕ) (all : List Site) → is_behind_last h u.at.id.0 symbol ≡ true
        → IsTold (site.Use u) → All IsTold all → list_any (is_late b u symbol) all ≡ false
    none_late u symbol [] behind user told = refl
    none_late u symbol (s ∷ all) behind user told =
        or_from (is_late b u symbol s) (list_any (is_late b u symbol) all) (by_site s (All-head IsTold s all told))
        (none_late u symbol all behind user (All-tail IsTold s all told))
      where
        by_site : (s : Site) → IsTold s → is_late b u symbol s ≡ false
        by_site (site.Late d) late = false_from_ne_true (is_late b u symbol (site.Late d)) (not_late u symbol d behind user late)
        by_site (site.Use v) other = refl
        by_site (site.Named f) other = refl

    none_at_use : (u : UseSite) (all : List Site) → IsTold (site.Use u) → All IsTold all → early_use b all u ≡ []
    none_at_use u all user told = by_symbol (used b.references u.at.reference.0) user.1
      where
        by_bound : (symbol : ℕ) (first : Option Bound) → is_behind_last h u.at.id.0 symbol ≡ true
            → of_item [] (early_of b all u symbol) first ≡ []
        by_bound symbol None behind = refl
        by_bound symbol (Some first) behind =
            ap (λ (some : Bool). if some then finding rule.L1 u.at.span (name_text b.names first.name) (Some first.span) ∷ [] else [])
            (none_late u symbol all behind user told)

        by_symbol : (o : Option ℕ) → of_item true (is_behind_last h u.at.id.0) o ≡ true
            → of_item [] (λ symbol. of_item [] (early_of b all u symbol) (slice_get b.symbols symbol)) o ≡ []
        by_symbol None behind = refl
        by_symbol (Some symbol) behind = by_bound symbol (slice_get b.symbols symbol) behind

    none_early : (all some : List Site) → All IsTold all → All IsTold some → early b all some ≡ []
    none_early all [] told these = refl
    none_early all (site.Use u ∷ some) told these =
        ap (λ l. l ++ early b all some) (none_at_use u all (All-head IsTold (site.Use u) some these) told)
        ∙ none_early all some told (All-tail IsTold (site.Use u) some these)
    none_early all (site.Late d ∷ some) told these = none_early all some told (All-tail IsTold (site.Late d) some these)
    none_early all (site.Named f ∷ some) told these = none_early all some told (All-tail IsTold (site.Named f) some these)

    -- L4 finds nothing at a function declaration.

    none_other : (f : NamedSite) (own : ℕ) (first : Option Bound)
        → of_item true (λ (first : Bound). is_none (taken_by b own f.scope (name_text b.names first.name))) first ≡ true
        → of_item [] (taken_of b f own) first ≡ []
    none_other f own None is = refl
    none_other f own (Some first) is = by_other (taken_by b own f.scope (name_text b.names first.name)) is
      where
        by_other : (o : Option ℕ) → is_none o ≡ true
            → of_item [] (λ symbol. of_item []
            (λ (other : Bound). finding rule.L4 f.bind.span (name_text b.names first.name) (Some other.span) ∷ [])
            (slice_get b.symbols symbol)) o ≡ []
        by_other None is = refl
        by_other (Some symbol) is = absurd (true≢false (sym is))

    none_at_name : (f : NamedSite) → IsTold (site.Named f) → taken_name b f ≡ []
    none_at_name f told = by_own (declared b.declarations f.bind.id.0) refl
      where
        by_own : (o : Option ℕ) → declared b.declarations f.bind.id.0 ≡ o
            → of_item [] (λ own. of_item [] (taken_of b f own) (slice_get b.symbols own)) o ≡ []
        by_own None is = refl
        by_own (Some own) is =
            none_other f own (slice_get b.symbols own)
            (ap (of_item (is_hinted h f.bind.id.0 own) (is_clear_name b own)) (sym told)
            ∙ declared_clear b.declarations f.bind.id.0 own clear is)

    none_taken : (some : List Site) → All IsTold some → taken b some ≡ []
    none_taken [] told = refl
    none_taken (site.Named f ∷ some) told =
        ap (λ l. l ++ taken b some) (none_at_name f (All-head IsTold (site.Named f) some told))
        ∙ none_taken some (All-tail IsTold (site.Named f) some told)
    none_taken (site.Use u ∷ some) told = none_taken some (All-tail IsTold (site.Use u) some told)
    none_taken (site.Late d ∷ some) told = none_taken some (All-tail IsTold (site.Late d) some told)

pub finds_none : (nodes : List NodeEntry) (h : Hints) (b : Tables) (tree : Syntax) → nodes ≡ entries tree
    → are_clear_declarations nodes h b b.declarations ≡ true
    → are_clear_from h b 0 nodes ≡ true → has_late h.paths place.Elsewhere tree ≡ false → FindsNone b tree
finds_none nodes h b tree is declarations clear looked =
    let told = told_all nodes h b tree is clear looked in
    record {
      none_early = none_early nodes h b declarations (sites_in tree) (sites_in tree) told told;
      none_taken = none_taken nodes h b declarations (sites_in tree) told;
    }
