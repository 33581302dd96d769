-- A step of the walk along edges.
use Rattle.std.proofs.Common.{◌≡◌, ℕ, suc, ◌+◌, ◌-◌, ◌<◌, ◌≤◌, Bool, true, false, not, ◌||◌, if◌then◌else◌, List, [], ◌∷◌, ◌++◌, length, map, reverse, drop, get_or, Some, None, ap, sym, ◌∙◌, refl, subst, arith, length-append, eq-eqb, eqb-true}
use Rattle.std.specs.List.{list_any}
use Rattle.std.proofs.Math.Seq.{drop-cons}
use Rattle.std.proofs.lemmas.List.{length-map, length-reverse, reverse-append}
use Rattle.std.proofs.lemmas.List.Folds.{list_any-append}
use Rattle.indexmap.specs.IndexSet.{insert_key}
use Rattle.rl_base.specs.declared.ids.BlockId.{BlockId}
use Rattle.rl_hir.specs.Blocks.{Pair, block_at, same_id}
use Rattle.rl_hir.specs.declared.function.BasicBlock.{BasicBlock}
use Rattle.rl_order.specs.PredecessorWalk.{Follows, Misses, Meets, Visits, Trail, distinct_ids, edges_from}
use Rattle.rl_order.specs.Walked.{Goes, unseen_edges}
use Rattle.rl_order.specs.declared.predecessors.Edge.{Edge}

-- A further edge from a block is left: those to its last successors, from the next one before them on.
pub back_step : (from : BlockId) (ids : List BlockId) (back : ℕ) (d : BlockId) (left left1 old : List Edge) → back < length ids
    → left1 ≡ left ++ (record { from = from; to = get_or ids (length ids - 1 - back) d }) ∷ []
    → reverse left ≡ map (λ (to : BlockId). record { from = from; to = to }) (drop (length ids - back) ids) ++ old
    → reverse left1 ≡ map (λ (to : BlockId). record { from = from; to = to }) (drop (length ids - (back + 1)) ids) ++ old
back_step from ids back d left left1 old within is h =
    let edge_to : BlockId → Edge = λ (to : BlockId). record { from = from; to = to } in
    let index : ℕ = length ids - 1 - back in
    let here : length ids - (back + 1) ≡ index = omega arith in
    let next : suc index ≡ length ids - back = omega arith in
    let inside : index < length ids = omega arith in
    let split : drop (length ids - (back + 1)) ids ≡ get_or ids index d ∷ drop (length ids - back) ids =
    ap (λ n. drop n ids) here ∙ drop-cons ids index d inside ∙ ap (λ n. get_or ids index d ∷ drop n ids) next in
    ap (λ (t : List Edge). reverse t) is ∙ reverse-append left (edge_to (get_or ids index d) ∷ []) ∙ ap (λ (t : List Edge). edge_to (get_or ids index d) ∷ t) h
    ∙ ap (λ (t : List BlockId). map edge_to t ++ old) (sym split)

module _ (graph : List Pair) (e : Edge) (work : List Edge) (seen : List BlockId) (edges : List Edge) where
  abbrev trail : Trail
  trail = record { seen = seen; edges = edges }

  pub misses : block_at graph e.to ≡ None → Goes graph (e ∷ work) trail work trail
  misses gone = record { goes = λ end h. Misses e work trail end gone h }

  module _ (block : BasicBlock) (found : block_at graph e.to ≡ Some block) (edges1 : List Edge) (more : edges1 ≡ edges ++ e ∷ []) where
    pub meets : (seen1 : List BlockId) → list_any (same_id e.to) seen ≡ true → seen1 ≡ insert_key same_id seen e.to
        → Goes graph (e ∷ work) trail work (record { seen = seen1; edges = edges1 })
    meets seen1 met is =
        let stays : seen1 ≡ seen = is ∙ ap (λ (b : Bool). if b then seen else seen ++ e.to ∷ []) met in
        record {
          goes = λ end h.
              Meets e work block trail end found met
              (subst (λ (t : List Edge). Follows graph work (record { seen = seen; edges = t }) end) more
              (subst (λ (s : List BlockId). Follows graph work (record { seen = s; edges = edges1 }) end) stays h));
        }

    pub visits : (seen1 : List BlockId) (work1 : List Edge) → list_any (same_id e.to) seen ≡ false → seen1 ≡ insert_key same_id seen e.to
        → work1 ≡ edges_from e.to block ++ work → Goes graph (e ∷ work) trail work1 (record { seen = seen1; edges = edges1 })
    visits seen1 work1 fresh is left =
        let grows : seen1 ≡ seen ++ e.to ∷ [] = is ∙ ap (λ (b : Bool). if b then seen else seen ++ e.to ∷ []) fresh in
        record {
          goes = λ end h.
              Visits e work block trail end found fresh
              (subst (λ (t : List Edge). Follows graph (edges_from e.to block ++ work) (record { seen = seen ++ e.to ∷ []; edges = t }) end) more
              (subst (λ (s : List BlockId). Follows graph (edges_from e.to block ++ work) (record { seen = s; edges = edges1 }) end) grows
              (subst (λ (w : List Edge). Follows graph w (record { seen = seen1; edges = edges1 }) end) left h)));
        }

pub not_true : (b : Bool) → true ≡ not b → b ≡ false
not_true true h = absurd (cc)
not_true false h = refl

pub not_false : (b : Bool) → false ≡ not b → b ≡ true
not_false true h = refl
not_false false h = absurd (cc)

-- The edges from a block that was not visited.
abbrev fresh_edges : List BlockId → Pair → ℕ
fresh_edges seen p = if list_any (same_id p.0) seen then 0 else length (distinct_ids p.1.terminal)

fewer_fresh : (p : Pair) (seen : List BlockId) (id : BlockId) → fresh_edges (seen ++ id ∷ []) p ≤ fresh_edges seen p
fewer_fresh p seen id = by_seen (list_any (same_id p.0) seen) (list_any (same_id p.0) (id ∷ [])) (list_any-append (same_id p.0) seen (id ∷ [])) refl refl
  where
    by_seen : (a b : Bool) → list_any (same_id p.0) (seen ++ id ∷ []) ≡ (list_any (same_id p.0) seen || list_any (same_id p.0) (id ∷ []))
        → list_any (same_id p.0) seen ≡ a → list_any (same_id p.0) (id ∷ []) ≡ b → fresh_edges (seen ++ id ∷ []) p ≤ fresh_edges seen p
    by_seen true b is first second = rw (is, first) (omega arith)
    by_seen false true is first second = rw (is, first, second) (omega arith)
    by_seen false false is first second = rw (is, first, second) (omega arith)

fewer_unseen : (graph : List Pair) (seen : List BlockId) (id : BlockId) → unseen_edges graph (seen ++ id ∷ []) ≤ unseen_edges graph seen
fewer_unseen [] seen id = omega arith
fewer_unseen (p ∷ graph) seen id = omega (arith, fewer_fresh p seen id, fewer_unseen graph seen id)

seen_last : (id : BlockId) (seen : List BlockId) → list_any (same_id id) (seen ++ id ∷ []) ≡ true
seen_last id [] = let same : same_id id id ≡ true = eq-eqb id.0 id.0 refl in rw same refl
seen_last id (x ∷ seen) = by_head (same_id id x) refl (seen_last id seen)
  where
    by_head : (b : Bool) → same_id id x ≡ b → list_any (same_id id) (seen ++ id ∷ []) ≡ true → list_any (same_id id) (x ∷ seen ++ id ∷ []) ≡ true
    by_head true e rest = rw e refl
    by_head false e rest = rw e rest

first_falls : (p : Pair) (graph : List Pair) (seen : List BlockId) → list_any (same_id p.0) seen ≡ false
    → unseen_edges (p ∷ graph) (seen ++ p.0 ∷ []) + length (distinct_ids p.1.terminal) ≤ unseen_edges (p ∷ graph) seen
first_falls p graph seen fresh = rw (seen_last p.0 seen, fresh) (omega (arith, fewer_unseen graph seen p.0))

-- Ids that the test finds to be one are one.
pub one_id : (a b : BlockId) → same_id a b ≡ true → a ≡ b
one_id a b h = let same : a.0 ≡ b.0 = eqb-true a.0 b.0 h in ap (λ (n : ℕ). record { 0 = n }) same

-- The edges from a block that is visited are no longer among those from blocks that were not visited.
pub unseen_falls : (graph : List Pair) (seen : List BlockId) (id : BlockId) (block : BasicBlock) → block_at graph id ≡ Some block → list_any (same_id id) seen ≡ false
    → unseen_edges graph (seen ++ id ∷ []) + length (distinct_ids block.terminal) ≤ unseen_edges graph seen
unseen_falls [] seen id block found fresh = absurd (cc)
unseen_falls (p ∷ graph) seen id block found fresh = by_head (same_id id p.0) refl found (unseen_falls graph seen id block)
  where
    by_head : (b : Bool) → same_id id p.0 ≡ b → block_at (p ∷ graph) id ≡ Some block
        → (block_at graph id ≡ Some block → list_any (same_id id) seen ≡ false → unseen_edges graph (seen ++ id ∷ []) + length (distinct_ids block.terminal) ≤ unseen_edges graph seen)
        → unseen_edges (p ∷ graph) (seen ++ id ∷ []) + length (distinct_ids block.terminal) ≤ unseen_edges (p ∷ graph) seen
    by_head true e at rest =
        let same : id ≡ p.0 = one_id id p.0 e in
        let first : p.1 ≡ block = (let at1 : Some p.1 ≡ Some block = rw e at at in cc) in
        let all : unseen_edges (p ∷ graph) (seen ++ p.0 ∷ []) + length (distinct_ids p.1.terminal) ≤ unseen_edges (p ∷ graph) seen =
        first_falls p graph seen (subst (λ (x : BlockId). list_any (same_id x) seen ≡ false) same fresh) in
        subst (λ (x : BlockId). unseen_edges (p ∷ graph) (seen ++ x ∷ []) + length (distinct_ids block.terminal) ≤ unseen_edges (p ∷ graph) seen) (sym same)
        (subst (λ (b : BasicBlock). unseen_edges (p ∷ graph) (seen ++ p.0 ∷ []) + length (distinct_ids b.terminal) ≤ unseen_edges (p ∷ graph) seen) first all)
    by_head false e at rest =
        let later : block_at graph id ≡ Some block = rw e at at in
        omega (arith, rest later fresh, fewer_fresh p seen id)

-- A first visit leaves no more edges.
pub visit_falls : (graph : List Pair) (seen seen1 : List BlockId) (from : BlockId) (block : BasicBlock) (left left1 : List Edge) → block_at graph from ≡ Some block
    → list_any (same_id from) seen ≡ false → seen1 ≡ insert_key same_id seen from → reverse left1 ≡ edges_from from block ++ reverse left
    → length left1 + unseen_edges graph seen1 ≤ length left + unseen_edges graph seen
visit_falls graph seen seen1 from block left left1 found fresh is more =
    let grows : seen1 ≡ seen ++ from ∷ [] = is ∙ ap (λ (b : Bool). if b then seen else seen ++ from ∷ []) fresh in
    let same : unseen_edges graph seen1 ≡ unseen_edges graph (seen ++ from ∷ []) = ap (unseen_edges graph) grows in
    let edge_to : BlockId → Edge = λ (to : BlockId). record { from = from; to = to } in
    let count : length left1 ≡ length (distinct_ids block.terminal) + length left =
    sym (length-reverse left1) ∙ ap length more ∙ length-append (edges_from from block) (reverse left)
    ∙ (λ j. length-map (distinct_ids block.terminal) edge_to j + length-reverse left j) in
    omega (arith, same, count, unseen_falls graph seen from block found fresh)

pub empty_list : {X : Type 0} (xs : List X) → length xs ≡ 0 → xs ≡ []
empty_list [] h = refl
empty_list (x ∷ xs) h = absurd (omega arith)
