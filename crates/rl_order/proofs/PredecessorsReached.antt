-- The edges that the walk follows are those between the blocks that the entry reaches.
use Rattle.std.proofs.Common.{◌≡◌, ℕ, zero, suc, ◌<◌, ◌⊎◌, inl, inr, Bool, true, false, if◌then◌else◌, Option, List, [], ◌∷◌, ◌++◌, length, map, get_or, Contains, Some, None, ap, sym, ◌∙◌, refl, subst, arith, eq-eqb}
use Rattle.std.specs.List.{list_any}
use Rattle.indexmap.specs.IndexSet.{insert_key, insert_all}
use Rattle.rl_base.specs.declared.ids.BlockId.{BlockId}
use Rattle.rl_hir.specs.Blocks.{Pair, block_at, same_id}
use Rattle.rl_hir.specs.Terminals.{successor_ids}
use Rattle.rl_hir.specs.declared.function.BasicBlock.{BasicBlock}
use Rattle.rl_order.proofs.Follows.{one_id}
use Rattle.rl_order.specs.PredecessorWalk.{Follows, Ends, Misses, Meets, Visits, Trail, IsMarked, distinct_ids, edges_from, followed, sources, visited, with_predecessors}
use Rattle.rl_order.specs.Predecessors.{LeadsTo, PredecessorsReached}
use Rattle.rl_order.specs.Reached.{IsReached, Begins, Goes}
use Rattle.rl_order.specs.declared.predecessors.Edge.{Edge}

-- `x` is one of the items.
abbrev pub In : {X : Type 0} → X → List X → Type 0
In x [] = ⊥
In x (y ∷ ys) = (y ≡ x) ⊎ In x ys

module _ {X : Type 0} where
  pub in_left : (x : X) (xs ys : List X) → In x xs → In x (xs ++ ys)
  in_left x [] ys h = absurd h
  in_left x (z ∷ xs) ys h = elim h [ inl e ↦ inl e | inr r ↦ inr (in_left x xs ys r) ]

  pub in_right : (x : X) (xs ys : List X) → In x ys → In x (xs ++ ys)
  in_right x [] ys h = h
  in_right x (z ∷ xs) ys h = inr (in_right x xs ys h)

  pub in_either : (x : X) (xs ys : List X) → In x (xs ++ ys) → In x xs ⊎ In x ys
  in_either x [] ys h = inr h
  in_either x (z ∷ xs) ys h = elim h [
    | inl e ↦ inl (inl e)
    | inr r ↦ elim (in_either x xs ys r) [ inl a ↦ inl (inr a) | inr b ↦ inr b ]
  ]

  pub in_last : (x y : X) (xs : List X) → In x (xs ++ y ∷ []) → In x xs ⊎ (y ≡ x)
  in_last x y xs h = elim (in_either x xs (y ∷ []) h) [
    | inl a ↦ inl a
    | inr b ↦ elim b [ inl e ↦ inr e | inr never ↦ absurd never ]
  ]

  pub in_contains : (x : X) (xs : List X) → In x xs → Contains xs x
  in_contains x [] h = absurd h
  in_contains x (y ∷ ys) h = elim h [
    | inl e ↦ (0, omega arith, e)
    | inr r ↦ (let c : Contains ys x = in_contains x ys r in (suc c.0, omega (arith, c.1), c.2))
  ]

  pub contains_in : (x : X) (xs : List X) → Contains xs x → In x xs
  contains_in x xs c = at xs c.0 c.1 c.2
    where
      at : (zs : List X) (i : ℕ) → i < length zs → get_or zs i x ≡ x → In x zs
      at [] i within is = absurd (omega arith)
      at (z ∷ zs) zero within is = inl is
      at (z ∷ zs) (suc i) within is = inr (at zs i (omega arith) is)

in_map : {X Y : Type 0} (f : X → Y) (x : X) (xs : List X) → In x xs → In (f x) (map f xs)
in_map f x [] h = absurd h
in_map f x (z ∷ xs) h = elim h [ inl e ↦ inl (ap f e) | inr r ↦ inr (in_map f x xs r) ]

from_map : {X Y : Type 0} (f : X → Y) (y : Y) (xs : List X) → In y (map f xs) → (x : X) × In x xs × (f x ≡ y)
from_map f y [] h = absurd h
from_map f y (z ∷ xs) h = elim h [
  | inl e ↦ (z, inl refl, e)
  | inr r ↦ (let m : (x : _) × In x xs × (f x ≡ y) = from_map f y xs r in (m.0, inr m.1, m.2))
]

-- Tests of ids

any_in : (id : BlockId) (ids : List BlockId) → list_any (same_id id) ids ≡ true → In id ids
any_in id [] h = absurd (cc)
any_in id (x ∷ ids) h = by_head (same_id id x) refl h (any_in id ids)
  where
    by_head : (b : Bool) → same_id id x ≡ b → list_any (same_id id) (x ∷ ids) ≡ true → (list_any (same_id id) ids ≡ true → In id ids) → In id (x ∷ ids)
    by_head true e h1 rest = inl (sym (one_id id x e))
    by_head false e h1 rest = inr (rest (rw e at h1))

in_any : (id : BlockId) (ids : List BlockId) → In id ids → list_any (same_id id) ids ≡ true
in_any id [] h = absurd h
in_any id (x ∷ ids) h = by_head (same_id id x) refl h (in_any id ids)
  where
    by_head : (b : Bool) → same_id id x ≡ b → In id (x ∷ ids) → (In id ids → list_any (same_id id) ids ≡ true) → list_any (same_id id) (x ∷ ids) ≡ true
    by_head true e i rest = rw e refl
    by_head false e i rest = elim i [
      | inl same ↦ absurd (let hit : same_id id x ≡ true = eq-eqb id.0 x.0 (ap (λ (y : BlockId). y.0) (sym same)) in let never : true ≡ false = sym hit ∙ e in cc)
      | inr r ↦ rw e (rest r)
    ]

self_same : (id : BlockId) → same_id id id ≡ true
self_same id = eq-eqb id.0 id.0 refl

-- Ids that are put into a list, each once

key_old : (id key : BlockId) (ids : List BlockId) → In id ids → In id (insert_key same_id ids key)
key_old id key ids h = by_any (list_any (same_id key) ids)
  where
    by_any : (b : Bool) → In id (if b then ids else ids ++ key ∷ [])
    by_any true = h
    by_any false = in_left id ids (key ∷ []) h

key_new : (key : BlockId) (ids : List BlockId) → In key (insert_key same_id ids key)
key_new key ids = by_any (list_any (same_id key) ids) refl
  where
    by_any : (b : Bool) → list_any (same_id key) ids ≡ b → In key (if b then ids else ids ++ key ∷ [])
    by_any true e = any_in key ids e
    by_any false e = in_right key ids (key ∷ []) (inl refl)

key_from : (id key : BlockId) (ids : List BlockId) → In id (insert_key same_id ids key) → In id ids ⊎ (key ≡ id)
key_from id key ids h = by_any (list_any (same_id key) ids) h
  where
    by_any : (b : Bool) → In id (if b then ids else ids ++ key ∷ []) → In id ids ⊎ (key ≡ id)
    by_any true i = inl i
    by_any false i = in_last id key ids i

all_old : (id : BlockId) (more ids : List BlockId) → In id ids → In id (insert_all same_id ids more)
all_old id [] ids h = h
all_old id (key ∷ more) ids h = all_old id more (insert_key same_id ids key) (key_old id key ids h)

all_new : (id : BlockId) (more ids : List BlockId) → In id more → In id (insert_all same_id ids more)
all_new id [] ids h = absurd h
all_new id (key ∷ more) ids h = elim h [
  | inl e ↦ all_old id more (insert_key same_id ids key) (subst (λ (k : BlockId). In k (insert_key same_id ids key)) e (key_new key ids))
  | inr r ↦ all_new id more (insert_key same_id ids key) r
]

all_from : (id : BlockId) (more ids : List BlockId) → In id (insert_all same_id ids more) → In id ids ⊎ In id more
all_from id [] ids h = inl h
all_from id (key ∷ more) ids h = elim (all_from id more (insert_key same_id ids key) h) [
  | inl a ↦ elim (key_from id key ids a) [ inl o ↦ inl o | inr n ↦ inr (inl n) ]
  | inr b ↦ inr (inr b)
]

-- Sources of edges

abbrev edge : BlockId → BlockId → Edge
edge from to = record { from = from; to = to }

source_in : (from id : BlockId) (edges : List Edge) → In (edge from id) edges → In from (sources edges id)
source_in from id [] h = absurd h
source_in from id (e ∷ edges) h = by_head (same_id id e.to) refl h (source_in from id edges)
  where
    by_head : (b : Bool) → same_id id e.to ≡ b → In (edge from id) (e ∷ edges) → (In (edge from id) edges → In from (sources edges id)) → In from (sources (e ∷ edges) id)
    by_head true is i rest = rw is (elim i [ inl same ↦ inl (ap (λ (x : Edge). x.from) same) | inr r ↦ inr (rest r) ])
    by_head false is i rest = rw is (elim i [
      | inl same ↦ absurd (let hit : same_id id e.to ≡ true = ap (λ (x : Edge). same_id id x.to) same ∙ self_same id in (let never : true ≡ false = sym hit ∙ is in cc))
      | inr r ↦ rest r
    ])

in_source : (from id : BlockId) (edges : List Edge) → In from (sources edges id) → In (edge from id) edges
in_source from id [] h = absurd h
in_source from id (e ∷ edges) h = by_head (same_id id e.to) refl h (in_source from id edges)
  where
    by_head : (b : Bool) → same_id id e.to ≡ b → In from (sources (e ∷ edges) id) → (In from (sources edges id) → In (edge from id) edges) → In (edge from id) (e ∷ edges)
    by_head true is i rest =
        let i1 : (e.from ≡ from) ⊎ In from (sources edges id) = rw is at i in
        elim i1 [
          | inl same ↦ inl (let ends : e.to ≡ id = sym (one_id id e.to is) in (λ j. edge (same j) (ends j)))
          | inr r ↦ inr (rest r)
        ]
    by_head false is i rest = let i1 : In from (sources edges id) = rw is at i in inr (rest i1)

-- The invariant of the walk

-- `to` is a successor of block `from` of the graph.
record Leads (graph : List Pair) (from to : BlockId) : Type 0 where
  block : BasicBlock
  found : block_at graph from ≡ Some block
  leads : In to (successor_ids block.terminal)

to_leads : (graph : List Pair) (from to : BlockId) → LeadsTo graph from to → Leads graph from to
to_leads graph from to h = record { block = h.block; found = h.found; leads = any_in to (successor_ids h.block.terminal) h.leads }

from_leads : (graph : List Pair) (from to : BlockId) → Leads graph from to → LeadsTo graph from to
from_leads graph from to h = record { block = h.block; found = h.found; leads = in_any to (successor_ids h.block.terminal) h.leads }

module _ (graph : List Pair) (entry : BlockId) where
  reaches_next : (from to : BlockId) → IsReached graph entry from → LeadsTo graph from to → IsReached graph entry to
  reaches_next from to r h = Goes from to h.block r h.found h.leads

  record Walking (work : List Edge) (trail : Trail) : Type 0 where
    work_from : (e : Edge) → In e work → In e.from trail.seen
    work_leads : (e : Edge) → In e work → Leads graph e.from e.to
    edges_from : (e : Edge) → In e trail.edges → In e.from trail.seen
    edges_lead : (e : Edge) → In e trail.edges → Leads graph e.from e.to
    begun : In entry trail.seen
    reached : (id : BlockId) → In id trail.seen → IsReached graph entry id
    all : (from to : BlockId) (block : BasicBlock) → In from trail.seen → Leads graph from to → block_at graph to ≡ Some block
        → (In (edge from to) trail.edges × In to trail.seen) ⊎ In (edge from to) work

  misses : (e : Edge) (es : List Edge) (trail : Trail) → block_at graph e.to ≡ None → Walking (e ∷ es) trail → Walking es trail
  misses e es trail gone w = record {
    work_from = λ x h. w.work_from x (inr h);
    work_leads = λ x h. w.work_leads x (inr h);
    edges_from = w.edges_from;
    edges_lead = w.edges_lead;
    begun = w.begun;
    reached = w.reached;
    all = λ from to block seen leads there. elim (w.all from to block seen leads there) [
      | inl done ↦ inl done
      | inr left ↦ elim left [
        | inl first ↦ absurd (let ends : e.to ≡ to = ap (λ (x : Edge). x.to) first in let never : None ≡ Some block = sym gone ∙ ap (block_at graph) ends ∙ there in cc)
        | inr later ↦ inr later
      ]
    ];
  }

  follows_edge : (e : Edge) (es : List Edge) (trail : Trail) (x : Edge) → Walking (e ∷ es) trail → In x (trail.edges ++ e ∷ []) → In x (e ∷ es) ⊎ In x trail.edges
  follows_edge e es trail x w h = elim (in_last x e trail.edges h) [ inl old ↦ inr old | inr new ↦ inl (inl new) ]

  meets : (e : Edge) (es : List Edge) (trail : Trail) → In e.to trail.seen → Walking (e ∷ es) trail → Walking es (followed e trail)
  meets e es trail met w = record {
    work_from = λ x h. w.work_from x (inr h);
    work_leads = λ x h. w.work_leads x (inr h);
    edges_from = λ x h. elim (follows_edge e es trail x w h) [ inl a ↦ w.work_from x a | inr b ↦ w.edges_from x b ];
    edges_lead = λ x h. elim (follows_edge e es trail x w h) [ inl a ↦ w.work_leads x a | inr b ↦ w.edges_lead x b ];
    begun = w.begun;
    reached = w.reached;
    all = λ from to block seen leads there. elim (w.all from to block seen leads there) [
      | inl done ↦ inl (in_left (edge from to) trail.edges (e ∷ []) done.0, done.1)
      | inr left ↦ elim left [
        | inl first ↦ inl (in_right (edge from to) trail.edges (e ∷ []) (inl first), subst (λ (id : BlockId). In id trail.seen) (ap (λ (x : Edge). x.to) first) met)
        | inr later ↦ inr later
      ]
    ];
  }

  -- The edges from a block that is visited.
  own_from : (id : BlockId) (block : BasicBlock) (x : Edge) → In x (edges_from id block) → id ≡ x.from
  own_from id block x h = let m : (to : BlockId) × In to (distinct_ids block.terminal) × (edge id to ≡ x) = from_map (edge id) x (distinct_ids block.terminal) h in ap (λ (y : Edge). y.from) m.2

  own_leads : (id : BlockId) (block : BasicBlock) (x : Edge) → block_at graph id ≡ Some block → In x (edges_from id block) → Leads graph x.from x.to
  own_leads id block x found h =
      let m : (to : BlockId) × In to (distinct_ids block.terminal) × (edge id to ≡ x) = from_map (edge id) x (distinct_ids block.terminal) h in
      let first : Leads graph id m.0 = record {
        block = block;
        found = found;
        leads = elim (all_from m.0 (successor_ids block.terminal) [] m.1) [ inl never ↦ absurd never | inr new ↦ new ];
      } in
      subst (λ (y : Edge). Leads graph y.from y.to) m.2 first

  visits : (e : Edge) (es : List Edge) (block : BasicBlock) (trail : Trail) → block_at graph e.to ≡ Some block → Walking (e ∷ es) trail
      → Walking (edges_from e.to block ++ es) (visited e.to (followed e trail))
  visits e es block trail found w = record {
    work_from = λ x h. elim (in_either x (edges_from e.to block) es h) [
      | inl mine ↦ subst (λ (id : BlockId). In id (trail.seen ++ e.to ∷ [])) (own_from e.to block x mine) here
      | inr later ↦ old x.from (w.work_from x (inr later))
    ];
    work_leads = λ x h. elim (in_either x (edges_from e.to block) es h) [ inl mine ↦ own_leads e.to block x found mine | inr later ↦ w.work_leads x (inr later) ];
    edges_from = λ x h. old x.from (elim (follows_edge e es trail x w h) [ inl a ↦ w.work_from x a | inr b ↦ w.edges_from x b ]);
    edges_lead = λ x h. elim (follows_edge e es trail x w h) [ inl a ↦ w.work_leads x a | inr b ↦ w.edges_lead x b ];
    begun = old entry w.begun;
    reached = λ id h. elim (in_last id e.to trail.seen h) [
      | inl before ↦ w.reached id before
      | inr new ↦ subst (λ (x : BlockId). IsReached graph entry x) new (reaches_next e.from e.to (w.reached e.from (w.work_from e (inl refl))) (from_leads graph e.from e.to (w.work_leads e (inl refl))))
    ];
    all = λ from to other seen leads there. elim (in_last from e.to trail.seen seen) [
      | inl before ↦ elim (w.all from to other before leads there) [
        | inl done ↦ inl (in_left (edge from to) trail.edges (e ∷ []) done.0, old to done.1)
        | inr left ↦ elim left [
          | inl first ↦ inl (in_right (edge from to) trail.edges (e ∷ []) (inl first), subst (λ (id : BlockId). In id (trail.seen ++ e.to ∷ [])) (ap (λ (x : Edge). x.to) first) here)
          | inr later ↦ inr (in_right (edge from to) (edges_from e.to block) es later)
        ]
      ]
      | inr new ↦ inr (in_left (edge from to) (edges_from e.to block) es (mine from to leads new))
    ];
  }
    where
      here : In e.to (trail.seen ++ e.to ∷ [])
      here = in_right e.to trail.seen (e.to ∷ []) (inl refl)

      old : (id : BlockId) → In id trail.seen → In id (trail.seen ++ e.to ∷ [])
      old id h = in_left id trail.seen (e.to ∷ []) h

      mine : (from to : BlockId) → Leads graph from to → e.to ≡ from → In (edge from to) (edges_from e.to block)
      mine from to leads new =
          let same : block ≡ leads.block = (let both : Some block ≡ Some leads.block = sym found ∙ ap (block_at graph) new ∙ leads.found in cc) in
          let next : In to (successor_ids block.terminal) = subst (λ (b : BasicBlock). In to (successor_ids b.terminal)) (sym same) leads.leads in
          subst (λ (id : BlockId). In (edge id to) (edges_from e.to block)) new (in_map (edge e.to) to (distinct_ids block.terminal) (all_new to (successor_ids block.terminal) [] next))

  walked : (work : List Edge) (trail end : Trail) → Follows graph work trail end → Walking work trail → Walking [] end
  walked work trail end (Ends t) w = w
  walked work trail end (Misses e es t end1 gone rest) w = walked es t end1 rest (misses e es t gone w)
  walked work trail end (Meets e es block t end1 found met rest) w = walked es (followed e t) end1 rest (meets e es t (any_in e.to t.seen met) w)
  walked work trail end (Visits e es block t end1 found fresh rest) w = walked (edges_from e.to block ++ es) (visited e.to (followed e t)) end1 rest (visits e es block t found w)

  abbrev start : Trail
  start = record { seen = entry ∷ []; edges = [] }

  only_entry : (id : BlockId) → In id (entry ∷ []) → entry ≡ id
  only_entry id h = elim h [ inl e ↦ e | inr never ↦ absurd never ]

  begins : (o : Option BasicBlock) → block_at graph entry ≡ o → Walking (elim o [ None ↦ [] | Some block ↦ edges_from entry block ]) start
  begins None gone = record {
    work_from = λ x h. absurd h;
    work_leads = λ x h. absurd h;
    edges_from = λ x h. absurd h;
    edges_lead = λ x h. absurd h;
    begun = inl refl;
    reached = λ id h. subst (λ (x : BlockId). IsReached graph entry x) (only_entry id h) Begins;
    all = λ from to block seen leads there. absurd (let never : None ≡ Some leads.block = sym gone ∙ ap (block_at graph) (only_entry from seen) ∙ leads.found in cc);
  }
  begins (Some block) found = record {
    work_from = λ x h. inl (own_from entry block x h);
    work_leads = λ x h. own_leads entry block x found h;
    edges_from = λ x h. absurd h;
    edges_lead = λ x h. absurd h;
    begun = inl refl;
    reached = λ id h. subst (λ (x : BlockId). IsReached graph entry x) (only_entry id h) Begins;
    all = λ from to other seen leads there.
        let first : entry ≡ from = only_entry from seen in
        let same : block ≡ leads.block = (let both : Some block ≡ Some leads.block = sym found ∙ ap (block_at graph) first ∙ leads.found in cc) in
        let next : In to (successor_ids block.terminal) = subst (λ (b : BasicBlock). In to (successor_ids b.terminal)) (sym same) leads.leads in
        inr (subst (λ (id : BlockId). In (edge id to) (edges_from entry block)) first (in_map (edge entry) to (distinct_ids block.terminal) (all_new to (successor_ids block.terminal) [] next)));
  }

  module _ (seen : List BlockId) (edges : List Edge) (w : Walking [] (record { seen = seen; edges = edges })) where
    -- A block that the entry reaches was visited.
    was_seen : (id : BlockId) (block : BasicBlock) → IsReached graph entry id → block_at graph id ≡ Some block → In id seen
    was_seen id block Begins found = w.begun
    was_seen id block (Goes before id1 from r there any) found =
        elim (w.all before id block (was_seen before from r there) (record { block = from; found = there; leads = any_in id (successor_ids from.terminal) any }) found) [
          | inl done ↦ done.1
          | inr never ↦ absurd never
        ]

    from_source : (id from : BlockId) → In from (sources edges id) → IsReached graph entry from × LeadsTo graph from id
    from_source id from h =
        let e : In (edge from id) edges = in_source from id edges h in
        (w.reached from (w.edges_from (edge from id) e), from_leads graph from id (w.edges_lead (edge from id) e))

    to_source : (id from : BlockId) (block : BasicBlock) → block_at graph id ≡ Some block → IsReached graph entry from → LeadsTo graph from id → In from (sources edges id)
    to_source id from block found r leads =
        elim (w.all from id block (was_seen from leads.block r leads.found) (to_leads graph from id leads) found) [
          | inl done ↦ source_in from id edges done.0
          | inr never ↦ absurd never
        ]

-- A block that was given predecessors.
record Given (edges : List Edge) (graph : List Pair) (id : BlockId) (block : BasicBlock) : Type 0 where
  old : BasicBlock
  found : block_at graph id ≡ Some old
  preds : block.preds ≡ sources edges id

given : (edges : List Edge) (graph : List Pair) (id : BlockId) (block : BasicBlock) → block_at (with_predecessors edges graph) id ≡ Some block → Given edges graph id block
given edges [] id block at = absurd (cc)
given edges (p ∷ graph) id block at = by_head (same_id id p.0) refl at (given edges graph id block)
  where
    by_head : (b : Bool) → same_id id p.0 ≡ b → block_at (with_predecessors edges (p ∷ graph)) id ≡ Some block
        → (block_at (with_predecessors edges graph) id ≡ Some block → Given edges graph id block) → Given edges (p ∷ graph) id block
    by_head true is at1 rest =
        let some : Some (record p.1 { preds = sources edges p.0 }) ≡ Some block = rw is at at1 in
        let same : record p.1 { preds = sources edges p.0 } ≡ block = cc in
        record {
          old = p.1;
          found = rw is refl;
          preds = sym (ap (λ (b : BasicBlock). b.preds) same) ∙ ap (sources edges) (sym (one_id id p.0 is));
        }
    by_head false is at1 rest =
        let later : block_at (with_predecessors edges graph) id ≡ Some block = rw is at at1 in
        let g : Given edges graph id block = rest later in
        record { old = g.old; found = rw is g.found; preds = g.preds }

-- At each block, the predecessors are the blocks that the entry reaches and that lead to it.
pub predecessors_reached : (graph marked : List Pair) (entry : BlockId) → IsMarked graph entry marked → PredecessorsReached graph entry marked
predecessors_reached graph marked entry m id block found from =
    let edges : List Edge = m.edges in
    let seen : List BlockId = m.walk.seen in
    let w : Walking graph entry [] (record { seen = seen; edges = edges }) = walked graph entry _ _ _ m.walk.walk (begins graph entry (block_at graph entry) refl) in
    let g : Given edges graph id block = given edges graph id block (ap (λ (t : List Pair). block_at t id) (sym m.blocks) ∙ found) in (
      λ h.
          let h1 : In from (sources edges id) = subst (λ (l : List BlockId). In from l) g.preds (contains_in from block.preds h) in
          from_source graph entry seen edges w id from h1,
      λ h. in_contains from block.preds (subst (λ (l : List BlockId). In from l) (sym g.preds) (to_source graph entry seen edges w id from g.old g.found h.0 h.1)),
    )
