-- The lists of sources, one for each block.
use Rattle.std.proofs.Common.{◌≡◌, ℕ, zero, suc, ◌+◌, ◌<◌, Bool, true, false, if◌then◌else◌, Option, List, [], ◌∷◌, ◌++◌, length, take, position, slice_get, slice_set, Some, None, ap, sym, ◌∙◌, refl, arith, add-one, eq-eqb}
use Rattle.std.specs.List.{list_any}
use Rattle.std.specs.Map.{keys_of, values_of, lookup_key}
use Rattle.indexmap.proofs.MapLemmas.{Found-position, Missing-position}
use Rattle.indexmap.specs.IndexSet.{insert_key}
use Rattle.rl_base.proofs.DistinctLists.{distinct_tail}
use Rattle.rl_base.specs.declared.ids.BlockId.{BlockId}
use Rattle.rl_hir.specs.Blocks.{Pair, HaveOwnIds, block_at, ids, same_id, with_block_at}
use Rattle.rl_hir.specs.declared.function.BasicBlock.{BasicBlock}
use Rattle.rl_order.proofs.Follows.{one_id}
use Rattle.rl_order.specs.PredecessorWalk.{IsMarked, WalksAlong, source_lists, sources, with_predecessors}
use Rattle.rl_order.specs.Walked.{with_lists, with_source}
use Rattle.rl_order.specs.declared.predecessors.Edge.{Edge}

-- The ids of two indices differ.
pub apart : (p : Pair) (graph : List Pair) (index : ℕ) (id : BlockId) → HaveOwnIds (p ∷ graph) → slice_get (ids graph) index ≡ Some id.0 → (test : Bool) → same_id id p.0 ≡ test → test ≡ false
apart p graph index id own at true is =
    let same : id ≡ p.0 = one_id id p.0 is in
    absurd (let never : 0 ≡ suc index = own 0 (suc index) p.0.0 refl (at ∙ ap (λ (x : BlockId). Some x.0) same) in omega arith)
apart p graph index id own at false is = refl

-- The id of a block is not among those before it.
pub fresh_id : (graph : List Pair) (index : ℕ) (id : BlockId) → HaveOwnIds graph → slice_get (ids graph) index ≡ Some id.0 → list_any (same_id id) (take index (keys_of graph)) ≡ false
fresh_id [] index id own at = absurd (cc)
fresh_id (p ∷ graph) zero id own at = refl
fresh_id (p ∷ graph) (suc index) id own at =
    let other : same_id id p.0 ≡ false = (let t : (b : Bool) → same_id id p.0 ≡ b → b ≡ false = apart p graph index id own at in t (same_id id p.0) refl) in
    rw other (fresh_id graph index id (distinct_tail p.0.0 (ids graph) own) at)

pub id_at : (graph : List Pair) (index : ℕ) (p : Pair) → slice_get graph index ≡ Some p → slice_get (ids graph) index ≡ Some p.0.0
id_at [] index p at = absurd (cc)
id_at (q ∷ graph) zero p at = let same : q ≡ p = cc in ap (λ (r : Pair). Some r.0.0) same
id_at (q ∷ graph) (suc index) p at = id_at graph index p at

key_more : (graph : List Pair) (index : ℕ) (p : Pair) → slice_get graph index ≡ Some p → take (suc index) (keys_of graph) ≡ take index (keys_of graph) ++ p.0 ∷ []
key_more [] index p at = absurd (cc)
key_more (q ∷ graph) zero p at = let same : q ≡ p = cc in ap (λ (r : Pair). r.0 ∷ []) same
key_more (q ∷ graph) (suc index) p at = ap (λ (t : List BlockId). q.0 ∷ t) (key_more graph index p at)

-- The index of ids has one more.
pub one_more_key : (graph : List Pair) (index : ℕ) (p : Pair) (keys keys1 : List BlockId) → HaveOwnIds graph → slice_get graph index ≡ Some p
    → keys1 ≡ insert_key same_id keys p.0 → keys ≡ take index (keys_of graph) → keys1 ≡ take (index + 1) (keys_of graph)
one_more_key graph index p keys keys1 own at is before =
    let fresh : list_any (same_id p.0) keys ≡ false = ap (list_any (same_id p.0)) before ∙ fresh_id graph index p.0 own (id_at graph index p at) in
    rw add-one (is ∙ ap (λ (b : Bool). if b then keys else keys ++ p.0 ∷ []) fresh ∙ ap (λ (t : List BlockId). t ++ p.0 ∷ []) before ∙ sym (key_more graph index p at))

-- A further edge

source_hit : (e : Edge) (done : List Edge) (id : BlockId) → e.to ≡ id → sources (done ++ e ∷ []) id ≡ sources done id ++ e.from ∷ []
source_hit e [] id is = let hit : same_id id e.to ≡ true = eq-eqb id.0 e.to.0 (ap (λ (x : BlockId). x.0) (sym is)) in rw hit refl
source_hit e (d ∷ done) id is = by_head (same_id id d.to) refl (source_hit e done id is)
  where
    by_head : (b : Bool) → same_id id d.to ≡ b → sources (done ++ e ∷ []) id ≡ sources done id ++ e.from ∷ [] → sources (d ∷ done ++ e ∷ []) id ≡ sources (d ∷ done) id ++ e.from ∷ []
    by_head true h rest = rw h (ap (λ (t : List BlockId). d.from ∷ t) rest)
    by_head false h rest = rw h rest

source_miss : (e : Edge) (done : List Edge) (id : BlockId) → same_id e.to id ≡ false → sources (done ++ e ∷ []) id ≡ sources done id
source_miss e [] id is = by_head (same_id id e.to) refl
  where
    by_head : (b : Bool) → same_id id e.to ≡ b → sources (e ∷ []) id ≡ []
    by_head true h = absurd (let hit : same_id e.to id ≡ true = eq-eqb e.to.0 id.0 (ap (λ (x : BlockId). x.0) (sym (one_id id e.to h))) in let never : true ≡ false = sym hit ∙ is in cc)
    by_head false h = rw h refl
source_miss e (d ∷ done) id is = by_head (same_id id d.to) refl (source_miss e done id is)
  where
    by_head : (b : Bool) → same_id id d.to ≡ b → sources (done ++ e ∷ []) id ≡ sources done id → sources (d ∷ done ++ e ∷ []) id ≡ sources (d ∷ done) id
    by_head true h rest = rw h (ap (λ (t : List BlockId). d.from ∷ t) rest)
    by_head false h rest = rw h rest

-- No block has the id that the edge leads to.
none_hit : (graph : List Pair) (e : Edge) (done : List Edge) → block_at graph e.to ≡ None → source_lists (done ++ e ∷ []) graph ≡ source_lists done graph
none_hit [] e done gone = refl
none_hit (p ∷ graph) e done gone = by_head (same_id e.to p.0) refl gone (none_hit graph e done)
  where
    by_head : (b : Bool) → same_id e.to p.0 ≡ b → block_at (p ∷ graph) e.to ≡ None → (block_at graph e.to ≡ None → source_lists (done ++ e ∷ []) graph ≡ source_lists done graph)
        → source_lists (done ++ e ∷ []) (p ∷ graph) ≡ source_lists done (p ∷ graph)
    by_head true h at rest = absurd (let some : Some p.1 ≡ None = rw h at at in cc)
    by_head false h at rest =
        let later : block_at graph e.to ≡ None = rw h at at in
        (λ j. source_miss e done p.0 h j ∷ rest later j)

none_later : (graph : List Pair) (e : Edge) (done : List Edge) → ((index : ℕ) (test : Bool) → slice_get (ids graph) index ≡ Some e.to.0 → ⊥) → source_lists (done ++ e ∷ []) graph ≡ source_lists done graph
none_later [] e done gone = refl
none_later (p ∷ graph) e done gone = by_head (same_id e.to p.0) refl (none_later graph e done (λ index test at. gone (suc index) test at))
  where
    by_head : (b : Bool) → same_id e.to p.0 ≡ b → source_lists (done ++ e ∷ []) graph ≡ source_lists done graph → source_lists (done ++ e ∷ []) (p ∷ graph) ≡ source_lists done (p ∷ graph)
    by_head true h rest = absurd (gone 0 true (ap (λ (x : BlockId). Some x.0) (sym (one_id e.to p.0 h))))
    by_head false h rest = (λ j. source_miss e done p.0 h j ∷ rest j)

-- The block at an index has the id that the edge leads to.
one_hit : (graph : List Pair) (index : ℕ) (e : Edge) (done : List Edge) → HaveOwnIds graph → slice_get (ids graph) index ≡ Some e.to.0
    → with_source (Some index) e.from (source_lists done graph) ≡ source_lists (done ++ e ∷ []) graph
one_hit [] index e done own at = absurd (cc)
one_hit (p ∷ graph) zero e done own at =
    let same : e.to ≡ p.0 = (let n : p.0.0 ≡ e.to.0 = cc in ap (λ (n : ℕ). record { 0 = n }) (sym n)) in
    (λ j. sym (source_hit e done p.0 same) j ∷ sym (none_later graph e done (λ index test later. (let never : 0 ≡ suc index = own 0 (suc index) e.to.0 at later in omega arith))) j)
one_hit (p ∷ graph) (suc index) e done own at =
    let other : same_id e.to p.0 ≡ false = (let t : (b : Bool) → same_id e.to p.0 ≡ b → b ≡ false = apart p graph index e.to own at in t (same_id e.to p.0) refl) in
    by_list (slice_get (source_lists done graph) index) refl (one_hit graph index e done (distinct_tail p.0.0 (ids graph) own) at) (source_miss e done p.0 other)
  where
    by_list : (o : Option (List BlockId)) → slice_get (source_lists done graph) index ≡ o
        → with_source (Some index) e.from (source_lists done graph) ≡ source_lists (done ++ e ∷ []) graph
        → sources (done ++ e ∷ []) p.0 ≡ sources done p.0
        → with_source (Some (suc index)) e.from (source_lists done (p ∷ graph)) ≡ source_lists (done ++ e ∷ []) (p ∷ graph)
    by_list (Some list) is rest first =
        let rest1 : slice_set (source_lists done graph) index (list ++ e.from ∷ []) ≡ source_lists (done ++ e ∷ []) graph = rw (is, with_source) at rest in
        rw (is, with_source) (λ j. sym first j ∷ rest1 j)
    by_list None is rest first =
        let rest1 : source_lists done graph ≡ source_lists (done ++ e ∷ []) graph = rw (is, with_source) at rest in
        rw (is, with_source) (λ j. sym first j ∷ rest1 j)

pub passes : (graph : List Pair) (to key : BlockId) → lookup_key (same_id to) graph ≡ Some key → to ≡ key
passes [] to key h = absurd (cc)
passes (p ∷ graph) to key h = by_head (same_id to p.0) refl h (passes graph to key)
  where
    by_head : (b : Bool) → same_id to p.0 ≡ b → lookup_key (same_id to) (p ∷ graph) ≡ Some key → (lookup_key (same_id to) graph ≡ Some key → to ≡ key) → to ≡ key
    by_head true is at rest = let first : p.0 ≡ key = (let some : Some p.0 ≡ Some key = rw is at at in cc) in one_id to p.0 is ∙ first
    by_head false is at rest = rest (rw is at at)

pub get_keys : (graph : List Pair) (index : ℕ) → index < length graph → (key : BlockId) × (slice_get (keys_of graph) index ≡ Some key) × (slice_get (ids graph) index ≡ Some key.0)
get_keys [] index within = absurd (omega arith)
get_keys (p ∷ graph) zero within = (p.0, refl, refl)
get_keys (p ∷ graph) (suc index) within = get_keys graph index (omega arith)

-- A further edge is counted at the index of the block that it leads to.
pub one_more_source : (graph : List Pair) (e : Edge) (done : List Edge) (index : Option ℕ) → HaveOwnIds graph → index ≡ position (same_id e.to) (keys_of graph)
    → with_source index e.from (source_lists done graph) ≡ source_lists (done ++ e ∷ []) graph
one_more_source graph e done None own is = sym (none_hit graph e done (Missing-position (same_id e.to) graph (sym is)).value)
one_more_source graph e done (Some index) own is =
    let f = Found-position (same_id e.to) graph index (sym is) in
    let k : (key : BlockId) × (slice_get (keys_of graph) index ≡ Some key) × (slice_get (ids graph) index ≡ Some key.0) = get_keys graph index f.within in
    let same : e.to ≡ k.0 = passes graph e.to k.0 (f.key ∙ k.1) in
    one_hit graph index e done own (k.2 ∙ ap (λ (x : BlockId). Some x.0) (sym same))

-- A further list is empty.
pub one_more_list : (graph : List Pair) (count : ℕ) → count < length graph → take (count + 1) (source_lists [] graph) ≡ take count (source_lists [] graph) ++ [] ∷ []
one_more_list graph count within = rw add-one (more graph count within)
  where
    more : (pairs : List Pair) (n : ℕ) → n < length pairs → take (suc n) (source_lists [] pairs) ≡ take n (source_lists [] pairs) ++ [] ∷ []
    more [] n h = absurd (omega arith)
    more (p ∷ pairs) zero h = refl
    more (p ∷ pairs) (suc n) h = ap (λ (t : List (List BlockId)). [] ∷ t) (more pairs n (omega arith))

-- The lists as predecessors

pub last_list : (now after : List Pair) (rest : List (List BlockId)) (list : List BlockId) (block : BasicBlock) → slice_get (values_of now) (length rest) ≡ Some block
    → after ≡ with_block_at now (length rest) (record block { preds = list }) → with_lists after rest ≡ with_lists now (rest ++ list ∷ [])
last_list now after rest list block at is = ap (λ (t : List Pair). with_lists t rest) is ∙ put now rest at
  where
    none : (pairs : List Pair) → with_lists pairs [] ≡ pairs
    none [] = refl
    none (p ∷ pairs) = refl

    put : (pairs : List Pair) (lists : List (List BlockId)) → slice_get (values_of pairs) (length lists) ≡ Some block
        → with_lists (with_block_at pairs (length lists) (record block { preds = list })) lists ≡ with_lists pairs (lists ++ list ∷ [])
    put [] lists at1 = absurd (cc)
    put (p ∷ pairs) [] at1 =
        let same : block ≡ p.1 = cc in
        (λ j. (p.0, record (same j) { preds = list }) ∷ sym (none pairs) j)
    put (p ∷ pairs) (l ∷ lists) at1 = ap (λ (t : List Pair). (p.0, record p.1 { preds = l }) ∷ t) (put pairs lists at1)

pub no_lists : (pairs : List Pair) (lists : List (List BlockId)) → lists ≡ [] → with_lists pairs lists ≡ pairs
no_lists [] lists is = refl
no_lists (p ∷ pairs) lists is = ap (λ (t : List (List BlockId)). with_lists (p ∷ pairs) t) is

pub all_lists : (edges : List Edge) (pairs : List Pair) → with_lists pairs (source_lists edges pairs) ≡ with_predecessors edges pairs
all_lists edges [] = refl
all_lists edges (p ∷ pairs) = ap (λ (t : List Pair). (p.0, record p.1 { preds = sources edges p.0 }) ∷ t) (all_lists edges pairs)

pub length-lists : (edges : List Edge) (pairs : List Pair) → length (source_lists edges pairs) ≡ length pairs
length-lists edges [] = refl
length-lists edges (p ∷ pairs) = ap suc (length-lists edges pairs)

pub is_marked : (graph marked : List Pair) (entry : BlockId) (edges : List Edge) (lists : List (List BlockId)) → WalksAlong graph entry edges → lists ≡ source_lists edges graph
    → marked ≡ with_lists graph lists → IsMarked graph entry marked
is_marked graph marked entry edges lists walk is put = record {
  edges = edges;
  walk = walk;
  blocks = put ∙ ap (λ (t : List (List BlockId)). with_lists graph t) is ∙ all_lists edges graph;
}
