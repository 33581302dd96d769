-- Blocks that are changed by their indices, and blocks that stay.
use Rattle.std.proofs.Common.{◌≡◌, ℕ, zero, suc, ◌+◌, ◌<◌, inl, inr, Bool, true, false, not, ◌&&◌, if◌then◌else◌, Option, List, [], ◌∷◌, ◌++◌, length, map, filter, fold, get_or, drop, position, IfSome, slice_get, Some, None, ap, sym, ◌∙◌, refl, subst, arith, add-one, append_assoc, eq-eqb}
use Rattle.std.specs.List.{list_any}
use Rattle.std.proofs.Math.Seq.{drop-cons}
use Rattle.std.specs.Option.{option_to_list}
use Rattle.std.specs.Map.{keys_of, values_of}
use Rattle.std.proofs.lemmas.List.Folds.{list_any-append}
use Rattle.indexmap.proofs.MapLemmas.{Found-position, Missing-position}
use Rattle.indexmap.specs.IndexSet.{insert_key}
use Rattle.rl_base.proofs.Bools.{and_true, or_false, or_true}
use Rattle.rl_base.specs.Distinct.{AreDistinct}
use Rattle.rl_base.proofs.DistinctLists.{distinct_tail}
use Rattle.rl_base.specs.declared.ids.BlockId.{BlockId}
use Rattle.rl_hir.specs.Blocks.{HaveOwnIds, Pair, block_at, ids, kept, same_id, with_block_at}
use Rattle.rl_hir.specs.declared.function.BasicBlock.{BasicBlock}
use Rattle.rl_order.proofs.Follows.{one_id}
use Rattle.rl_order.proofs.TakenBlocks.{keys_put}
use Rattle.rl_order.proofs.PredecessorsReached.{In}
use Rattle.rl_order.proofs.SourceLists.{apart, get_keys, passes}
use Rattle.rl_order.specs.Kept.{changed_at}
use Rattle.rl_order.specs.Removals.{dead_tries, dead_try, is_alone, is_lost, with_changed, without_predecessor, without_try, ended_by_goto}
use Rattle.rl_order.specs.TrySteps.{has_alone}
use Rattle.rl_order.specs.declared.tries.DeadTry.{DeadTry}

-- The pair at an index

drop_pair1 : (graph : List Pair) (index : ℕ) (p : Pair) → slice_get graph index ≡ Some p → drop index graph ≡ p ∷ drop (suc index) graph
drop_pair1 [] index p at = absurd (cc)
drop_pair1 (q ∷ graph) zero p at = let same : q ≡ p = cc in ap (λ (r : Pair). r ∷ graph) same
drop_pair1 (q ∷ graph) (suc index) p at = drop_pair1 graph index p at

pub drop_pair : (graph : List Pair) (index : ℕ) (p : Pair) → slice_get graph index ≡ Some p → drop index graph ≡ p ∷ drop (index + 1) graph
drop_pair graph index p at = rw add-one (drop_pair1 graph index p at)

-- The dead `try` at an index is listed behind those before it.
pub next_try : (there : BlockId → Bool) (graph : List Pair) (index : ℕ) (p : Pair) → drop index graph ≡ p ∷ drop (index + 1) graph
    → (dead : Option DeadTry) → dead ≡ dead_try there p.0 p.1.terminal.kind → (tries listed : List DeadTry) → listed ≡ tries ++ option_to_list dead
    → listed ++ dead_tries there (drop (index + 1) graph) ≡ tries ++ dead_tries there (drop index graph)
next_try there graph index p at dead tells tries listed is =
    ap (λ (t : List DeadTry). t ++ dead_tries there (drop (index + 1) graph)) is
    ∙ append_assoc tries (option_to_list dead) (dead_tries there (drop (index + 1) graph))
    ∙ ap (λ (o : Option DeadTry). tries ++ (option_to_list o ++ dead_tries there (drop (index + 1) graph))) tells
    ∙ ap (λ (t : List Pair). tries ++ dead_tries there t) (sym at)

-- Changes by indices

pub keys_changed : (id : BlockId) (change : BasicBlock → BasicBlock) (graph : List Pair) → keys_of (with_changed id change graph) ≡ keys_of graph
keys_changed id change [] = refl
keys_changed id change (p ∷ graph) = ap (λ (t : List BlockId). p.0 ∷ t) (keys_changed id change graph)

-- A change at an index leaves the ids.
pub keys_changed_at : (index : Option ℕ) (change : BasicBlock → BasicBlock) (graph after : List Pair) → after ≡ changed_at index change graph
    → keys_of after ≡ keys_of graph
keys_changed_at index change graph after is = ap keys_of is ∙ by_index index
  where
    by_index : (o : Option ℕ) → keys_of (changed_at o change graph) ≡ keys_of graph
    by_index None = refl
    by_index (Some n) = by_block (slice_get (values_of graph) n)
      where
        by_block : (b : Option BasicBlock) → keys_of (elim b [ Some block ↦ with_block_at graph n (change block) | None ↦ graph ]) ≡ keys_of graph
        by_block (Some block) = keys_put graph n (change block)
        by_block None = refl

ids_of_keys : (graph : List Pair) → ids graph ≡ map (λ (k : BlockId). k.0) (keys_of graph)
ids_of_keys [] = refl
ids_of_keys (p ∷ graph) = ap (λ (t : List ℕ). p.0.0 ∷ t) (ids_of_keys graph)

pub own_by_keys : (graph now : List Pair) → keys_of now ≡ keys_of graph → HaveOwnIds graph → HaveOwnIds now
own_by_keys graph now same own =
    subst AreDistinct (ids_of_keys graph ∙ ap (λ (k : List BlockId). map (λ (x : BlockId). x.0) k) (sym same) ∙ sym (ids_of_keys now)) own

unchanged_missing : (id : BlockId) (change : BasicBlock → BasicBlock) (graph : List Pair) → block_at graph id ≡ None → graph ≡ with_changed id change graph
unchanged_missing id change [] gone = refl
unchanged_missing id change (p ∷ graph) gone = by_head (same_id id p.0) refl gone (unchanged_missing id change graph)
  where
    by_head : (b : Bool) → same_id id p.0 ≡ b → block_at (p ∷ graph) id ≡ None → (block_at graph id ≡ None → graph ≡ with_changed id change graph) → p ∷ graph ≡ with_changed id change (p ∷ graph)
    by_head true e h rest = absurd (let some : Some p.1 ≡ None = rw e at h in cc)
    by_head false e h rest = rw e (ap (λ (t : List Pair). p ∷ t) (rest (rw e at h)))

unchanged_later : (id : BlockId) (change : BasicBlock → BasicBlock) (graph : List Pair) → ((index : ℕ) → slice_get (ids graph) index ≡ Some id.0 → ⊥) → graph ≡ with_changed id change graph
unchanged_later id change [] gone = refl
unchanged_later id change (p ∷ graph) gone = by_head (same_id id p.0) refl (unchanged_later id change graph (λ index at. gone (suc index) at))
  where
    by_head : (b : Bool) → same_id id p.0 ≡ b → graph ≡ with_changed id change graph → p ∷ graph ≡ with_changed id change (p ∷ graph)
    by_head true e rest = absurd (gone 0 (ap (λ (x : BlockId). Some x.0) (sym (one_id id p.0 e))))
    by_head false e rest = rw e (ap (λ (t : List Pair). p ∷ t) rest)

one_change : (id : BlockId) (change : BasicBlock → BasicBlock) (graph : List Pair) (index : ℕ) → HaveOwnIds graph → slice_get (ids graph) index ≡ Some id.0
    → changed_at (Some index) change graph ≡ with_changed id change graph
one_change id change [] index own at = absurd (cc)
one_change id change (p ∷ graph) zero own at =
    let same : same_id id p.0 ≡ true = (let n : p.0.0 ≡ id.0 = cc in eq-eqb id.0 p.0.0 (sym n)) in
    rw same (ap (λ (t : List Pair). (p.0, change p.1) ∷ t) (unchanged_later id change graph (λ index later. (let never : 0 ≡ suc index = own 0 (suc index) id.0 at later in omega arith))))
one_change id change (p ∷ graph) (suc index) own at =
    let other : same_id id p.0 ≡ false = (let t : (b : Bool) → same_id id p.0 ≡ b → b ≡ false = apart p graph index id own at in t (same_id id p.0) refl) in
    by_block (slice_get (values_of graph) index) refl other (one_change id change graph index (distinct_tail p.0.0 (ids graph) own) at)
  where
    by_block : (o : Option BasicBlock) → slice_get (values_of graph) index ≡ o → same_id id p.0 ≡ false → changed_at (Some index) change graph ≡ with_changed id change graph
        → changed_at (Some (suc index)) change (p ∷ graph) ≡ with_changed id change (p ∷ graph)
    by_block (Some block) is other rest =
        let rest1 : with_block_at graph index (change block) ≡ with_changed id change graph = rw (is, changed_at) at rest in
        rw (is, changed_at, other) (ap (λ (t : List Pair). p ∷ t) rest1)
    by_block None is other rest =
        let rest1 : graph ≡ with_changed id change graph = rw (is, changed_at) at rest in
        rw (is, changed_at, other) (ap (λ (t : List Pair). p ∷ t) rest1)

-- A change at the index of an id is a change of the block of the id.
pub change_there : (id : BlockId) (change : BasicBlock → BasicBlock) (graph : List Pair) (index : Option ℕ) → HaveOwnIds graph → index ≡ position (same_id id) (keys_of graph)
    → changed_at index change graph ≡ with_changed id change graph
change_there id change graph None own is = unchanged_missing id change graph (Missing-position (same_id id) graph (sym is)).value
change_there id change graph (Some index) own is =
    let f = Found-position (same_id id) graph index (sym is) in
    let k : (key : BlockId) × (slice_get (keys_of graph) index ≡ Some key) × (slice_get (ids graph) index ≡ Some key.0) = get_keys graph index f.within in
    let same : id ≡ k.0 = passes graph id k.0 (f.key ∙ k.1) in
    one_change id change graph index own (k.2 ∙ ap (λ (x : BlockId). Some x.0) (sym same))

pub preds_changed : (graph after : List Pair) (index : ℕ) (id : BlockId) (block : BasicBlock) (preds : List BlockId) → slice_get (values_of graph) index ≡ Some block
    → preds ≡ filter (λ (other : BlockId). not (same_id id other)) block.preds → after ≡ with_block_at graph index (record block { preds = preds })
    → after ≡ changed_at (Some index) (without_predecessor id) graph
preds_changed graph after index id block preds at is put = rw (at, changed_at) (put ∙ ap (λ (l : List BlockId). with_block_at graph index (record block { preds = l })) is)

-- A `try` is dropped

kept_changed : (lost : List BlockId) (id : BlockId) (change : BasicBlock → BasicBlock) (graph : List Pair) → kept lost (with_changed id change graph) ≡ with_changed id change (kept lost graph)
kept_changed lost id change [] = refl
kept_changed lost id change (p ∷ graph) = by_head (list_any (same_id p.0) lost) refl (kept_changed lost id change graph)
  where
    by_head : (b : Bool) → list_any (same_id p.0) lost ≡ b → kept lost (with_changed id change graph) ≡ with_changed id change (kept lost graph)
        → kept lost (with_changed id change (p ∷ graph)) ≡ with_changed id change (kept lost (p ∷ graph))
    by_head true e rest = rw e rest
    by_head false e rest = rw e (ap (λ (t : List Pair). (p.0, if same_id id p.0 then change p.1 else p.1) ∷ t) rest)

filter_both : (first second all : Pair → Bool) (graph : List Pair) → ((p : Pair) → In p graph → all p ≡ (first p && second p)) → filter all graph ≡ filter second (filter first graph)
filter_both first second all [] h = refl
filter_both first second all (p ∷ graph) h = by_head (first p) (second p) refl refl (h p (inl refl)) (filter_both first second all graph (λ q i. h q (inr i)))
  where
    by_head : (a b : Bool) → first p ≡ a → second p ≡ b → all p ≡ (first p && second p) → filter all graph ≡ filter second (filter first graph) → filter all (p ∷ graph) ≡ filter second (filter first (p ∷ graph))
    by_head true true e f is rest = rw (is, e, f) (ap (λ (t : List Pair). p ∷ t) rest)
    by_head true false e f is rest = rw (is, e, f) rest
    by_head false b e f is rest = rw (is, e) rest

and_false : (b : Bool) → false ≡ (b && false)
and_false true = refl
and_false false = refl

-- An id that is listed besides others.
any_insert_other : (id key : BlockId) (lost : List BlockId) → same_id id key ≡ false → list_any (same_id id) (insert_key same_id lost key) ≡ list_any (same_id id) lost
any_insert_other id key lost other = by_any (list_any (same_id key) lost)
  where
    by_any : (b : Bool) → list_any (same_id id) (if b then lost else lost ++ key ∷ []) ≡ list_any (same_id id) lost
    by_any true = refl
    by_any false = list_any-append (same_id id) lost (key ∷ []) ∙ rw other (or_false (list_any (same_id id) lost))

any_insert_same : (key : BlockId) (lost : List BlockId) → list_any (same_id key) (insert_key same_id lost key) ≡ true
any_insert_same key lost = by_any (list_any (same_id key) lost) refl
  where
    same : same_id key key ≡ true
    same = eq-eqb key.0 key.0 refl

    by_any : (b : Bool) → list_any (same_id key) lost ≡ b → list_any (same_id key) (if b then lost else lost ++ key ∷ []) ≡ true
    by_any true e = e
    by_any false e = list_any-append (same_id key) lost (key ∷ []) ∙ rw same (or_true (list_any (same_id key) lost))

in_at : (p : Pair) (graph : List Pair) → In p graph → (index : ℕ) × (slice_get (ids graph) index ≡ Some p.0.0)
in_at p [] h = absurd h
in_at p (q ∷ graph) h = elim h [
  | inl same ↦ (0, ap (λ (r : Pair). Some r.0.0) same)
  | inr rest ↦ (let i : (index : ℕ) × (slice_get (ids graph) index ≡ Some p.0.0) = in_at p graph rest in (suc i.0, i.1))
]

in_found : (p : Pair) (graph : List Pair) → HaveOwnIds graph → In p graph → block_at graph p.0 ≡ Some p.1
in_found p [] own h = absurd h
in_found p (q ∷ graph) own h = elim h [
  | inl same ↦ (let first : block_at (q ∷ graph) q.0 ≡ Some q.1 = (let e : same_id q.0 q.0 ≡ true = eq-eqb q.0.0 q.0.0 refl in rw e refl) in subst (λ (r : Pair). block_at (q ∷ graph) r.0 ≡ Some r.1) same first)
  | inr rest ↦
      (let i : (index : ℕ) × (slice_get (ids graph) index ≡ Some p.0.0) = in_at p graph rest in
      let other : same_id p.0 q.0 ≡ false = (let t : (b : Bool) → same_id p.0 q.0 ≡ b → b ≡ false = apart q graph i.0 p.0 own i.1 in t (same_id p.0 q.0) refl) in
      rw other (in_found p graph (distinct_tail q.0.0 (ids graph) own) rest))
]

-- Of blocks that are kept, the fallthrough is lost if the handler is its only predecessor.
lost_next : (dead : DeadTry) (graph : List Pair) (lost lost1 : List BlockId) (alone : Bool) → HaveOwnIds graph → alone ≡ has_alone (block_at graph dead.fallthrough) dead.handler
    → lost1 ≡ (if alone then insert_key same_id lost dead.fallthrough else lost) → kept lost1 graph ≡ filter (λ (p : Pair). not (is_lost dead p)) (kept lost graph)
lost_next dead graph lost lost1 alone own tells is =
    filter_both (λ (p : Pair). not (list_any (same_id p.0) lost)) (λ (p : Pair). not (is_lost dead p)) (λ (p : Pair). not (list_any (same_id p.0) lost1)) graph
    (λ p i. by_id p i (same_id dead.fallthrough p.0) refl)
  where
    by_alone : (p : Pair) (b : Bool) → alone ≡ b → is_alone dead.handler p.1.preds ≡ b → same_id dead.fallthrough p.0 ≡ true
        → not (list_any (same_id p.0) lost1) ≡ (not (list_any (same_id p.0) lost) && not (is_lost dead p))
    by_alone p true a e same =
        let ends : dead.fallthrough ≡ p.0 = one_id dead.fallthrough p.0 same in
        let listed : lost1 ≡ insert_key same_id lost dead.fallthrough = is ∙ ap (λ (b : Bool). if b then insert_key same_id lost dead.fallthrough else lost) a in
        let hit : list_any (same_id p.0) lost1 ≡ true =
        ap (list_any (same_id p.0)) listed ∙ subst (λ (x : BlockId). list_any (same_id x) (insert_key same_id lost dead.fallthrough) ≡ true) ends (any_insert_same dead.fallthrough lost) in
        rw (hit, same, e) (and_false (not (list_any (same_id p.0) lost)))
    by_alone p false a e same =
        let listed : lost1 ≡ lost = is ∙ ap (λ (b : Bool). if b then insert_key same_id lost dead.fallthrough else lost) a in
        rw (same, e) (ap (λ (l : List BlockId). not (list_any (same_id p.0) l)) listed ∙ sym (and_true (not (list_any (same_id p.0) lost))))

    by_listed : (p : Pair) (b : Bool) → alone ≡ b → same_id p.0 dead.fallthrough ≡ false → list_any (same_id p.0) lost1 ≡ list_any (same_id p.0) lost
    by_listed p true a other =
        ap (list_any (same_id p.0)) (is ∙ ap (λ (b : Bool). if b then insert_key same_id lost dead.fallthrough else lost) a) ∙ any_insert_other p.0 dead.fallthrough lost other
    by_listed p false a other = ap (list_any (same_id p.0)) (is ∙ ap (λ (b : Bool). if b then insert_key same_id lost dead.fallthrough else lost) a)

    flipped : (p : Pair) (b : Bool) → same_id p.0 dead.fallthrough ≡ b → same_id dead.fallthrough p.0 ≡ false → b ≡ false
    flipped p true e other = absurd (let hit : same_id dead.fallthrough p.0 ≡ true = eq-eqb dead.fallthrough.0 p.0.0 (ap (λ (x : BlockId). x.0) (sym (one_id p.0 dead.fallthrough e))) in let never : true ≡ false = sym hit ∙ other in cc)
    flipped p false e other = refl

    by_id : (p : Pair) → In p graph → (b : Bool) → same_id dead.fallthrough p.0 ≡ b → not (list_any (same_id p.0) lost1) ≡ (not (list_any (same_id p.0) lost) && not (is_lost dead p))
    by_id p i true same =
        let ends : p.0 ≡ dead.fallthrough = sym (one_id dead.fallthrough p.0 same) in
        let found : block_at graph dead.fallthrough ≡ Some p.1 = ap (block_at graph) (sym ends) ∙ in_found p graph own i in
        let same_test : alone ≡ is_alone dead.handler p.1.preds = tells ∙ ap (λ (o : Option BasicBlock). has_alone o dead.handler) found in
        by_alone p (is_alone dead.handler p.1.preds) same_test refl same
    by_id p i false other =
        let other1 : same_id p.0 dead.fallthrough ≡ false = flipped p (same_id p.0 dead.fallthrough) refl other in
        rw other (ap not (by_listed p alone refl other1) ∙ sym (and_true (not (list_any (same_id p.0) lost))))

-- The steps of the code drop a `try` from the blocks that are kept.
pub try_dropped : (dead : DeadTry) (graph after last : List Pair) (lost lost1 : List BlockId) (alone : Bool) → HaveOwnIds graph → after ≡ with_changed dead.id (ended_by_goto dead.block) graph
    → alone ≡ has_alone (block_at after dead.fallthrough) dead.handler → lost1 ≡ (if alone then insert_key same_id lost dead.fallthrough else lost)
    → last ≡ with_changed dead.fallthrough (without_predecessor dead.handler) after → kept lost1 last ≡ without_try dead (kept lost graph)
try_dropped dead graph after last lost lost1 alone own first tells is second =
    let keys : keys_of after ≡ keys_of graph = ap keys_of first ∙ keys_changed dead.id (ended_by_goto dead.block) graph in
    let moved : kept lost after ≡ with_changed dead.id (ended_by_goto dead.block) (kept lost graph) = ap (kept lost) first ∙ kept_changed lost dead.id (ended_by_goto dead.block) graph in
    ap (kept lost1) second
    ∙ kept_changed lost1 dead.fallthrough (without_predecessor dead.handler) after
    ∙ ap (with_changed dead.fallthrough (without_predecessor dead.handler)) (lost_next dead after lost lost1 alone (own_by_keys graph after keys own) tells is)
    ∙ ap (λ (t : List Pair). with_changed dead.fallthrough (without_predecessor dead.handler) (filter (λ (p : Pair). not (is_lost dead p)) t)) moved

pub length-changed : (id : BlockId) (change : BasicBlock → BasicBlock) (graph : List Pair) → length (with_changed id change graph) ≡ length graph
length-changed id change [] = refl
length-changed id change (p ∷ graph) = ap suc (length-changed id change graph)

pub length-keys : (graph : List Pair) → length (keys_of graph) ≡ length graph
length-keys [] = refl
length-keys (p ∷ graph) = ap suc (length-keys graph)

pub same_length : (graph now : List Pair) → keys_of now ≡ keys_of graph → length now ≡ length graph
same_length graph now same = sym (length-keys now) ∙ ap length same ∙ length-keys graph

-- An index that a look-up by id gives is that of a block.
pub index_within : (keys : List BlockId) (graph : List Pair) (index : Option ℕ) → IfSome index (λ p. p < length keys) → keys ≡ keys_of graph → IfSome index (λ p. p < length graph)
index_within keys graph None h is = tt
index_within keys graph (Some index) h is = omega (arith, h, ap length is, length-keys graph)

fold_next : (now : List Pair) (tries : List DeadTry) (index : ℕ) (dead : DeadTry) → index < length tries
    → fold (λ (b : List Pair) (d : DeadTry). without_try d b) (without_try (get_or tries index dead) now) (drop (index + 1) tries) ≡ fold (λ (b : List Pair) (d : DeadTry). without_try d b) now (drop index tries)
fold_next now tries index dead within = rw add-one (ap (fold (λ (b : List Pair) (d : DeadTry). without_try d b) now) (sym (drop-cons tries index dead within)))

-- A further `try` is dropped.
pub rest_next : (now now1 : List Pair) (tries : List DeadTry) (index : ℕ) (dead : DeadTry) → index < length tries → now1 ≡ without_try (get_or tries index dead) now
    → fold (λ (b : List Pair) (d : DeadTry). without_try d b) now1 (drop (index + 1) tries) ≡ fold (λ (b : List Pair) (d : DeadTry). without_try d b) now (drop index tries)
rest_next now now1 tries index dead within is = ap (λ (t : List Pair). fold (λ (b : List Pair) (d : DeadTry). without_try d b) t (drop (index + 1) tries)) is ∙ fold_next now tries index dead within
