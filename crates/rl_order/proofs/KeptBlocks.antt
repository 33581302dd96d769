-- The blocks that are kept, one after the other.
use Rattle.std.proofs.Common.{◌≡◌, Bool, true, false, ◌||◌, true≢false, subst, Option, Some, None, List, [], ◌∷◌, ◌++◌, reverse, refl, sym, ap, ◌∙◌, append-nil, append_assoc}
use Rattle.std.proofs.lemmas.List.{reverse-append}
use Rattle.std.specs.List.{list_any}
use Rattle.rl_base.specs.declared.ids.BlockId.{BlockId}
use Rattle.rl_hir.specs.Blocks.{Pair, block_at, same_id, with_block}
use Rattle.rl_hir.specs.declared.function.BasicBlock.{BasicBlock}
use Rattle.rl_order.proofs.Ordering.{same_ids, same_self}
use Rattle.rl_order.specs.Own.{AreOwn}
use Rattle.rl_order.specs.Walk.{Walk, emptied, is_noted, is_used, kept, kept_block}

-- A block under a new id goes last.
put_new : (pairs : List Pair) (id : BlockId) (block : BasicBlock) → block_at pairs id ≡ None
    → with_block pairs id block ≡ pairs ++ (id, block) ∷ []
put_new [] id block h = refl
put_new (p ∷ pairs) id block h = by_head (same_id id p.0) refl (λ none. put_new pairs id block none)
  where
    by_head : (b : Bool) → same_id id p.0 ≡ b
        → (block_at pairs id ≡ None → with_block pairs id block ≡ pairs ++ (id, block) ∷ [])
        → with_block (p ∷ pairs) id block ≡ p ∷ pairs ++ (id, block) ∷ []
    by_head true e rest = let h' = rw e at h in absurd (cc)
    by_head false e rest = let h' = rw e at h in rw e (ap (λ (t : List Pair). p ∷ t) (rest h'))

pub keep_used : (graph pairs new : List Pair) (w : Walk) (id : BlockId) (block copy : BasicBlock)
    → block_at pairs id ≡ None → Some block ≡ block_at graph id → is_used w id ≡ true → copy ≡ block
    → new ≡ with_block pairs id copy → new ≡ pairs ++ kept graph w (id ∷ [])
keep_used graph pairs new w id block copy none at used same put =
    put ∙ put_new pairs id copy none ∙ ap (λ b. pairs ++ (id, b) ∷ []) same ∙ ap (λ (t : List Pair). pairs ++ t)
    (sym (chunk at used))
  where
    chunk : Some block ≡ block_at graph id → is_used w id ≡ true → kept graph w (id ∷ []) ≡ (id, block) ∷ []
    chunk at used = let at' = sym at in rw (at', used) refl

pub keep_noted : (graph pairs new : List Pair) (w : Walk) (id : BlockId) (block copy : BasicBlock)
    → block_at pairs id ≡ None → Some block ≡ block_at graph id → is_used w id ≡ false → is_noted w id ≡ true
    → copy ≡ emptied block → new ≡ with_block pairs id copy → new ≡ pairs ++ kept graph w (id ∷ [])
keep_noted graph pairs new w id block copy none at unused noted same put =
    put ∙ put_new pairs id copy none ∙ ap (λ b. pairs ++ (id, b) ∷ []) same ∙ ap (λ (t : List Pair). pairs ++ t)
    (sym (chunk at unused noted))
  where
    chunk : Some block ≡ block_at graph id → is_used w id ≡ false → is_noted w id ≡ true
        → kept graph w (id ∷ []) ≡ (id, emptied block) ∷ []
    chunk at unused noted = let at' = sym at in rw (at', unused, noted) refl

block_at_append : (xs ys : List Pair) (id : BlockId) → block_at xs id ≡ None → block_at ys id ≡ None
    → block_at (xs ++ ys) id ≡ None
block_at_append [] ys id hx hy = hy
block_at_append (p ∷ xs) ys id hx hy = by_head (same_id id p.0) refl (λ none. block_at_append xs ys id none hy)
  where
    by_head : (b : Bool) → same_id id p.0 ≡ b → (block_at xs id ≡ None → block_at (xs ++ ys) id ≡ None)
        → block_at (p ∷ xs ++ ys) id ≡ None
    by_head true e rest = let h' = rw e at hx in absurd (cc)
    by_head false e rest = let h' = rw e at hx in rw e (rest h')

-- All that is kept of a block has its id.
pub kept_apart : (graph : List Pair) (w : Walk) (id other : BlockId) → same_id other id ≡ false
    → block_at (kept graph w (id ∷ [])) other ≡ None
kept_apart graph w id other differ = by_found (block_at graph id) refl (is_used w id) refl (is_noted w id) refl
  where
    by_found : (found : Option BasicBlock) → block_at graph id ≡ found → (used : Bool) → is_used w id ≡ used
        → (noted : Bool) → is_noted w id ≡ noted → block_at (kept graph w (id ∷ [])) other ≡ None
    by_found None at used u noted n = rw at refl
    by_found (Some block) at true u noted n = rw (at, u, differ) refl
    by_found (Some block) at false u true n = rw (at, u, n, differ) refl
    by_found (Some block) at false u false n = rw (at, u, n) refl

-- The invariant of the loop over appended blocks: `pairs`, and what is kept of the blocks that are left, make up all that is
-- kept.
pub record Keeps (graph : List Pair) (end : Walk) (pairs : List Pair) (w : Walk) : Type 0 where
  pub same : w ≡ record end { appended = w.appended }
  pub all : pairs ++ kept graph end (reverse w.appended) ≡ kept graph end (reverse end.appended)
  pub own : AreOwn (reverse w.appended)
  pub apart : (id : BlockId) → list_any (same_id id) (reverse w.appended) ≡ true → block_at pairs id ≡ None

pub keeping_begins : (graph : List Pair) (end : Walk) (pairs : List Pair) → AreOwn (reverse end.appended) → pairs ≡ []
    → Keeps graph end pairs end
keeping_begins graph end pairs own none =
    record {
      same = refl;
      all = ap (λ (t : List Pair). t ++ kept graph end (reverse end.appended)) none;
      own = own;
      apart = λ id h. ap (λ (t : List Pair). block_at t id) none;
    }

turned : (w : Walk) (rest : List BlockId) (id : BlockId) → w.appended ≡ rest ++ id ∷ [] → reverse w.appended ≡ id ∷ reverse rest
turned w rest id is = ap reverse is ∙ reverse-append rest (id ∷ [])

pub keeping_apart : (graph : List Pair) (end : Walk) (pairs : List Pair) (w : Walk) (rest : List BlockId) (id : BlockId)
    → Keeps graph end pairs w → w.appended ≡ rest ++ id ∷ [] → block_at pairs id ≡ None
keeping_apart graph end pairs w rest id h is =
    h.apart id (ap (list_any (same_id id)) (turned w rest id is) ∙ ap (λ b. b || list_any (same_id id) (reverse rest))
    (same_self id))

pub keeping_goes_on : (graph : List Pair) (end : Walk) (pairs new : List Pair) (w w' : Walk) (id : BlockId)
    → Keeps graph end pairs w → w.appended ≡ w'.appended ++ id ∷ [] → w' ≡ record w { appended = w'.appended }
    → new ≡ pairs ++ kept graph w' (id ∷ []) → Keeps graph end new w'
keeping_goes_on graph end pairs new w w' id h is rest put =
    record {
      same = same';
      all =
          ap (λ (t : List Pair). t ++ kept graph end (reverse w'.appended)) put' ∙ append_assoc pairs
          (kept graph end (id ∷ [])) (kept graph end (reverse w'.appended))
          ∙ ap (λ (t : List Pair). pairs ++ t) (joined (reverse w'.appended))
          ∙ ap (λ (t : List BlockId). pairs ++ kept graph end t) (sym (turned w w'.appended id is)) ∙ h.all;
      own = own'.1;
      apart =
          λ other at. ap (λ (t : List Pair). block_at t other) put' ∙ block_at_append pairs (kept graph end (id ∷ [])) other
          (before other at) (kept_apart graph end id other (differs other at (same_id other id) refl));
    }
  where
    same' : w' ≡ record end { appended = w'.appended }
    same' = rest ∙ ap (λ (x : Walk). record x { appended = w'.appended }) h.same

    put' : new ≡ pairs ++ kept graph end (id ∷ [])
    put' = put ∙ ap (λ (x : Walk). pairs ++ kept graph x (id ∷ [])) same'

    own' : AreOwn (id ∷ reverse w'.appended)
    own' = subst (λ ids. AreOwn ids) (turned w w'.appended id is) h.own

    joined : (ids : List BlockId) → kept graph end (id ∷ []) ++ kept graph end ids ≡ kept graph end (id ∷ ids)
    joined ids =
        ap (λ (t : List Pair). t ++ kept graph end ids)
        (append-nil (elim (block_at graph id) [ Some block ↦ kept_block end id block | None ↦ [] ]))

    before : (other : BlockId) → list_any (same_id other) (reverse w'.appended) ≡ true → block_at pairs other ≡ None
    before other at = h.apart other (ap (list_any (same_id other)) (turned w w'.appended id is) ∙ or_true (same_id other id) at)
      where
        or_true : (b : Bool) → list_any (same_id other) (reverse w'.appended) ≡ true
            → (b || list_any (same_id other) (reverse w'.appended)) ≡ true
        or_true true at = refl
        or_true false at = at

    differs : (other : BlockId) → list_any (same_id other) (reverse w'.appended) ≡ true → (b : Bool)
        → same_id other id ≡ b → same_id other id ≡ false
    differs other at true e =
        absurd (true≢false (sym at ∙ ap (λ (x : BlockId). list_any (same_id x) (reverse w'.appended)) (same_ids other id e)
        ∙ own'.0))
    differs other at false e = e

pub keeping_ends : (graph : List Pair) (end : Walk) (pairs : List Pair) (w : Walk) → Keeps graph end pairs w
    → w.appended ≡ [] → pairs ≡ kept graph end (reverse end.appended)
keeping_ends graph end pairs w h none =
    sym (append-nil pairs) ∙ ap (λ (t : List BlockId). pairs ++ kept graph end (reverse t)) (sym none) ∙ h.all
