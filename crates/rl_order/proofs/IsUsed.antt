-- The used blocks of a walk are those to which successors lead from the entry.
use Rattle.std.proofs.Common.{◌≡◌, Bool, true, false, cond, not, ◌||◌, ◌⊎◌, inl, inr, true≢false, Option, Some, None, unwrap_or, List, [], ◌∷◌, ◌++◌, map, reverse, refl, append-nil, sym, ap, ◌∙◌, subst}
use Rattle.std.specs.List.{list_any}
use Rattle.std.specs.Map.{lookup}
use Rattle.rl_base.specs.declared.ids.BlockId.{BlockId}
use Rattle.rl_hir.specs.Blocks.{Pair, block_at, same_id}
use Rattle.rl_hir.specs.Terminals.{fallthrough, listed_id, successor_ids}
use Rattle.rl_hir.specs.declared.function.BasicBlock.{BasicBlock}
use Rattle.rl_order.proofs.Ordering.{any_reverse, any_reversed, decide, either, or_left, or_right, same_ids, same_self}
use Rattle.rl_order.proofs.Lookups.{lookup_inserted}
use Rattle.rl_order.specs.Reached.{Begins, IsReached, Goes}
use Rattle.rl_order.specs.Walk.{Ends, Expands, Passes, Walk, Walks, WalksFrom, entered, is_first, is_passed, is_used, left, nothing, visit, visits_from}
use Rattle.rl_order.specs.declared.tasks.Visit.{Visit}

-- Appending changes no used block.
pub used_left : (first : Bool) (w : Walk) (id other : BlockId) → is_used (left first w id) other ≡ is_used w other
used_left true w id other = refl
used_left false w id other = refl

used_inserted : (w : Walk) (v : Visit) (behind : Option BlockId) (id : BlockId)
    → is_used (entered w v behind) id ≡ cond (same_id id v.id) v.used (is_used w id)
used_inserted w v behind id = ap (λ o. unwrap_or o false) (lookup_inserted id v.id v.used w.seen) ∙ by_test (same_id id v.id)
  where
    by_test : (b : Bool) → unwrap_or (cond b (Some v.used) (lookup (same_id id) w.seen)) false ≡ cond b v.used (is_used w id)
    by_test true = refl
    by_test false = refl

-- A block that is used behind the begin of a visit was used before, or is the visited one, as used.
pub used_before : (w : Walk) (v : Visit) (behind : Option BlockId) (id : BlockId) → is_used (entered w v behind) id ≡ true
    → (is_used w id ≡ true) ⊎ ((same_id id v.id ≡ true) × (v.used ≡ true))
used_before w v behind id h = by_test (same_id id v.id) refl (sym (used_inserted w v behind id) ∙ h)
  where
    by_test : (b : Bool) → same_id id v.id ≡ b → cond b v.used (is_used w id) ≡ true
        → (is_used w id ≡ true) ⊎ ((same_id id v.id ≡ true) × (v.used ≡ true))
    by_test true e h = inr (e, h)
    by_test false e h = inl h

-- A visit of a used block is passed over.
used_passed : (w : Walk) (v : Visit) → is_used w v.id ≡ true → is_passed w v ≡ true
used_passed w v h = by_found (lookup (same_id v.id) w.seen) h
  where
    by_found : (found : Option Bool) → unwrap_or found false ≡ true
        → elim found [ Some used ↦ used || not v.used | None ↦ false ] ≡ true
    by_found None h = h
    by_found (Some used) h = or_left used (not v.used) h

-- A used block stays used.
used_more : (w : Walk) (v : Visit) (behind : Option BlockId) (id : BlockId) → is_passed w v ≡ false → is_used w id ≡ true
    → is_used (entered w v behind) id ≡ true
used_more w v behind id passed h = used_inserted w v behind id ∙ by_test (same_id id v.id) refl
  where
    by_test : (b : Bool) → same_id id v.id ≡ b → cond b v.used (is_used w id) ≡ true
    by_test true e = absurd (true≢false (sym (used_passed w v (subst (λ n. is_used w n ≡ true) (same_ids id v.id e) h)) ∙ passed))
    by_test false e = h

-- Each used block is reached.
abbrev Sound : List Pair → BlockId → Walk → Type 0
Sound graph entry w = (id : BlockId) → is_used w id ≡ true → IsReached graph entry id

abbrev AllReached : List Pair → BlockId → List Visit → Type 0
AllReached graph entry [] = Unit {0}
AllReached graph entry (v ∷ vs) = (v.used ≡ true → IsReached graph entry v.id) × AllReached graph entry vs

all_reached : (graph : List Pair) (entry : BlockId) (used : Bool) (ids : List BlockId) (others : List Visit)
    → ((id : BlockId) → list_any (same_id id) ids ≡ true → used ≡ true → IsReached graph entry id)
    → AllReached graph entry others
    → AllReached graph entry (map (visit used) ids ++ others)
all_reached graph entry used [] others h rest = rest
all_reached graph entry used (x ∷ ids) others h rest = (
  h x (or_left (same_id x x) (list_any (same_id x) ids) (same_self x)),
  all_reached graph entry used ids others
      (λ id among. h id (or_right (same_id id x) (list_any (same_id id) ids) among)) rest,
)

inner_reached : (graph : List Pair) (entry : BlockId) (v : Visit) (block : BasicBlock) → block_at graph v.id ≡ Some block
    → (v.used ≡ true → IsReached graph entry v.id) → AllReached graph entry (visits_from v.used block)
inner_reached graph entry v block there reached =
    all_reached graph entry false (listed_id (fallthrough block.terminal))
    (map (visit v.used) (reverse (successor_ids block.terminal))) (λ id among used. absurd (true≢false (sym used)))
    (subst (λ vs. AllReached graph entry vs) (append-nil (map (visit v.used) (reverse (successor_ids block.terminal))))
    (all_reached graph entry v.used (reverse (successor_ids block.terminal)) []
    (λ id among used. Goes v.id id block (reached used) there
    (any_reversed (same_id id) (successor_ids block.terminal) among)) tt))

sound_entered : (graph : List Pair) (entry : BlockId) (w : Walk) (v : Visit) (behind : Option BlockId)
    → Sound graph entry w → (v.used ≡ true → IsReached graph entry v.id) → Sound graph entry (entered w v behind)
sound_entered graph entry w v behind sound reached id h =
    elim (used_before w v behind id h) [
      | inl before ↦ sound id before
      | inr both ↦ subst (λ n. IsReached graph entry n)
          (sym (same_ids id v.id both.0)) (reached both.1)
    ]

sound_walk : (graph : List Pair) (entry : BlockId) (vs : List Visit) (w end : Walk) → Walks graph vs w end
    → Sound graph entry w → AllReached graph entry vs → Sound graph entry end
sound_walk graph entry _ _ _ (Ends w) sound all = sound
sound_walk graph entry _ _ _ (Passes v vs w end passed rest) sound all = sound_walk graph entry vs w end rest sound all.1
sound_walk graph entry _ _ _ (Expands v vs block w inner end passed there within rest) sound all =
    let inside = sound_walk graph entry (visits_from v.used block) (entered w v (fallthrough block.terminal)) inner within
    (sound_entered graph entry w v (fallthrough block.terminal) sound all.0)
    (inner_reached graph entry v block there all.0) in
    sound_walk graph entry vs (left (is_first w v.id) inner v.id) end rest
    (λ id h. inside id (sym (used_left (is_first w v.id) inner v.id id) ∙ h)) all.1

pub used_reached : (graph : List Pair) (entry : BlockId) (end : Walk) → WalksFrom graph entry end → (id : BlockId)
    → is_used end id ≡ true → IsReached graph entry id
used_reached graph entry end walk =
    sound_walk graph entry (visit true entry ∷ []) nothing end walk (λ id h. absurd (true≢false (sym h))) (λ used. Begins, tt)

abbrev AllUsed : Walk → List Visit → Type 0
AllUsed w [] = Unit {0}
AllUsed w (v ∷ vs) = (v.used ≡ true → is_used w v.id ≡ true) × AllUsed w vs

-- Between two states of a walk, the successors of each block that becomes used become used.
record Closes (graph : List Pair) (vs : List Visit) (w end : Walk) : Type 0 where
  stays : (id : BlockId) → is_used w id ≡ true → is_used end id ≡ true
  visited : AllUsed end vs
  closed : (a b : BlockId) (block : BasicBlock) → is_used end a ≡ true → is_used w a ≡ false
      → block_at graph a ≡ Some block → list_any (same_id b) (successor_ids block.terminal) ≡ true → is_used end b ≡ true

all_used_part : (w : Walk) (xs ys : List Visit) → AllUsed w (xs ++ ys) → AllUsed w ys
all_used_part w [] ys h = h
all_used_part w (x ∷ xs) ys h = all_used_part w xs ys h.1

all_used_ids : (w : Walk) (ids : List BlockId) → AllUsed w (map (visit true) ids) → (id : BlockId)
    → list_any (same_id id) ids ≡ true → is_used w id ≡ true
all_used_ids w [] h id among = absurd (true≢false (sym among))
all_used_ids w (x ∷ ids) h id among =
    elim (either (same_id id x) (list_any (same_id id) ids) among) [
      | inl here ↦ subst (λ n. is_used w n ≡ true)
          (sym (same_ids id x here)) (h.0 refl)
      | inr there ↦ all_used_ids w ids h.1 id there
    ]

passed_used : (w : Walk) (v : Visit) → is_passed w v ≡ true → v.used ≡ true → is_used w v.id ≡ true
passed_used w v passed used = by_found (lookup (same_id v.id) w.seen) passed
  where
    by_found : (found : Option Bool) → elim found [ Some used ↦ used || not v.used | None ↦ false ] ≡ true
        → unwrap_or found false ≡ true
    by_found None h = h
    by_found (Some u) h =
        elim (either u (not v.used) h) [ inl is ↦ is | inr unused ↦ absurd (true≢false (sym unused ∙ ap not used)) ]

successor_used : (w : Walk) (used : Bool) (block : BasicBlock) → used ≡ true → AllUsed w (visits_from used block)
    → (id : BlockId) → list_any (same_id id) (successor_ids block.terminal) ≡ true → is_used w id ≡ true
successor_used w true block e all id among =
    all_used_ids w (reverse (successor_ids block.terminal))
    (all_used_part w (map (visit false) (listed_id (fallthrough block.terminal)))
    (map (visit true) (reverse (successor_ids block.terminal))) all) id
    (any_reverse (same_id id) (successor_ids block.terminal) among)
successor_used w false block e all id among = absurd (true≢false (sym e))

closes : (graph : List Pair) (vs : List Visit) (w end : Walk) → Walks graph vs w end → Closes graph vs w end
closes graph _ _ _ (Ends w) =
    record {
      stays = λ id h. h;
      visited = tt;
      closed = λ a b block used unused there among.
          absurd (true≢false (sym used ∙ unused));
    }
closes graph _ _ _ (Passes v vs w end passed rest) =
    let more = closes graph vs w end rest in
    record {
      stays = more.stays;
      visited = (
        λ used. more.stays v.id
            (passed_used w v passed used),
        more.visited,
      );
      closed = more.closed;
    }
closes graph _ _ _ (Expands v vs block w inner end passed there within rest) =
    joined (closes graph (visits_from v.used block) (entered w v (fallthrough block.terminal)) inner within)
    (closes graph vs (left (is_first w v.id) inner v.id) end rest)
  where
    now : Walk
    now = entered w v (fallthrough block.terminal)

    after : Walk
    after = left (is_first w v.id) inner v.id

    some_same : (a b : BasicBlock) → Some a ≡ Some b → a ≡ b
    some_same a b e = ap (λ (o : Option BasicBlock). elim o [ Some x ↦ x | None ↦ a ]) e

    joined : Closes graph (visits_from v.used block) now inner → Closes graph vs after end → Closes graph (v ∷ vs) w end
    joined inside behind =
        record {
          stays = λ id h. onward id (inside.stays id (used_more w v (fallthrough block.terminal) id passed h));
          visited = (
            λ used. onward v.id (inside.stays v.id
                (used_inserted w v (fallthrough block.terminal) v.id ∙ ap (λ b. cond b v.used (is_used w v.id))
                (same_self v.id) ∙ used)),
            behind.visited,
          );
          closed = λ a b found used unused at_a among. by_inner a b found used unused at_a among (decide (is_used inner a));
        }
      where
        onward : (id : BlockId) → is_used inner id ≡ true → is_used end id ≡ true
        onward id h = behind.stays id (used_left (is_first w v.id) inner v.id id ∙ h)

        by_begin : (a b : BlockId) (found : BasicBlock) → is_used w a ≡ false → block_at graph a ≡ Some found
            → list_any (same_id b) (successor_ids found.terminal) ≡ true → is_used inner a ≡ true
            → (is_used now a ≡ true) ⊎ (is_used now a ≡ false) → is_used inner b ≡ true
        by_begin a b found unused at_a among used (inr later) = inside.closed a b found used later at_a among
        by_begin a b found unused at_a among used (inl before) =
            elim (used_before w v (fallthrough block.terminal) a before) [
              | inl early ↦ absurd (true≢false (sym early ∙ unused))
              | inr both ↦ (let same : found ≡ block = some_same found block
                  (sym at_a ∙ ap (λ n. block_at graph n) (same_ids a v.id both.0) ∙ there) in
                  successor_used inner v.used block both.1 inside.visited b
                  (ap (λ x. list_any (same_id b) (successor_ids x.terminal)) (sym same) ∙ among))
            ]

        by_inner : (a b : BlockId) (found : BasicBlock) → is_used end a ≡ true → is_used w a ≡ false
            → block_at graph a ≡ Some found → list_any (same_id b) (successor_ids found.terminal) ≡ true
            → (is_used inner a ≡ true) ⊎ (is_used inner a ≡ false) → is_used end b ≡ true
        by_inner a b found used unused at_a among (inl h) =
            onward b (by_begin a b found unused at_a among h (decide (is_used now a)))
        by_inner a b found used unused at_a among (inr h) =
            behind.closed a b found used (used_left (is_first w v.id) inner v.id a ∙ h) at_a among

pub reached_used : (graph : List Pair) (entry : BlockId) (end : Walk) → WalksFrom graph entry end → (id : BlockId)
    → IsReached graph entry id → is_used end id ≡ true
reached_used graph entry end walk id reached = along id reached
  where
    all : Closes graph (visit true entry ∷ []) nothing end
    all = closes graph (visit true entry ∷ []) nothing end walk

    along : (id : BlockId) → IsReached graph entry id → is_used end id ≡ true
    along _ Begins = all.visited.0 refl
    along _ (Goes a b block rest there among) = all.closed a b block (along a rest) refl there among
