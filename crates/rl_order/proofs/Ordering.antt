-- The invariant of a walk: each block is appended once, and edges go back on cycles alone.
use Rattle.std.proofs.Common.{◌≡◌, ℕ, Bool, true, false, cond, not, ◌||◌, ◌⊎◌, inl, inr, true≢false, Option, Some, None, List, [], ◌∷◌, ◌++◌, map, reverse, is_some, refl, append-nil, sym, ap, ◌∙◌, subst, eq-eqb, eqb-true}
use Rattle.std.proofs.lemmas.List.{reverse-append}
use Rattle.std.proofs.lemmas.Bool.{or_parts, not-false, not-true}
use Rattle.std.specs.List.{list_any}
use Rattle.std.specs.Map.{lookup}
use Rattle.rl_base.specs.declared.ids.BlockId.{BlockId}
use Rattle.rl_hir.specs.Blocks.{Pair, block_at, same_id}
use Rattle.rl_hir.specs.Terminals.{fallthrough, listed_id, successor_ids}
use Rattle.rl_hir.specs.declared.function.BasicBlock.{BasicBlock}
use Rattle.rl_order.proofs.Lookups.{lookup_inserted}
use Rattle.rl_order.specs.Forward.{Leads, Leaves, Reaches, Stays}
use Rattle.rl_order.specs.Own.{AreOwn}
use Rattle.rl_order.specs.Walk.{Ends, Expands, Passes, Walk, Walks, WalksFrom, appended, entered, is_first, is_passed, leads_to, left, nothing, visit, visits_from}
use Rattle.rl_order.specs.declared.tasks.Visit.{Visit}

pub same_ids : (a b : BlockId) → same_id a b ≡ true → a ≡ b
same_ids a b h = let made : ℕ → BlockId = λ n. record { 0 = n } in ap made (eqb-true a.0 b.0 h)

pub same_self : (a : BlockId) → same_id a a ≡ true
same_self a = eq-eqb a.0 a.0 refl

abbrev pub is_seen : Walk → BlockId → Bool
is_seen w id = is_some (lookup (same_id id) w.seen)

-- The appended blocks, the last first.
abbrev pub order : Walk → List BlockId
order w = reverse w.appended

abbrev pub is_done : Walk → BlockId → Bool
is_done w id = list_any (same_id id) (order w)

-- The visit of a block has begun and not ended.
pub record IsOpen (w : Walk) (id : BlockId) : Type 0 where
  pub seen : is_seen w id ≡ true
  pub undone : is_done w id ≡ false

-- An edge from a later block of a list to an earlier one lies on a cycle.
abbrev pub Forward : List Pair → List BlockId → Type 0
Forward graph [] = Unit {0}
Forward graph (id ∷ ids) =
    ((other : BlockId) → list_any (same_id other) ids ≡ true → Leads graph other id → Reaches graph id other) ×
    Forward graph ids

-- The invariant at each state of a walk.
pub record Good (graph : List Pair) (w : Walk) : Type 0 where
  pub own : AreOwn (order w)
  pub within : (id : BlockId) → is_done w id ≡ true → is_seen w id ≡ true
  pub debts : (a b : BlockId) → is_done w a ≡ true → Leads graph a b → (is_done w b ≡ true) ⊎ Reaches graph b a
  pub forward : Forward graph (order w)

-- Open blocks reach the blocks that are to be visited.
abbrev Reaching : List Pair → Walk → List Visit → Type 0
Reaching graph w [] = Unit {0}
Reaching graph w (v ∷ vs) = ((id : BlockId) → IsOpen w id → Reaches graph id v.id) × Reaching graph w vs

abbrev AllSeen : Walk → List Visit → Type 0
AllSeen w [] = Unit {0}
AllSeen w (v ∷ vs) = (is_seen w v.id ≡ true) × AllSeen w vs

-- The invariant between two states of a walk.
pub record Kept (graph : List Pair) (vs : List Visit) (w end : Walk) : Type 0 where
  pub good : Good graph end
  pub seen : (id : BlockId) → is_seen w id ≡ true → is_seen end id ≡ true
  pub opened : (id : BlockId) → IsOpen end id → IsOpen w id
  pub fresh : (id : BlockId) → is_done end id ≡ true → is_done w id ≡ false → is_seen w id ≡ false
  pub visited : AllSeen end vs

pub decide : (b : Bool) → (b ≡ true) ⊎ (b ≡ false)
decide true = inl refl
decide false = inr refl

-- If `a` implies `b` and `b` is false, `a` is false.
backwards : (a b : Bool) → (a ≡ true → b ≡ true) → b ≡ false → a ≡ false
backwards true b h e = absurd (true≢false (sym (h refl) ∙ e))
backwards false b h e = refl

pub either : (a b : Bool) → (a || b) ≡ true → (a ≡ true) ⊎ (b ≡ true)
either true b h = inl refl
either false b h = inr h

pub or_right : (a b : Bool) → b ≡ true → (a || b) ≡ true
or_right true b h = refl
or_right false b h = h

pub or_left : (a b : Bool) → a ≡ true → (a || b) ≡ true
or_left true b h = refl
or_left false b h = absurd (true≢false (sym h))

pub any_append : (test : BlockId → Bool) (xs ys : List BlockId)
    → list_any test (xs ++ ys) ≡ (list_any test xs || list_any test ys)
any_append test [] ys = refl
any_append test (x ∷ xs) ys = by_head (test x) refl (any_append test xs ys)
  where
    by_head : (b : Bool) → test x ≡ b → list_any test (xs ++ ys) ≡ (list_any test xs || list_any test ys)
        → list_any test (x ∷ xs ++ ys) ≡ (list_any test (x ∷ xs) || list_any test ys)
    by_head true e rest = rw e refl
    by_head false e rest = rw e rest

pub any_reverse : (test : BlockId → Bool) (xs : List BlockId) → list_any test xs ≡ true → list_any test (reverse xs) ≡ true
any_reverse test [] h = h
any_reverse test (x ∷ xs) h =
    ap (list_any test) (reverse-append (x ∷ []) xs) ∙ any_append test (reverse xs) (x ∷ []) ∙ by_case
    (either (test x) (list_any test xs) h) (λ r. any_reverse test xs r)
  where
    by_case : (test x ≡ true) ⊎ (list_any test xs ≡ true) → (list_any test xs ≡ true → list_any test (reverse xs) ≡ true)
        → (list_any test (reverse xs) || (test x || false)) ≡ true
    by_case (inl here) rest = or_right (list_any test (reverse xs)) (test x || false) (or_left (test x) false here)
    by_case (inr there) rest = or_left (list_any test (reverse xs)) (test x || false) (rest there)

pub any_reversed : (test : BlockId → Bool) (xs : List BlockId) → list_any test (reverse xs) ≡ true → list_any test xs ≡ true
any_reversed test [] h = h
any_reversed test (x ∷ xs) h =
    by_case (either (list_any test (reverse xs)) (test x || false)
    (sym (ap (list_any test) (reverse-append (x ∷ []) xs) ∙ any_append test (reverse xs) (x ∷ [])) ∙ h))
    (λ r. any_reversed test xs r)
  where
    only : (b : Bool) → (b || false) ≡ true → b ≡ true
    only true e = refl
    only false e = e

    by_case : (list_any test (reverse xs) ≡ true) ⊎ ((test x || false) ≡ true)
        → (list_any test (reverse xs) ≡ true → list_any test xs ≡ true) → (test x || list_any test xs) ≡ true
    by_case (inl there) rest = or_right (test x) (list_any test xs) (rest there)
    by_case (inr here) rest = or_left (test x) (list_any test xs) (only (test x) here)

pub order_more : (w : Walk) (id : BlockId) → order (appended w id) ≡ id ∷ order w
order_more w id = reverse-append w.appended (id ∷ [])

-- A block that was entered is seen, and so are the blocks before.
seen_more : (w : Walk) (v : Visit) (behind : Option BlockId) (id : BlockId) → is_seen w id ≡ true
    → is_seen (entered w v behind) id ≡ true
seen_more w v behind id h = ap is_some (lookup_inserted id v.id v.used w.seen) ∙ by_test (same_id id v.id)
  where
    by_test : (b : Bool) → is_some (cond b (Some v.used) (lookup (same_id id) w.seen)) ≡ true
    by_test true = refl
    by_test false = h

seen_entered : (w : Walk) (v : Visit) (behind : Option BlockId) → is_seen (entered w v behind) v.id ≡ true
seen_entered w v behind =
    ap is_some (lookup_inserted v.id v.id v.used w.seen ∙ ap (λ b. cond b (Some v.used) (lookup (same_id v.id) w.seen))
    (same_self v.id))

-- A block that is seen behind the begin of a visit was seen before, or is the visited one.
seen_before : (w : Walk) (v : Visit) (behind : Option BlockId) (id : BlockId) → is_seen (entered w v behind) id ≡ true
    → (same_id id v.id ≡ true) ⊎ (is_seen w id ≡ true)
seen_before w v behind id h = by_test (same_id id v.id) refl
  where
    by_test : (b : Bool) → same_id id v.id ≡ b → (same_id id v.id ≡ true) ⊎ (is_seen w id ≡ true)
    by_test true e = inl e
    by_test false e =
        inr (sym (ap is_some (lookup_inserted id v.id v.used w.seen
        ∙ ap (λ b. cond b (Some v.used) (lookup (same_id id) w.seen)) e)) ∙ h)

reaches_append : (graph : List Pair) (a b c : BlockId) → Reaches graph a b → Leads graph b c → Reaches graph a c
reaches_append graph _ _ c (Stays a) edge = Leaves a c c edge (Stays c)
reaches_append graph _ _ c (Leaves a x b first rest) edge = Leaves a x c first (reaches_append graph x b c rest edge)

-- The visits that a visit makes are of blocks to which the block leads.
all_reaching : (graph : List Pair) (w : Walk) (used : Bool) (ids : List BlockId) (others : List Visit)
    → ((id other : BlockId) → IsOpen w id → list_any (same_id other) ids ≡ true → Reaches graph id other)
    → Reaching graph w others → Reaching graph w (map (visit used) ids ++ others)
all_reaching graph w used [] others h rest = rest
all_reaching graph w used (x ∷ ids) others h rest = (
  λ id o. h id x o (or_left (same_id x x) (list_any (same_id x) ids) (same_self x)),
  all_reaching graph w used ids others
      (λ id other o at. h id other o (or_right (same_id other x) (list_any (same_id other) ids) at)) rest,
)

all_seen_parts : (w : Walk) (used : Bool) (ids : List BlockId) (others : List Visit)
    → AllSeen w (map (visit used) ids ++ others)
    → ((id : BlockId) → list_any (same_id id) ids ≡ true → is_seen w id ≡ true) × AllSeen w others
all_seen_parts w used [] others h = (λ id at. absurd (true≢false (sym at)), h)
all_seen_parts w used (x ∷ ids) others h =
    let rest = all_seen_parts w used ids others h.1 in
    (λ id at. by_case id (either (same_id id x) (list_any (same_id id) ids) at) rest.0, rest.1)
  where
    by_case : (id : BlockId) → (same_id id x ≡ true) ⊎ (list_any (same_id id) ids ≡ true)
        → ((id : BlockId) → list_any (same_id id) ids ≡ true → is_seen w id ≡ true) → is_seen w id ≡ true
    by_case id (inl here) rest = subst (λ n. is_seen w n ≡ true) (sym (same_ids id x here)) h.0
    by_case id (inr there) rest = rest id there

-- A visit of a block that is not passed over, from its begin to behind its end.
record Around (graph : List Pair) (v : Visit) (w after : Walk) : Type 0 where
  good : Good graph after
  seen : (id : BlockId) → is_seen w id ≡ true → is_seen after id ≡ true
  opened : (id : BlockId) → IsOpen after id → IsOpen w id
  fresh : (id : BlockId) → is_done after id ≡ true → is_done w id ≡ false → is_seen w id ≡ false
  visited : is_seen after v.id ≡ true

-- The edges from a block go to its fallthrough and to its successors, so its visits are of all of them.
lead_seen : (w : Walk) (used : Bool) (block : BasicBlock) → AllSeen w (visits_from used block) → (id : BlockId)
    → list_any (same_id id) (leads_to block) ≡ true → is_seen w id ≡ true
lead_seen w used block all id at =
    let ss : List BlockId = successor_ids block.terminal in
    let behind : List BlockId = listed_id (fallthrough block.terminal) in
    let parts = all_seen_parts w false behind (map (visit used) (reverse ss)) all in
    let more = all_seen_parts w used (reverse ss) []
    (subst (λ vs. AllSeen w vs) (sym (append-nil (map (visit used) (reverse ss)))) parts.1) in
    elim (either (list_any (same_id id) behind) (list_any (same_id id) ss)
    (sym (any_append (same_id id) behind ss) ∙ at)) [
      | inl h ↦ parts.0 id h
      | inr h ↦ more.0 id
          (any_reverse (same_id id) ss h)
    ]

leads_by : (graph : List Pair) (from to : BlockId) (block : BasicBlock) → block_at graph from ≡ Some block
    → Leads graph from to → list_any (same_id to) (leads_to block) ≡ true
leads_by graph from to block at edge =
    let same : edge.block ≡ block = some_same edge.block block
    (sym edge.there ∙ at) in subst (λ b. list_any (same_id to) (leads_to b) ≡ true) same edge.leads
  where
    some_same : (a b : BasicBlock) → Some a ≡ Some b → a ≡ b
    some_same a b e = cc

-- Open blocks reach what a visit of `v` visits, where they reach `v`.
inner_reaching : (graph : List Pair) (w : Walk) (v : Visit) (block : BasicBlock) → block_at graph v.id ≡ Some block
    → ((id : BlockId) → IsOpen w id → Reaches graph id v.id)
    → Reaching graph (entered w v (fallthrough block.terminal)) (visits_from v.used block)
inner_reaching graph w v block at reach =
    all_reaching graph now false behind (map (visit v.used) (reverse ss)) (λ id other o h. reached id other o (left_lead other h))
    (subst (λ vs. Reaching graph now vs) (append-nil (map (visit v.used) (reverse ss)))
    (all_reaching graph now v.used (reverse ss) [] (λ id other o h. reached id other o (right_lead other h)) tt))
  where
    now : Walk
    now = entered w v (fallthrough block.terminal)

    ss : List BlockId
    ss = successor_ids block.terminal

    behind : List BlockId
    behind = listed_id (fallthrough block.terminal)

    left_lead : (other : BlockId) → list_any (same_id other) behind ≡ true → list_any (same_id other) (leads_to block) ≡ true
    left_lead other h =
        any_append (same_id other) behind ss ∙ or_left (list_any (same_id other) behind) (list_any (same_id other) ss) h

    right_lead : (other : BlockId) → list_any (same_id other) (reverse ss) ≡ true
        → list_any (same_id other) (leads_to block) ≡ true
    right_lead other h =
        any_append (same_id other) behind ss ∙ or_right (list_any (same_id other) behind) (list_any (same_id other) ss)
        (any_reversed (same_id other) ss h)

    reached : (id other : BlockId) → IsOpen now id → list_any (same_id other) (leads_to block) ≡ true → Reaches graph id other
    reached id other o h =
        let edge : Leads graph v.id other = record { block = block; there = at; leads = h } in
        elim (seen_before w v (fallthrough block.terminal) id o.seen) [
          | inl same ↦ subst (λ a. Reaches graph a other) (sym (same_ids id v.id same))
              (Leaves v.id other other edge (Stays other))
          | inr seen ↦ reaches_append graph id v.id other (reach id (record { seen = seen; undone = o.undone })) edge
        ]

-- At the begin of a visit nothing is appended.
good_entered : (graph : List Pair) (w : Walk) (v : Visit) (behind : Option BlockId) → Good graph w
    → Good graph (entered w v behind)
good_entered graph w v behind good =
    record {
      own = good.own;
      within = λ id h. seen_more w v behind id (good.within id h);
      debts = good.debts;
      forward = good.forward;
    }

-- A block that was not visited before is not appended during its first visit.
not_done : (graph : List Pair) (w inner : Walk) (v : Visit) (block : BasicBlock) → Good graph w → is_first w v.id ≡ true
    → Kept graph (visits_from v.used block) (entered w v (fallthrough block.terminal)) inner → is_done inner v.id ≡ false
not_done graph w inner v block good first kept =
    by_done (is_done inner v.id) refl (is_done w v.id) refl
  where
    unseen : is_seen w v.id ≡ false
    unseen = not-true (is_seen w v.id) first

    by_done : (after : Bool) → is_done inner v.id ≡ after → (before : Bool) → is_done w v.id ≡ before
        → is_done inner v.id ≡ false
    by_done false e before b = e
    by_done true e true b = absurd (true≢false (sym (good.within v.id b) ∙ unseen))
    by_done true e false b = absurd (true≢false (sym (seen_entered w v (fallthrough block.terminal)) ∙ kept.fresh v.id e b))

-- The first visit of a block ends: it is appended.
good_appended : (graph : List Pair) (w inner : Walk) (v : Visit) (block : BasicBlock) → block_at graph v.id ≡ Some block
    → Good graph w → ((id : BlockId) → IsOpen w id → Reaches graph id v.id) → is_first w v.id ≡ true
    → Kept graph (visits_from v.used block) (entered w v (fallthrough block.terminal)) inner → Good graph (appended inner v.id)
good_appended graph w inner v block at good reach first kept =
    record {
      own = subst (λ ids. AreOwn ids) (sym (order_more inner v.id)) (undone, kept.good.own);
      within =
          λ id h. within id (either (same_id id v.id) (is_done inner id)
          (sym (ap (list_any (same_id id)) (order_more inner v.id)) ∙ h));
      debts =
          λ a b h edge. more b (debts a b
          (either (same_id a v.id) (is_done inner a) (sym (ap (list_any (same_id a)) (order_more inner v.id)) ∙ h)) edge);
      forward =
          subst (λ ids. Forward graph ids) (sym (order_more inner v.id))
          (λ other h edge. forward other (kept.good.debts other v.id h edge), kept.good.forward);
    }
  where
    undone : is_done inner v.id ≡ false
    undone = not_done graph w inner v block good first kept

    within : (id : BlockId) → (same_id id v.id ≡ true) ⊎ (is_done inner id ≡ true) → is_seen inner id ≡ true
    within id (inl same) =
        subst (λ n. is_seen inner n ≡ true) (sym (same_ids id v.id same))
        (kept.seen v.id (seen_entered w v (fallthrough block.terminal)))
    within id (inr done) = kept.good.within id done

    more : (b : BlockId) → {P : Type 0} → (is_done inner b ≡ true) ⊎ P → (is_done (appended inner v.id) b ≡ true) ⊎ P
    more b (inl done) = inl (ap (list_any (same_id b)) (order_more inner v.id) ∙ or_right (same_id b v.id) (is_done inner b) done)
    more b (inr p) = inr p

    forward : (other : BlockId) → (is_done inner v.id ≡ true) ⊎ Reaches graph v.id other → Reaches graph v.id other
    forward other (inl done) = absurd (true≢false (sym done ∙ undone))
    forward other (inr reaches) = reaches

    -- A block to which `v` leads is appended, or open since before.
    owed : (b : BlockId) → (done : Bool) → is_done inner b ≡ done → Leads graph v.id b
        → (is_done inner b ≡ true) ⊎ Reaches graph b v.id
    owed b true e edge = inl e
    owed b false e edge =
        let o = kept.opened b (record {
          seen = lead_seen inner v.used block kept.visited b
              (leads_by graph v.id b block at edge);
          undone = e;
        }) in
        elim (seen_before w v (fallthrough block.terminal) b o.seen) [
          | inl same ↦ inr (subst (λ a. Reaches graph a v.id) (sym (same_ids b v.id same)) (Stays v.id))
          | inr seen ↦ inr (reach b (record { seen = seen; undone = o.undone }))
        ]

    debts : (a b : BlockId) → (same_id a v.id ≡ true) ⊎ (is_done inner a ≡ true) → Leads graph a b
        → (is_done inner b ≡ true) ⊎ Reaches graph b a
    debts a b (inl same) edge =
        let is = same_ids a v.id same in subst (λ x. (is_done inner b ≡ true) ⊎ Reaches graph b x) (sym is)
        (owed b (is_done inner b) refl (subst (λ x. Leads graph x b) is edge))
    debts a b (inr done) edge = kept.good.debts a b done edge

-- A visit that expands a block, where what it visits is kept.
around : (graph : List Pair) (w inner : Walk) (v : Visit) (block : BasicBlock) → block_at graph v.id ≡ Some block
    → Good graph w → ((id : BlockId) → IsOpen w id → Reaches graph id v.id)
    → Kept graph (visits_from v.used block) (entered w v (fallthrough block.terminal)) inner → (first : Bool)
    → is_first w v.id ≡ first → Around graph v w (left first inner v.id)
around graph w inner v block at good reach kept true first =
    record {
      good = good_appended graph w inner v block at good reach first kept;
      seen = seen;
      opened = opened;
      fresh = fresh;
      visited = kept.seen v.id (seen_entered w v (fallthrough block.terminal));
    }
  where
    seen : (id : BlockId) → is_seen w id ≡ true → is_seen inner id ≡ true
    seen id h = kept.seen id (seen_more w v (fallthrough block.terminal) id h)

    apart : (id : BlockId) → is_done (appended inner v.id) id ≡ false → (same_id id v.id ≡ false) × (is_done inner id ≡ false)
    apart id h = or_parts (same_id id v.id) (is_done inner id) (sym (ap (list_any (same_id id)) (order_more inner v.id)) ∙ h)

    opened : (id : BlockId) → IsOpen (appended inner v.id) id → IsOpen w id
    opened id o =
        let parts = apart id o.undone in
        let before = kept.opened id (record { seen = o.seen; undone = parts.1 }) in
        elim (seen_before w v (fallthrough block.terminal) id before.seen) [
          | inl same ↦ absurd (true≢false (sym same ∙ parts.0))
          | inr h ↦ record { seen = h; undone = before.undone }
        ]

    fresh : (id : BlockId) → is_done (appended inner v.id) id ≡ true → is_done w id ≡ false → is_seen w id ≡ false
    fresh id h undone =
        elim (either (same_id id v.id) (is_done inner id) (sym (ap (list_any (same_id id)) (order_more inner v.id)) ∙ h)) [
          | inl same ↦ subst (λ n. is_seen w n ≡ false) (sym (same_ids id v.id same)) (not-true (is_seen w v.id) first)
          | inr done ↦ backwards (is_seen w id) (is_seen (entered w v (fallthrough block.terminal)) id)
              (seen_more w v (fallthrough block.terminal) id) (kept.fresh id done undone)
        ]
around graph w inner v block at good reach kept false first =
    record {
      good = kept.good;
      seen = λ id h. kept.seen id (seen_more w v (fallthrough block.terminal) id h);
      opened = opened;
      fresh =
          λ id done undone. backwards (is_seen w id) (is_seen (entered w v (fallthrough block.terminal)) id)
          (seen_more w v (fallthrough block.terminal) id) (kept.fresh id done undone);
      visited = kept.seen v.id (seen_entered w v (fallthrough block.terminal));
    }
  where
    opened : (id : BlockId) → IsOpen inner id → IsOpen w id
    opened id o =
        let before = kept.opened id o in
        elim (seen_before w v (fallthrough block.terminal) id before.seen) [
          | inl same ↦ record {
            seen = subst (λ n. is_seen w n ≡ true) (sym (same_ids id v.id same))
                (not-false (is_seen w v.id) first);
            undone = before.undone;
          }
          | inr h ↦ record { seen = h; undone = before.undone }
        ]

reaching_after : (graph : List Pair) (w after : Walk) (vs : List Visit) → ((id : BlockId) → IsOpen after id → IsOpen w id)
    → Reaching graph w vs → Reaching graph after vs
reaching_after graph w after [] opened h = tt
reaching_after graph w after (v ∷ vs) opened h = (λ id o. h.0 id (opened id o), reaching_after graph w after vs opened h.1)

-- A visit that is passed over is of a block that was seen.
passed_seen : (w : Walk) (v : Visit) → is_passed w v ≡ true → is_seen w v.id ≡ true
passed_seen w v h = by_found (lookup (same_id v.id) w.seen) h
  where
    by_found : (found : Option Bool) → elim found [ Some used ↦ used || not v.used | None ↦ false ] ≡ true
        → is_some found ≡ true
    by_found (Some used) e = refl
    by_found None e = e

-- Every walk keeps what holds at its begin.
pub walk_keeps : (graph : List Pair) (vs : List Visit) (w end : Walk) → Walks graph vs w end → Good graph w
    → Reaching graph w vs → Kept graph vs w end
walk_keeps graph _ _ _ (Ends w) good reach =
    record {
      good = good;
      seen = λ id h. h;
      opened = λ id o. o;
      fresh = λ id done undone. absurd (true≢false (sym done ∙ undone));
      visited = tt;
    }
walk_keeps graph _ _ _ (Passes v vs w end passed rest) good reach =
    let kept = walk_keeps graph vs w end rest good reach.1 in
    record {
      good = kept.good;
      seen = kept.seen;
      opened = kept.opened;
      fresh = kept.fresh;
      visited = (kept.seen v.id (passed_seen w v passed), kept.visited);
    }
walk_keeps graph _ _ _ (Expands v vs block w inner end passed at within rest) good reach =
    let kept = walk_keeps graph (visits_from v.used block) (entered w v (fallthrough block.terminal)) inner within
    (good_entered graph w v (fallthrough block.terminal) good) (inner_reaching graph w v block at reach.0) in
    let after : Walk = left (is_first w v.id) inner v.id in
    let one = around graph w inner v block at good reach.0 kept (is_first w v.id) refl in
    let others = walk_keeps graph vs after end rest one.good (reaching_after graph w after vs one.opened reach.1) in
    record {
      good = others.good;
      seen = λ id h. others.seen id (one.seen id h);
      opened = λ id o. one.opened id (others.opened id o);
      fresh = λ id done undone. fresh_by after one others id done undone (decide (is_done after id));
      visited = (others.seen v.id one.visited, others.visited);
    }
  where
    fresh_by : (after : Walk) → Around graph v w after → Kept graph vs after end → (id : BlockId) → is_done end id ≡ true
        → is_done w id ≡ false → (is_done after id ≡ true) ⊎ (is_done after id ≡ false) → is_seen w id ≡ false
    fresh_by after one others id done undone (inl before) = one.fresh id before undone
    fresh_by after one others id done undone (inr later) =
        backwards (is_seen w id) (is_seen after id) (one.seen id) (others.fresh id done later)

-- The walk from the entry.
walked_kept : (graph : List Pair) (entry : BlockId) (end : Walk) → WalksFrom graph entry end → Kept graph
    (visit true entry ∷ []) nothing end
walked_kept graph entry end walk =
    walk_keeps graph (visit true entry ∷ []) nothing end walk
    (record {
      own = tt;
      within = λ id h. absurd (true≢false (sym h));
      debts = λ a b h edge. absurd (true≢false (sym h));
      forward = tt;
    })
    (λ id o. absurd (true≢false (sym o.seen)), tt)

pub walked_good : (graph : List Pair) (entry : BlockId) (end : Walk) → WalksFrom graph entry end → Good graph end
walked_good graph entry end walk = (walked_kept graph entry end walk).good

-- No block is open at the end, since none is at the begin.
pub walked_opened : (graph : List Pair) (entry : BlockId) (end : Walk) → WalksFrom graph entry end → (id : BlockId)
    → IsOpen end id → IsOpen nothing id
walked_opened graph entry end walk = (walked_kept graph entry end walk).opened
