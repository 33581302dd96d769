-- The ids of blocks stay distinct.
use Rattle.std.proofs.Common.{◌≡◌, ℕ, zero, suc, ◌+◌, ◌<◌, ◌≤◌, ◌⊎◌, inl, inr, ◌++◌, List, [], ◌∷◌, map, slice_get, Option, None, Some}
use Rattle.std.proofs.Common.{refl, sym, ap, ◌∙◌, subst, arith}
use Rattle.std.proofs.lemmas.List.{map-append}
use Rattle.rl_base.proofs.DistinctLists.{IsIn, distinct_push}
use Rattle.rl_base.specs.Distinct.{AreDistinct}
use Rattle.rl_builder.specs.Builder.{reserved, new_block, ended_by, completed_by, innermost, maybe_throw, plainly_pushed, pushed}
use Rattle.rl_builder.specs.Builder.{pushed_under}
use Rattle.rl_builder.specs.declared.blocks.WipBlock.{WipBlock}
use Rattle.rl_hir.specs.Blocks.{Pair as BlockPair}
use Rattle.rl_hir.specs.declared.function.BlockKind.{BlockKind}
use Rattle.rl_hir.specs.declared.terminal.Terminal.{Terminal}
use Rattle.rl_runs.proofs.Common.{BlockId, Instruction, State}
use Rattle.rl_runs.proofs.Steps.{added_cases}
use Rattle.rl_runs.specs.Blocks.{IsOwn, PreservesIds, PreservesUniqueIds, UniqueIds}
use Rattle.rl_runs.specs.Facts.{IsCompleted}

-- A complete block of a list with one more.
completed_cases : (xs : List BlockPair) (x : BlockPair) (id : ℕ) → IsCompleted (xs ++ x ∷ []) id
    → IsCompleted xs id ⊎ (id ≡ x.0.0)
completed_cases xs x id k = elim (added_cases xs x k.place k.block k.found) [
  | inl e ↦ inl (record { place = k.place; block = k.block; found = e; named = k.named })
  | inr e ↦ inr (sym k.named ∙ ap (λ (b : BlockPair). b.0.0) e)
]

-- The numbers of blocks.
abbrev pub ids_of : List BlockPair → List ℕ
ids_of blocks = map (λ (b : BlockPair). b.0.0) blocks

-- A number in the list is that of a block.
pub completed_in : (blocks : List BlockPair) (id : ℕ) → IsIn (ids_of blocks) id → IsCompleted blocks id
completed_in blocks id h = by_index blocks h.index h.found
  where
    by_index : (rest : List BlockPair) (index : ℕ) → slice_get (ids_of rest) index ≡ Some id → IsCompleted rest id
    by_index [] index e = absurd (cc)
    by_index (b ∷ rest) zero e = record { place = 0; block = b; found = refl; named = cc }
    by_index (b ∷ rest) (suc index) e =
        let later : IsCompleted rest id = by_index rest index e in
        record { place = suc later.place; block = later.block; found = later.found; named = later.named }

-- Numbers are distinct also with the block that ends.
pub apart_ended : (completed : List BlockPair) (current next : ℕ) (b : BlockPair) → b.0.0 ≡ current
    → UniqueIds completed current next
    → AreDistinct (ids_of (completed ++ b ∷ []))
apart_ended completed current next b named c =
    subst (λ (ids : List ℕ). AreDistinct ids) (sym (map-append (λ (x : BlockPair). x.0.0) completed (b ∷ [])))
    (distinct_push (ids_of completed) b.0.0 c.apart
    (λ h. c.open_block (subst (λ (id : ℕ). IsCompleted completed id) named (completed_in completed b.0.0 h))))

-- An id that was reserved and that no block has.
pub record IsFree (completed : List BlockPair) (current next id : ℕ) : Type 0 where
  pub below : id < next
  pub unused : IsCompleted completed id → ⊥
  pub other : id ≡ current → ⊥

pub ids_refl : (completed : List BlockPair) (current next : ℕ)
    → PreservesUniqueIds completed current next completed current next
ids_refl completed current next = record { added = λ id k. inl k; own = inl refl; distinct = λ c. c; counted = omega arith }

own_then : (completed0 completed : List BlockPair) (current0 next0 current next id : ℕ)
    → PreservesUniqueIds completed0 current0 next0 completed current next → IsOwn current next id → IsOwn current0 next0 id
own_then completed0 completed current0 next0 current next id t o =
    elim o [ inl e ↦ subst (λ (z : ℕ). IsOwn current0 next0 z) (sym e) t.own | inr le ↦ inr (omega (arith, t.counted)) ]

pub ids_then : {completed0 completed1 completed2 : List BlockPair} {current0 next0 current1 next1 current2 next2 : ℕ}
    → PreservesUniqueIds completed0 current0 next0 completed1 current1 next1
    → PreservesUniqueIds completed1 current1 next1 completed2 current2 next2
    → PreservesUniqueIds completed0 current0 next0 completed2 current2 next2
ids_then {completed0} {completed1} {completed2} {current0} {next0} {current1} {next1} {current2} {next2} t u = record {
  added = λ id k. elim (u.added id k) [ inl k1 ↦ t.added id k1 | inr o ↦ inr (own_then completed0 completed1 current0 next0 current1 next1 id t o) ];
  own = own_then completed0 completed1 current0 next0 current1 next1 current2 t u.own;
  distinct = λ c. u.distinct (t.distinct c);
  counted = omega (arith, t.counted, u.counted);
}

pub ids_counted : (completed : List BlockPair) (current next later : ℕ) → next ≤ later
    → PreservesUniqueIds completed current next completed current later
ids_counted completed current next later le = record {
  added = λ id k. inl k;
  own = inl refl;
  counted = le;
  distinct = λ c. record { apart = c.apart; open_block = c.open_block; below = λ id k. (let below : id < next = c.below id k in omega arith); current_below = omega (arith, c.current_below) };
}

pub free_fresh : (completed : List BlockPair) (current next later id : ℕ) → UniqueIds completed current next → next ≤ id
    → id < later → IsFree completed current later id
free_fresh completed current next later id c le lt = record {
  below = lt;
  unused = λ k. (let below : id < next = c.below id k in absurd (omega arith));
  other = λ e. absurd (omega (arith, c.current_below));
}

pub free_then : {completed0 completed1 : List BlockPair} {current0 next0 current1 next1 : ℕ} (id : ℕ)
    → PreservesUniqueIds completed0 current0 next0 completed1 current1 next1 → IsFree completed0 current0 next0 id
    → IsFree completed1 current1 next1 id
free_then {completed0} {completed1} {current0} {next0} {current1} {next1} id t f = record {
  below = omega (arith, f.below, t.counted);
  unused = λ k. elim (t.added id k) [ inl k0 ↦ f.unused k0 | inr o ↦ never o ];
  other = λ e. never (subst (λ (z : ℕ). IsOwn current0 next0 z) (sym e) t.own);
}
  where
    never : IsOwn current0 next0 id → ⊥
    never o = elim o [ inl e ↦ f.other e | inr le ↦ absurd (omega (arith, f.below)) ]

distinct_ended : (completed : List BlockPair) (current next : ℕ) (b : BlockPair) (id : ℕ) → b.0.0 ≡ current
    → UniqueIds completed current next → IsFree completed current next id → UniqueIds (completed ++ b ∷ []) id next
distinct_ended completed current next b id named c f = record {
  apart = apart_ended completed current next b named c;
  open_block = λ k. elim (completed_cases completed b id k) [ inl old ↦ f.unused old | inr is ↦ f.other (is ∙ named) ];
  below = λ other k. elim (completed_cases completed b other k) [ inl old ↦ c.below other old | inr is ↦ omega (arith, c.current_below, named) ];
  current_below = f.below;
}

-- The current block ends, and one with a free id goes on.
pub ids_ended : {completed0 : List BlockPair} {current0 next0 : ℕ} (s : State) (t : Terminal) (next : WipBlock)
    → PreservesUniqueIds completed0 current0 next0 s.completed s.current.id.0 s.env.next_block → IsOwn current0 next0 next.id.0
    → (UniqueIds completed0 current0 next0 → IsFree s.completed s.current.id.0 s.env.next_block next.id.0)
    → PreservesUniqueIds completed0 current0 next0 (completed_by s t next).completed next.id.0 s.env.next_block
ids_ended {completed0} {current0} {next0} s t next y own f = record {
  added = λ id k. elim (completed_cases s.completed _ id k) [ inl old ↦ y.added id old | inr is ↦ inr (subst (λ (z : ℕ). IsOwn current0 next0 z) (sym is) y.own) ];
  own = own;
  distinct = λ c. distinct_ended s.completed s.current.id.0 s.env.next_block (ended_by s.current t) next.id.0 refl (y.distinct c) (f c);
  counted = y.counted;
}

pub ids_fresh : (s : State) (t : Terminal) (kind : BlockKind)
    → PreservesIds s (completed_by (reserved s) t (new_block s.env.next_block kind))
ids_fresh s t kind =
    ids_ended (reserved s) t (new_block s.env.next_block kind)
    (ids_counted s.completed s.current.id.0 s.env.next_block (s.env.next_block + 1) (omega arith)) (inr (omega arith))
    (λ c. free_fresh s.completed s.current.id.0 s.env.next_block (s.env.next_block + 1) s.env.next_block c (omega arith) (omega arith))

-- A free block in place of the current one, which then goes on.
pub ids_aside : {completed0 : List BlockPair} {current0 next0 : ℕ} (s s2 : State) (w : ℕ) (t : Terminal)
    → PreservesUniqueIds completed0 current0 next0 s.completed s.current.id.0 s.env.next_block → IsOwn current0 next0 w
    → (UniqueIds completed0 current0 next0 → IsFree s.completed s.current.id.0 s.env.next_block w)
    → PreservesUniqueIds s.completed w s.env.next_block s2.completed s2.current.id.0 s2.env.next_block
    → PreservesUniqueIds completed0 current0 next0 (s2.completed ++ ended_by s2.current t ∷ []) s.current.id.0 s2.env.next_block
ids_aside {completed0} {current0} {next0} s s2 w t y own f u = record {
  added = λ id q. elim (completed_cases s2.completed _ id q) [
    | inl q1 ↦ elim (u.added id q1) [ inl q0 ↦ y.added id q0 | inr o ↦ inr (mine id o) ]
    | inr e ↦ inr (subst (λ (z : ℕ). IsOwn current0 next0 z) (sym e) (mine s2.current.id.0 u.own))
  ];
  own = y.own;
  distinct =
      λ c. distinct_ended s2.completed s2.current.id.0 s2.env.next_block (ended_by s2.current t) s.current.id.0 refl
      (u.distinct (entering c))
      (free_then s.current.id.0 u
      (record { below = (y.distinct c).current_below; unused = (y.distinct c).open_block; other = λ e. (f c).other (sym e) }));
  counted = omega (arith, y.counted, u.counted);
}
  where
    mine : (id : ℕ) → IsOwn w s.env.next_block id → IsOwn current0 next0 id
    mine id o = elim o [ inl e ↦ subst (λ (z : ℕ). IsOwn current0 next0 z) (sym e) own | inr le ↦ inr (omega (arith, le, y.counted)) ]

    entering : UniqueIds completed0 current0 next0 → UniqueIds s.completed w s.env.next_block
    entering c =
        record { apart = (y.distinct c).apart; open_block = (f c).unused; below = (y.distinct c).below; current_below = (f c).below }

-- Other free ids stay free.
pub free_aside : (s s2 : State) (w id : ℕ) (t : Terminal) → IsFree s.completed s.current.id.0 s.env.next_block id → (id ≡ w → ⊥)
    → PreservesUniqueIds s.completed w s.env.next_block s2.completed s2.current.id.0 s2.env.next_block
    → IsFree (s2.completed ++ ended_by s2.current t ∷ []) s.current.id.0 s2.env.next_block id
free_aside s s2 w id t f ne u =
    let g : IsFree s2.completed s2.current.id.0 s2.env.next_block id =
    free_then id u (record { below = f.below; unused = f.unused; other = ne }) in
    record { below = g.below; unused = λ q. elim (completed_cases s2.completed _ id q) [ inl q1 ↦ g.unused q1 | inr e ↦ g.other e ]; other = f.other }

pub free_ended : (s : State) (t : Terminal) (w id : ℕ) → IsFree s.completed s.current.id.0 s.env.next_block id → (id ≡ w → ⊥)
    → IsFree (s.completed ++ ended_by s.current t ∷ []) w s.env.next_block id
free_ended s t w id f ne = record { below = f.below; unused = λ q. elim (completed_cases s.completed _ id q) [ inl q1 ↦ f.unused q1 | inr e ↦ f.other e ]; other = ne }

ids_under : (o : Option BlockId) (s : State) (i : Instruction) → PreservesIds s (pushed_under o s i)
ids_under None s i = ids_refl s.completed s.current.id.0 s.env.next_block
ids_under (Some handler) s i = ids_fresh (plainly_pushed s i) (maybe_throw s.env.next_block handler i.span) s.current.kind

pub ids_pushed : (s : State) (i : Instruction) → PreservesIds s (pushed s i)
ids_pushed s i = ids_under (innermost s.handlers) s i
