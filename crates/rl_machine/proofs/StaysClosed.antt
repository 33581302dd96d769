-- The ordering and the passes make a closed graph.
use Rattle.std.proofs.Common.{◌≡◌, ℕ, zero, suc, ◌<◌, Bool, true, false, if◌then◌else◌, Option, Some, None, List, [], ◌∷◌, ◌++◌, Contains, length, map, refl, sym, ap, ◌∙◌, subst, arith}
use Rattle.std.specs.Prelude.{is_some, slice_index_or}
use Rattle.std.specs.List.{list_any}
use Rattle.rl_base.specs.declared.ids.BlockId.{BlockId}
use Rattle.rl_hir.specs.Blocks.{HaveOwnIds, Pair, block_at, same_id}
use Rattle.rl_hir.specs.Terminals.{fallthrough, fields_of, follows, leads, listed_id, names}
use Rattle.rl_hir.specs.declared.function.BasicBlock.{BasicBlock}
use Rattle.rl_hir.specs.declared.instruction.Instruction.{Instruction}
use Rattle.rl_hir.specs.declared.terminal.Case.{Case}
use Rattle.rl_hir.specs.declared.terminal.GotoVariant.TheVariants as gotos
use Rattle.rl_hir.specs.declared.terminal.TerminalKind.{TerminalKind}
use Rattle.rl_hir.specs.declared.terminal.TerminalKind.TheVariants as kinds
use Rattle.rl_machine.specs.Closed.{IsBlock, IsClosed}
use Rattle.rl_machine.specs.Conditions.{EndsAs, MayOrder, Reached}
use Rattle.rl_machine.specs.Machine.{Graph}
use Rattle.rl_machine.specs.Prunes.{Each}
use Rattle.rl_machine.proofs.Found.{NoPreds, found_passed, passed_blocks, passed_kind, there_tested, there_updated, with_dead}
use Rattle.rl_machine.proofs.KeptRuns.{no_preds_ordered, own_ordered}
use Rattle.rl_machine.proofs.Reading.{any_first, any_later, each_of, any_left, leads_on, led, reached_there}
use Rattle.rl_order.proofs.Fallthroughs.{fallthrough_there}
use Rattle.rl_order.proofs.KeepsReached.{ends_reached}
use Rattle.rl_order.specs.Prune.{IsPruned}
use Rattle.rl_order.specs.Reached.{IsReached, Begins, Goes}
use Rattle.rl_order.specs.Removals.{dead_try, is_there, live_update, without_dead_do_whiles, without_unreachable_updates}
use Rattle.rl_order.specs.Walk.{IsWhole, KeepsReached}
use Rattle.rl_order.specs.declared.predecessors.Edge.{Edge}

each_contains : (is_so : ℕ → Type 0) (bs : List BlockId) (b : BlockId) → Each is_so bs → Contains bs b → is_so b.0
each_contains is_so [] b each c = let below : c.0 < 0 = c.1 in absurd (omega (arith, below))
each_contains is_so (x ∷ bs) b each c = at c.0 c.1 c.2 (λ k below e. each_contains is_so bs b each.1 (k, below, e))
  where
    at : (k : ℕ) → k < length (x ∷ bs) → slice_index_or (x ∷ bs) k b ≡ b → ((n : ℕ) → n < length bs → slice_index_or bs n b ≡ b → is_so b.0) → is_so b.0
    at zero below e rest = subst (λ (n : BlockId). is_so n.0) e each.0
    at (suc k) below e rest = rest k (omega (arith, below)) e

-- The blocks to which a terminal leads after the removals are those of before.
leads_same : (there1 there2 there3 : BlockId → Bool) (id : BlockId) (kind : TerminalKind)
    → leads (fields_of (passed_kind there1 there2 there3 id kind)) ≡ leads (fields_of kind)
leads_same there1 there2 there3 id (kinds.Goto b v) = refl
leads_same there1 there2 there3 id (kinds.If t c a f) = refl
leads_same there1 there2 there3 id (kinds.Branch t c a f) = refl
leads_same there1 there2 there3 id (kinds.Switch t cs f) = refl
leads_same there1 there2 there3 id (kinds.Logical o t f) = refl
leads_same there1 there2 there3 id (kinds.Ternary t f) = refl
leads_same there1 there2 there3 id (kinds.Optional o t f) = refl
leads_same there1 there2 there3 id (kinds.Sequence b f) = refl
leads_same there1 there2 there3 id (kinds.Label b f) = refl
leads_same there1 there2 there3 id (kinds.Try b binding h f) = by_handler (there3 h)
  where
    by_handler : (x : Bool) → leads (fields_of (with_dead (if x then None else Some (record { id = id; block = b; handler = h; fallthrough = f })) (kinds.Try b binding h f))) ≡ b ∷ []
    by_handler true = refl
    by_handler false = refl
leads_same there1 there2 there3 id (kinds.While t b f) = refl
leads_same there1 there2 there3 id (kinds.DoWhile b t f) = by_test (there2 t)
  where
    by_test : (x : Bool) → leads (fields_of (with_dead (dead_try there3 id (if x then kinds.DoWhile b t f else kinds.Goto b gotos.Break)) (if x then kinds.DoWhile b t f else kinds.Goto b gotos.Break))) ≡ b ∷ []
    by_test true = refl
    by_test false = refl
leads_same there1 there2 there3 id (kinds.For i t u b f) = refl
leads_same there1 there2 there3 id (kinds.ForIn i b f) = refl
leads_same there1 there2 there3 id (kinds.ForOf i t b f) = refl
leads_same there1 there2 there3 id (kinds.MaybeThrow b h) = refl
leads_same there1 there2 there3 id (kinds.Return v p) = refl
leads_same there1 there2 there3 id (kinds.Throw p) = refl
leads_same there1 there2 there3 id kinds.Unreachable = refl

module _ (g : Graph) (ordered : List Pair) (edges : List Edge) (whole : IsWhole g.blocks g.entry) (keeps : KeepsReached g.blocks g.entry ordered)
    (falls : (id behind : BlockId) (block : BasicBlock) → Reached g id.0 → block_at g.blocks id ≡ Some block → fallthrough block.terminal ≡ Some behind → is_there ordered behind ≡ true)
    (own : HaveOwnIds ordered) (none : NoPreds ordered) (may : MayOrder g) where
  abbrev There : ℕ → Type 0
  There id = is_there ordered (record { 0 = id }) ≡ true

  abbrev after : BlockId → TerminalKind → TerminalKind
  after id kind = passed_kind (is_there ordered) (is_there (without_unreachable_updates ordered)) (is_there (without_dead_do_whiles (without_unreachable_updates ordered))) id kind

  reached_ordered : (id : ℕ) → Reached g id → There id
  reached_ordered id r =
      let found : (block : BasicBlock) × (block_at g.blocks (record { 0 = id }) ≡ Some block) = reached_there g.blocks g.entry (record { 0 = id }) whole r in
      ap (λ o. is_some o) (keeps (record { 0 = id }) r ∙ found.1)

  led_there : (id : BlockId) (kind : TerminalKind) → EndsAs g id kind → (b : BlockId) → list_any (same_id b) (leads (fields_of kind)) ≡ true → There b.0
  led_there id kind e b is = reached_ordered b.0 (leads_on g id kind e b is)

  behind_there : (id : BlockId) (kind : TerminalKind) (behind : BlockId) → EndsAs g id kind → follows (fields_of kind) ≡ Some behind → There behind.0
  behind_there id kind behind e is = falls id behind e.block e.reached e.there (ap (λ (k : TerminalKind). follows (fields_of k)) e.ends ∙ is)

  each_there : (bs : List BlockId) → Each (Reached g) bs → Each There bs
  each_there [] each = tt
  each_there (b ∷ bs) each = (reached_ordered b.0 each.0, each_there bs each.1)

  each_more : (xs ys : List BlockId) → Each There xs → Each There ys → Each There (xs ++ ys)
  each_more [] ys ex ey = ey
  each_more (x ∷ xs) ys ex ey = (ex.0, each_more xs ys ex.1 ey)

  -- The blocks that a terminal names after the removals are among the ordered ones.
  named_there : (id : BlockId) (kind : TerminalKind) → EndsAs g id kind → Each There (names (fields_of (after id kind)))
  named_there id (kinds.Goto b v) e = (led_there id _ e b (any_first b []), tt)
  named_there id (kinds.If t c a f) e =
      (led_there id _ e c (any_first c (a ∷ [])), (led_there id _ e a (any_later a c (a ∷ []) (any_first a [])), (behind_there id _ f e refl, tt)))
  named_there id (kinds.Branch t c a f) e =
      (led_there id _ e c (any_first c (a ∷ [])), (led_there id _ e a (any_later a c (a ∷ []) (any_first a [])), (behind_there id _ f e refl, tt)))
  named_there id (kinds.Switch t cases f) e =
      each_more (map (λ (c : Case). c.block) cases) (f ∷ [])
      (each_of There (map (λ (c : Case). c.block) cases) (map (λ (c : Case). c.block) cases ++ []) (λ b is. any_left b (map (λ (c : Case). c.block) cases) [] is) (led_there id _ e))
      (behind_there id _ f e refl, tt)
  named_there id (kinds.Logical o t f) e = (led_there id _ e t (any_first t []), (behind_there id _ f e refl, tt))
  named_there id (kinds.Ternary t f) e = (led_there id _ e t (any_first t []), (behind_there id _ f e refl, tt))
  named_there id (kinds.Optional o t f) e = (led_there id _ e t (any_first t []), (behind_there id _ f e refl, tt))
  named_there id (kinds.Sequence b f) e = (led_there id _ e b (any_first b []), (behind_there id _ f e refl, tt))
  named_there id (kinds.Label b f) e = (led_there id _ e b (any_first b []), (behind_there id _ f e refl, tt))
  named_there id (kinds.Try b binding h f) e = by_handler (is_there (without_dead_do_whiles (without_unreachable_updates ordered)) h) refl
    where
      by_handler : (x : Bool) → is_there (without_dead_do_whiles (without_unreachable_updates ordered)) h ≡ x
          → Each There (names (fields_of (with_dead (if x then None else Some (record { id = id; block = b; handler = h; fallthrough = f })) (kinds.Try b binding h f))))
      by_handler true is = (led_there id _ e b (any_first b []), (sym (there_tested ordered h) ∙ is, (behind_there id _ f e refl, tt)))
      by_handler false is = (led_there id _ e b (any_first b []), tt)
  named_there id (kinds.While t b f) e = each_there (t ∷ b ∷ f ∷ []) (may.loops id _ e)
  named_there id (kinds.DoWhile b t f) e = by_test (is_there (without_unreachable_updates ordered) t) refl
    where
      by_test : (x : Bool) → is_there (without_unreachable_updates ordered) t ≡ x
          → Each There (names (fields_of (with_dead (dead_try (is_there (without_dead_do_whiles (without_unreachable_updates ordered))) id (if x then kinds.DoWhile b t f else kinds.Goto b gotos.Break)) (if x then kinds.DoWhile b t f else kinds.Goto b gotos.Break))))
      by_test true is = (led_there id _ e b (any_first b []), (sym (there_updated ordered t) ∙ is, (behind_there id _ f e refl, tt)))
      by_test false is = (led_there id _ e b (any_first b []), tt)
  named_there id (kinds.For i t u b f) e =
      let rest : Each There (t ∷ b ∷ f ∷ []) = each_there (t ∷ b ∷ f ∷ []) (may.loops id _ e) in
      (led_there id _ e i (any_first i []), (rest.0, each_more (listed_id (live_update (is_there ordered) u)) (b ∷ f ∷ []) (by_update u) rest.1))
    where
      kept_update : (x : BlockId) (b1 : Bool) → is_there ordered x ≡ b1 → Each There (listed_id (if b1 then Some x else None))
      kept_update x true is = (is, tt)
      kept_update x false is = tt

      by_update : (o : Option BlockId) → Each There (listed_id (live_update (is_there ordered) o))
      by_update None = tt
      by_update (Some x) = kept_update x (is_there ordered x) refl
  named_there id (kinds.ForIn i b f) e = (led_there id _ e i (any_first i []), each_there (b ∷ f ∷ []) (may.loops id _ e))
  named_there id (kinds.ForOf i t b f) e = (led_there id _ e i (any_first i []), each_there (t ∷ b ∷ f ∷ []) (may.loops id _ e))
  named_there id (kinds.MaybeThrow b None) e = (led_there id _ e b (any_first b []), tt)
  named_there id (kinds.MaybeThrow b (Some h)) e = (led_there id _ e b (any_first b (h ∷ [])), (led_there id _ e h (any_later h b (h ∷ []) (any_first h [])), tt))
  named_there id (kinds.Return v p) e = tt
  named_there id (kinds.Throw p) e = tt
  named_there id kinds.Unreachable e = tt

  -- No reached block ends as unreachable after the removals.
  never_unreachable : (id : BlockId) (kind : TerminalKind) → EndsAs g id kind → after id kind ≡ kinds.Unreachable → ⊥
  never_unreachable id (kinds.Goto b v) e is = absurd (cc)
  never_unreachable id (kinds.If t c a f) e is = absurd (cc)
  never_unreachable id (kinds.Branch t c a f) e is = absurd (cc)
  never_unreachable id (kinds.Switch t cs f) e is = absurd (cc)
  never_unreachable id (kinds.Logical o t f) e is = absurd (cc)
  never_unreachable id (kinds.Ternary t f) e is = absurd (cc)
  never_unreachable id (kinds.Optional o t f) e is = absurd (cc)
  never_unreachable id (kinds.Sequence b f) e is = absurd (cc)
  never_unreachable id (kinds.Label b f) e is = absurd (cc)
  never_unreachable id (kinds.Try b binding h f) e is = by_handler (is_there (without_dead_do_whiles (without_unreachable_updates ordered)) h) is
    where
      by_handler : (x : Bool) → with_dead (if x then None else Some (record { id = id; block = b; handler = h; fallthrough = f })) (kinds.Try b binding h f) ≡ kinds.Unreachable → ⊥
      by_handler true e1 = absurd (cc)
      by_handler false e1 = absurd (cc)
  never_unreachable id (kinds.While t b f) e is = absurd (cc)
  never_unreachable id (kinds.DoWhile b t f) e is = by_test (is_there (without_unreachable_updates ordered) t) is
    where
      by_test : (x : Bool) → with_dead (dead_try (is_there (without_dead_do_whiles (without_unreachable_updates ordered))) id (if x then kinds.DoWhile b t f else kinds.Goto b gotos.Break)) (if x then kinds.DoWhile b t f else kinds.Goto b gotos.Break) ≡ kinds.Unreachable → ⊥
      by_test true e1 = absurd (cc)
      by_test false e1 = absurd (cc)
  never_unreachable id (kinds.For i t u b f) e is = absurd (cc)
  never_unreachable id (kinds.ForIn i b f) e is = absurd (cc)
  never_unreachable id (kinds.ForOf i t b f) e is = absurd (cc)
  never_unreachable id (kinds.MaybeThrow b h) e is = absurd (cc)
  never_unreachable id (kinds.Return v p) e is = absurd (cc)
  never_unreachable id (kinds.Throw p) e is = absurd (cc)
  never_unreachable id kinds.Unreachable e is = may.ended id e

  ordered_passed : (id : BlockId) → is_there ordered id ≡ true → IsBlock (passed_blocks edges ordered) id
  ordered_passed id there = by_block (block_at ordered id) refl there
    where
      by_block : (o : Option BasicBlock) → block_at ordered id ≡ o → is_some o ≡ true → IsBlock (passed_blocks edges ordered) id
      by_block None at e = absurd (cc)
      by_block (Some block) at e =
          (let f = found_passed edges ordered id block.instructions block.terminal.kind own none (record { block = block; there = at; lists = refl; ends = refl }) in (f.block, f.there))

  -- A block that is reached in the graph, with its end after the passes.
  ends_after : (id : BlockId) (block : BasicBlock) → Reached g id.0 → block_at (passed_blocks edges ordered) id ≡ Some block
      → (kind : TerminalKind) × EndsAs g id kind × (block.terminal.kind ≡ after id kind)
  ends_after id block r at =
      let found : (q : BasicBlock) × (block_at g.blocks id ≡ Some q) = reached_there g.blocks g.entry id whole r in
      let f = found_passed edges ordered id found.0.instructions found.0.terminal.kind own none (record { block = found.0; there = keeps id r ∙ found.1; lists = refl; ends = refl }) in
      let both : Some f.block ≡ Some block = sym f.there ∙ at in
      let same : f.block ≡ block = cc in
      (found.0.terminal.kind, record { reached = r; block = found.0; there = found.1; ends = refl }, ap (λ (q : BasicBlock). q.terminal.kind) (sym same) ∙ f.ends)

  -- A block that is reached after the passes was reached before them.
  reached_before : (id : BlockId) → IsReached (passed_blocks edges ordered) g.entry id → Reached g id.0
  reached_before id Begins = Begins
  reached_before id (Goes a b block r there leads_b) =
      let e = ends_after a block (reached_before a r) there in
      leads_on g a e.0 e.1 b
      (sym (ap (λ bs. list_any (same_id b) bs) (ap (λ (k : TerminalKind). leads (fields_of k)) e.2 ∙ leads_same _ _ _ a e.0)) ∙ leads_b)

  pub passed_closed : IsClosed (record { entry = g.entry; blocks = passed_blocks edges ordered })
  passed_closed = record {
    entry_block = ordered_passed g.entry (reached_ordered g.entry.0 Begins);
    names = λ id other block r at named.
        let e = ends_after id block (reached_before id r) at in
        ordered_passed other (each_contains There (names (fields_of (after id e.0))) other (named_there id e.0 e.1)
        (subst (λ (k : TerminalKind). Contains (names (fields_of k)) other) e.2 named));
    ends = λ id block r at is.
        let e = ends_after id block (reached_before id r) at in
        never_unreachable id e.0 e.1 (sym e.2 ∙ is);
  }

-- The ordering and the passes make a closed graph.
pub pruned_closed : (g : Graph) (pruned : List Pair) (numbered : List Instruction) → IsWhole g.blocks g.entry → IsPruned g.blocks g.entry g.table pruned numbered
    → MayOrder g → IsClosed (record { entry = g.entry; blocks = pruned })
pruned_closed g pruned numbered whole p may =
    subst (λ (t : List Pair). IsClosed (record { entry = g.entry; blocks = t })) (sym p.marked.blocks)
    (passed_closed g p.ordered p.marked.edges whole (ends_reached g.blocks g.entry p.order.end p.ordered p.order.walk p.order.blocks)
    (λ id behind block r at falls. fallthrough_there g.blocks g.entry p.ordered p.order id behind block r at falls (led g.blocks g.entry id behind block whole at (ap (λ x. listed_id x) falls)))
    (own_ordered g.blocks p.ordered g.entry p.order) (no_preds_ordered g.blocks p.ordered g.entry p.order may.fresh) may)
