-- The ordering of a graph and the passes over it keep its runs.
use Rattle.std.proofs.Common.{◌≡◌, ℕ, zero, suc, Bool, true, false, if◌then◌else◌, Option, Some, None, List, [], ◌∷◌, ◌++◌, length, reverse, slice_get, refl, sym, ap, ◌∙◌, subst, arith, true≢false, eq-eqb, ◌||◌}
use Rattle.std.specs.Prelude.{nat_eq, is_some}
use Rattle.std.specs.Option.{option_map}
use Rattle.rl_base.specs.declared.ids.BlockId.{BlockId}
use Rattle.rl_base.specs.declared.ids.IdentifierId.{IdentifierId}
use Rattle.rl_base.specs.declared.ids.InstructionId.{InstructionId}
use Rattle.rl_hir.specs.Blocks.{HaveOwnIds, Pair, block_at, ids, same_id}
use Rattle.rl_hir.specs.Terminals.{fallthrough, fields_of, follows, listed_id}
use Rattle.rl_base.proofs.DistinctLists.{IsIn, distinct_cons, distinct_none, in_none}
use Rattle.std.specs.List.{list_any}
use Rattle.rl_hir.specs.declared.function.BasicBlock.{BasicBlock}
use Rattle.rl_hir.specs.declared.instruction.Instruction.{Instruction}
use Rattle.rl_hir.specs.declared.instruction.InstructionValue.{InstructionValue}
use Rattle.rl_hir.specs.declared.terminal.GotoVariant.TheVariants as gotos
use Rattle.rl_hir.specs.declared.terminal.Terminal.{Terminal}
use Rattle.rl_hir.specs.declared.terminal.TerminalKind.{TerminalKind}
use Rattle.rl_hir.specs.declared.terminal.TerminalKind.TheVariants as kinds
use Rattle.rl_machine.specs.Conditions.{EndsAs, IsDropped, KeepsRuns, MayOrder, Reached, ReadsAt, StepsAt}
use Rattle.rl_machine.specs.Machine.{Graph, code_of}
use Rattle.rl_machine.specs.Ends.{catcher_of, leaving}
use Rattle.rl_machine.specs.Machine.{Item, Runs, Ends, block_of, catcher_at, item_at, item_by, item_in, positions}
use Rattle.rl_machine.specs.Prunes.{Becomes, LeavesAs, Stays, Unnoted, Prunes}
use Rattle.rl_machine.specs.Traces.{World}
use Rattle.rl_order.specs.Numbering.{ordered_table}
use Rattle.rl_order.proofs.Fallthroughs.{fallthrough_there}
use Rattle.rl_order.proofs.Ordering.{walked_good}
use Rattle.rl_order.proofs.KeepsReached.{ends_reached}
use Rattle.rl_order.specs.Own.{AreOwn}
use Rattle.rl_order.specs.Prune.{IsPruned}
use Rattle.rl_order.specs.Reached.{Begins}
use Rattle.rl_order.specs.Removals.{dead_try, is_there, without_dead_do_whiles, without_dead_tries, without_unreachable_updates}
use Rattle.rl_order.specs.Walk.{IsOrdered, IsWhole, KeepsReached, Walk, emptied, is_noted, is_used, kept, kept_block}
use Rattle.rl_order.specs.declared.predecessors.Edge.{Edge}
use Rattle.rl_machine.proofs.Found.{Found, NoPreds, found_passed, passed_blocks, passed_kind, there_tested, there_updated, with_dead}
use Rattle.rl_machine.proofs.Points.{item_within, points_count, points_in}
use Rattle.rl_machine.proofs.Pruned.{pruned_traces}
use Rattle.rl_machine.proofs.Reading.{any_later, handler_reached, item_stays, led, reached_there}
use Rattle.rl_machine.proofs.Tables.{plain, plain_at, table_plain}

-- Instructions that are alike do alike.
alike : (read : ℕ → Type 0) (table table1 : List Instruction) → ((n : ℕ) → plain_at table1 n ≡ plain_at table n) → (terminal terminal1 : Terminal)
    → LeavesAs read (leaving terminal.kind) (leaving terminal1.kind) → (o : Option InstructionId) (end : Bool)
    → Becomes read (item_by table o end terminal) (item_by table1 o end terminal1)
alike read table table1 same terminal terminal1 leaves None true = leaves
alike read table table1 same terminal terminal1 leaves None false = tt
alike read table table1 same terminal terminal1 leaves (Some number) end = by_entries (slice_get table number.0) (slice_get table1 number.0) (same number.0)
  where
    by_entries : (o o1 : Option Instruction) → option_map plain o1 ≡ option_map plain o → Becomes read (option_map (λ i. Runs i) o) (option_map (λ i. Runs i) o1)
    by_entries None None e = tt
    by_entries None (Some j) e = absurd (cc)
    by_entries (Some i) None e = absurd (cc)
    by_entries (Some i) (Some j) e =
        (let both : plain j ≡ plain i = cc in (ap (λ (p : IdentifierId × InstructionValue). p.0) both, ap (λ (p : IdentifierId × InstructionValue). p.1) both))

module _ (g : Graph) (ordered : List Pair) (may : MayOrder g) (dropped : (b : BlockId) → is_there ordered b ≡ false → IsDropped g b) where
  -- The end of a reached block after the removals.
  leaves_so : (there1 there2 there3 : BlockId → Bool) → ((b : BlockId) → there2 b ≡ is_there ordered b) → ((b : BlockId) → there3 b ≡ is_there ordered b)
      → (id : BlockId) (kind : TerminalKind) → EndsAs g id kind
      → LeavesAs (ReadsAt g) (leaving kind) (leaving (passed_kind there1 there2 there3 id kind)) × (catcher_of (passed_kind there1 there2 there3 id kind) ≡ catcher_of kind)
  leaves_so there1 there2 there3 same2 same3 id (kinds.Goto b v) e = (Stays _, refl)
  leaves_so there1 there2 there3 same2 same3 id (kinds.If t c a f) e = (Stays _, refl)
  leaves_so there1 there2 there3 same2 same3 id (kinds.Branch t c a f) e = (Stays _, refl)
  leaves_so there1 there2 there3 same2 same3 id (kinds.Switch t cs f) e = (Stays _, refl)
  leaves_so there1 there2 there3 same2 same3 id (kinds.Logical o t f) e = (Stays _, refl)
  leaves_so there1 there2 there3 same2 same3 id (kinds.Ternary t f) e = (Stays _, refl)
  leaves_so there1 there2 there3 same2 same3 id (kinds.Optional o t f) e = (Stays _, refl)
  leaves_so there1 there2 there3 same2 same3 id (kinds.Sequence b f) e = (Stays _, refl)
  leaves_so there1 there2 there3 same2 same3 id (kinds.Label b f) e = (Stays _, refl)
  leaves_so there1 there2 there3 same2 same3 id (kinds.Try b binding h f) e = by_handler (there3 h) refl
    where
      by_handler : (x : Bool) → there3 h ≡ x
          → LeavesAs (ReadsAt g) (leaving (kinds.Try b binding h f)) (leaving (with_dead (if x then None else Some (record { id = id; block = b; handler = h; fallthrough = f })) (kinds.Try b binding h f)))
          × (catcher_of (with_dead (if x then None else Some (record { id = id; block = b; handler = h; fallthrough = f })) (kinds.Try b binding h f)) ≡ None)
      by_handler true is = (Stays _, refl)
      by_handler false is =
          (let none : (ReadsAt g h.0 → ⊥) × (ReadsAt g f.0 → ⊥) = may.dead_tries id b binding h f e (dropped h (sym (same3 h) ∙ is)) in
          (Unnoted b _ (none.0, (none.1, tt)), refl))
  leaves_so there1 there2 there3 same2 same3 id (kinds.While t b f) e = (Stays _, refl)
  leaves_so there1 there2 there3 same2 same3 id (kinds.DoWhile b t f) e = by_test (there2 t) refl
    where
      by_test : (x : Bool) → there2 t ≡ x
          → LeavesAs (ReadsAt g) (leaving (kinds.DoWhile b t f))
          (leaving (with_dead (dead_try there3 id (if x then kinds.DoWhile b t f else kinds.Goto b gotos.Break)) (if x then kinds.DoWhile b t f else kinds.Goto b gotos.Break)))
          × (catcher_of (with_dead (dead_try there3 id (if x then kinds.DoWhile b t f else kinds.Goto b gotos.Break)) (if x then kinds.DoWhile b t f else kinds.Goto b gotos.Break)) ≡ None)
      by_test true is = (Stays _, refl)
      by_test false is =
          (let none : (ReadsAt g t.0 → ⊥) × (ReadsAt g f.0 → ⊥) = may.dead_loops id b t f e (dropped t (sym (same2 t) ∙ is)) in
          (Unnoted b _ (none.0, (none.1, tt)), refl))
  leaves_so there1 there2 there3 same2 same3 id (kinds.For i t u b f) e = (Stays _, refl)
  leaves_so there1 there2 there3 same2 same3 id (kinds.ForIn i b f) e = (Stays _, refl)
  leaves_so there1 there2 there3 same2 same3 id (kinds.ForOf i t b f) e = (Stays _, refl)
  leaves_so there1 there2 there3 same2 same3 id (kinds.MaybeThrow b h) e = (Stays _, refl)
  leaves_so there1 there2 there3 same2 same3 id (kinds.Return v p) e = (Stays _, refl)
  leaves_so there1 there2 there3 same2 same3 id (kinds.Throw p) e = (Stays _, refl)
  leaves_so there1 there2 there3 same2 same3 id kinds.Unreachable e = (Stays _, refl)

-- No block has a predecessor after the ordering, if none has before it.
abbrev pub Fresh : List Pair → Type 0
Fresh graph = (id : BlockId) (block : BasicBlock) → block_at graph id ≡ Some block → block.preds ≡ []

no_preds_more : (xs ys : List Pair) → NoPreds xs → NoPreds ys → NoPreds (xs ++ ys)
no_preds_more [] ys nx ny = ny
no_preds_more (x ∷ xs) ys nx ny = (nx.0, no_preds_more xs ys nx.1 ny)

no_preds_kept : (graph : List Pair) (w : Walk) (listed : List BlockId) → Fresh graph → NoPreds (kept graph w listed)
no_preds_kept graph w [] n = tt
no_preds_kept graph w (id ∷ listed) n = no_preds_more _ (kept graph w listed) (by_block (block_at graph id) refl) (no_preds_kept graph w listed n)
  where
    by_use : (block : BasicBlock) → block.preds ≡ [] → (used noted : Bool) → NoPreds (if used then (id, block) ∷ [] else (if noted then (id, emptied block) ∷ [] else []))
    by_use block e true noted = (e, tt)
    by_use block e false true = (e, tt)
    by_use block e false false = tt

    by_block : (o : Option BasicBlock) → block_at graph id ≡ o → NoPreds (elim o [ Some block ↦ kept_block w id block | None ↦ [] ])
    by_block None is = tt
    by_block (Some block) is = by_use block (n id block is) (is_used w id) (is_noted w id)

pub no_preds_ordered : (graph ordered : List Pair) (entry : BlockId) → IsOrdered graph entry ordered → Fresh graph → NoPreds ordered
no_preds_ordered graph ordered entry o n =
    subst (λ (t : List Pair). NoPreds t) (sym o.blocks) (no_preds_kept graph o.end (reverse o.end.appended) n)

-- The graph after the removals, the numbering and the predecessors.
abbrev pub passed : List Edge → List Pair → Graph → Graph
passed edges ordered g = record {
  blocks = passed_blocks edges ordered;
  table = ordered_table 1 (without_dead_tries (without_dead_do_whiles (without_unreachable_updates ordered))) g.table;
  entry = g.entry;
}

module _ (g : Graph) (ordered : List Pair) (edges : List Edge) (whole : IsWhole g.blocks g.entry) (kept_reached : KeepsReached g.blocks g.entry ordered)
    (own : HaveOwnIds ordered) (none : NoPreds ordered) (may : MayOrder g) (dropped : (b : BlockId) → is_there ordered b ≡ false → IsDropped g b) (ident : ℕ → Option ℕ) (world : World) where
  abbrev kind_after : ℕ → BasicBlock → TerminalKind
  kind_after id block =
      passed_kind (is_there ordered) (is_there (without_unreachable_updates ordered)) (is_there (without_dead_do_whiles (without_unreachable_updates ordered))) (record { 0 = id }) block.terminal.kind

  abbrev Passed : ℕ → Type 0
  Passed id = (block : BasicBlock) × (block_of g.blocks id ≡ Some block) × Found (passed_blocks edges ordered) (record { 0 = id }) block.instructions (kind_after id block)

  -- A reached block, before and after.
  block_passed : (id : ℕ) → Reached g id → Passed id
  block_passed id r =
      let there : (block : BasicBlock) × (block_of g.blocks id ≡ Some block) = reached_there g.blocks g.entry (record { 0 = id }) whole r in (
        there.0,
        there.1,
        found_passed edges ordered (record { 0 = id }) there.0.instructions there.0.terminal.kind own none
            (record { block = there.0; there = kept_reached (record { 0 = id }) r ∙ there.1; lists = refl; ends = refl }),
      )

  ends_so : (id : ℕ) (block : BasicBlock) → Reached g id → block_of g.blocks id ≡ Some block
      → LeavesAs (ReadsAt g) (leaving block.terminal.kind) (leaving (kind_after id block))
      × (catcher_of (kind_after id block) ≡ catcher_of block.terminal.kind)
  ends_so id block r there =
      leaves_so g ordered may dropped _ _ _ (there_updated ordered) (there_tested ordered) (record { 0 = id }) block.terminal.kind (record { reached = r; block = block; there = there; ends = refl })

  items_so : (id place : ℕ) → Reached g id
      → Becomes (ReadsAt g) (item_at g.table (block_of g.blocks id) place) (item_at (passed edges ordered g).table (block_of (passed_blocks edges ordered) id) place)
  items_so id place r =
      let b : Passed id = block_passed id r in
      let f = b.2 in
      let leaves = (ends_so id b.0 r b.1).0 in
      subst (λ (o : Option BasicBlock). Becomes (ReadsAt g) (item_at g.table o place) (item_at (passed edges ordered g).table (block_of (passed_blocks edges ordered) id) place)) (sym b.1)
      (subst (λ (o : Option BasicBlock). Becomes (ReadsAt g) (item_in g.table b.0 place) (item_at (passed edges ordered g).table o place)) (sym f.there)
      (subst (λ (listed : List InstructionId). Becomes (ReadsAt g) (item_in g.table b.0 place) (item_by (passed edges ordered g).table (slice_get listed place) (nat_eq place (length listed)) f.block.terminal)) (sym f.lists)
      (alike (ReadsAt g) g.table (passed edges ordered g).table (table_plain 1 (without_dead_tries (without_dead_do_whiles (without_unreachable_updates ordered))) g.table) b.0.terminal f.block.terminal
      (subst (λ (k : TerminalKind). LeavesAs (ReadsAt g) (leaving b.0.terminal.kind) (leaving k)) (sym f.ends) leaves)
      (slice_get b.0.instructions place) (nat_eq place (length b.0.instructions)))))

  catchers_so : (id : ℕ) → Reached g id → catcher_at (block_of (passed_blocks edges ordered) id) ≡ catcher_at (block_of g.blocks id)
  catchers_so id r =
      let b : Passed id = block_passed id r in
      let f = b.2 in
      ap (λ o. catcher_at o) f.there ∙ ap (λ (k : TerminalKind). catcher_of k) f.ends ∙ (ends_so id b.0 r b.1).1 ∙ sym (ap (λ o. catcher_at o) b.1)

  pub passes_prune : Prunes (Reached g) (ReadsAt g) (StepsAt g) (code_of g ident world) (code_of (passed edges ordered g) ident world)
  passes_prune = record {
    items = items_so;
    stays = λ id place item r is. item_stays g may id place item r is;
    catchers = catchers_so;
    handlers = λ id handler r is. handler_reached g id handler r is;
    reads = λ id s. Rattle.rl_machine.specs.Conditions.ByStep id s;
    shared = refl;
  }

  -- A point of a reached block that has an item is one of the ordered graph's.
  still_within : (id place : ℕ) (item : Item) → Reached g id → item_at g.table (block_of g.blocks id) place ≡ Some item
      → Rattle.rl_machine.specs.Prunes.is_passed (id, place) (points_in (passed_blocks edges ordered)) ≡ true
  still_within id place item r is =
      by_item (item_at (passed edges ordered g).table (block_of (passed_blocks edges ordered) id) place) refl
      (subst (λ o. Becomes (ReadsAt g) o (item_at (passed edges ordered g).table (block_of (passed_blocks edges ordered) id) place)) is (items_so id place r))
    where
      by_item : (o : Option Item) → item_at (passed edges ordered g).table (block_of (passed_blocks edges ordered) id) place ≡ o → Becomes (ReadsAt g) (Some item) o
          → Rattle.rl_machine.specs.Prunes.is_passed (id, place) (points_in (passed_blocks edges ordered)) ≡ true
      by_item None e b = absurd (never item b)
        where
          never : (it : Item) → Becomes (ReadsAt g) (Some it) None → ⊥
          never (Runs i) x = x
          never (Ends t) x = x
      by_item (Some other) e b = item_within (passed_blocks edges ordered) (passed edges ordered g).table id place other e

-- A block that is not among the ordered ones is dropped.
dropped_if : (g : Graph) (ordered : List Pair) → IsWhole g.blocks g.entry → IsOrdered g.blocks g.entry ordered → KeepsReached g.blocks g.entry ordered
    → (b : BlockId) → is_there ordered b ≡ false → IsDropped g b
dropped_if g ordered whole o keeps b gone = record {
  unreached = λ r.
      let there : (block : BasicBlock) × (block_at g.blocks b ≡ Some block) = reached_there g.blocks g.entry b whole r in
      true≢false (sym (ap (λ x. is_some x) (keeps b r ∙ there.1)) ∙ gone);
  behind_none = λ from kind e falls.
      let behind : fallthrough e.block.terminal ≡ Some b = ap (λ (k : TerminalKind). follows (fields_of k)) e.ends ∙ falls in
      true≢false (sym (fallthrough_there g.blocks g.entry ordered o from b e.block e.reached e.there behind (led g.blocks g.entry from b e.block whole e.there (ap (λ x. listed_id x) behind))) ∙ gone);
}

-- An id of a kept block is one of the listed ids.
kept_among : (graph : List Pair) (w : Walk) (listed : List BlockId) (id : BlockId) → IsIn (ids (kept graph w listed)) id.0 → list_any (same_id id) listed ≡ true
kept_among graph w [] id there = absurd (in_none id.0 there)
kept_among graph w (x ∷ listed) id there = by_block (block_at graph x) there (λ later. any_later id x listed (kept_among graph w listed id later))
  where
    head : (block : BasicBlock) → IsIn (x.0 ∷ ids (kept graph w listed)) id.0 → (IsIn (ids (kept graph w listed)) id.0 → list_any (same_id id) (x ∷ listed) ≡ true) → list_any (same_id id) (x ∷ listed) ≡ true
    head block h rest = at h.index h.found
      where
        at : (index : ℕ) → slice_get (x.0 ∷ ids (kept graph w listed)) index ≡ Some id.0 → list_any (same_id id) (x ∷ listed) ≡ true
        at zero e = (let same : x.0 ≡ id.0 = cc in let hit : same_id id x ≡ true = eq-eqb id.0 x.0 (sym same) in ap (λ b. b || list_any (same_id id) listed) hit)
        at (suc index) e = rest (record { index = index; found = e })

    by_use : (block : BasicBlock) (used noted : Bool) → IsIn (ids ((if used then (x, block) ∷ [] else (if noted then (x, emptied block) ∷ [] else [])) ++ kept graph w listed)) id.0
        → (IsIn (ids (kept graph w listed)) id.0 → list_any (same_id id) (x ∷ listed) ≡ true) → list_any (same_id id) (x ∷ listed) ≡ true
    by_use block true noted h rest = head block h rest
    by_use block false true h rest = head block h rest
    by_use block false false h rest = rest h

    by_block : (o : Option BasicBlock) → IsIn (ids (elim o [ Some block ↦ kept_block w x block | None ↦ [] ] ++ kept graph w listed)) id.0
        → (IsIn (ids (kept graph w listed)) id.0 → list_any (same_id id) (x ∷ listed) ≡ true) → list_any (same_id id) (x ∷ listed) ≡ true
    by_block None h rest = rest h
    by_block (Some block) h rest = by_use block (is_used w x) (is_noted w x) h rest

-- Ordered blocks have ids of their own.
kept_own : (graph : List Pair) (w : Walk) (listed : List BlockId) → AreOwn listed → HaveOwnIds (kept graph w listed)
kept_own graph w [] own = distinct_none
kept_own graph w (id ∷ listed) own = by_block (block_at graph id) (kept_own graph w listed own.1)
  where
    fresh : (rest : List BlockId) → list_any (same_id id) rest ≡ false → IsIn (ids (kept graph w rest)) id.0 → ⊥
    fresh rest none there = true≢false (sym (kept_among graph w rest id there) ∙ none)

    by_use : (block : BasicBlock) (used noted : Bool) → HaveOwnIds (kept graph w listed)
        → HaveOwnIds ((if used then (id, block) ∷ [] else (if noted then (id, emptied block) ∷ [] else [])) ++ kept graph w listed)
    by_use block true noted rest = distinct_cons id.0 (ids (kept graph w listed)) (fresh listed own.0) rest
    by_use block false true rest = distinct_cons id.0 (ids (kept graph w listed)) (fresh listed own.0) rest
    by_use block false false rest = rest

    by_block : (o : Option BasicBlock) → HaveOwnIds (kept graph w listed) → HaveOwnIds (elim o [ Some block ↦ kept_block w id block | None ↦ [] ] ++ kept graph w listed)
    by_block None rest = rest
    by_block (Some block) rest = by_use block (is_used w id) (is_noted w id) rest

pub own_ordered : (graph ordered : List Pair) (entry : BlockId) → IsOrdered graph entry ordered → HaveOwnIds ordered
own_ordered graph ordered entry o =
    subst (λ (t : List Pair). HaveOwnIds t) (sym o.blocks) (kept_own graph o.end (reverse o.end.appended) (walked_good graph entry o.end o.walk).own)

-- The ordering and the passes keep the runs of a graph.
pub pruned_keeps : (g : Graph) (pruned : List Pair) (numbered : List Instruction) → IsWhole g.blocks g.entry → IsPruned g.blocks g.entry g.table pruned numbered
    → MayOrder g → KeepsRuns g (record { blocks = pruned; table = numbered; entry = g.entry })
pruned_keeps g pruned numbered whole p may =
    subst (λ (t : List Pair). KeepsRuns g (record { blocks = t; table = numbered; entry = g.entry })) (sym p.marked.blocks)
    (subst (λ (t : List Instruction). KeepsRuns g (record { blocks = passed_blocks p.marked.edges p.ordered; table = t; entry = g.entry })) (sym p.orders) kept_so)
  where
    keeps : KeepsReached g.blocks g.entry p.ordered
    keeps = ends_reached g.blocks g.entry p.order.end p.ordered p.order.walk p.order.blocks

    own : HaveOwnIds p.ordered
    own = own_ordered g.blocks p.ordered g.entry p.order

    none : NoPreds p.ordered
    none = no_preds_ordered g.blocks p.ordered g.entry p.order may.fresh

    dropped : (b : BlockId) → is_there p.ordered b ≡ false → IsDropped g b
    dropped = dropped_if g p.ordered whole p.order keeps

    kept_so : KeepsRuns g (passed p.marked.edges p.ordered g)
    kept_so stuck ident world params once start arguments answers =
        pruned_traces (Reached g) (ReadsAt g) (StepsAt g) (code_of g ident world) (code_of (passed p.marked.edges p.ordered g) ident world)
        (passes_prune g p.ordered p.marked.edges whole keeps own none may dropped ident world) g.entry params Begins once (points_in g.blocks) (points_in (passed_blocks p.marked.edges p.ordered))
        (λ id place item r is. item_within g.blocks g.table id place item is)
        (λ id place item r is. still_within g p.ordered p.marked.edges whole keeps own none may dropped ident world id place item r is)
        (positions g.blocks) (positions (passed_blocks p.marked.edges p.ordered)) (let e : length (points_in g.blocks) ≡ positions g.blocks = points_count g.blocks in omega (arith, e))
        (let e : length (points_in (passed_blocks p.marked.edges p.ordered)) ≡ positions (passed_blocks p.marked.edges p.ordered) = points_count (passed_blocks p.marked.edges p.ordered) in omega (arith, e)) stuck start arguments answers
