-- A finished builder: its blocks as a graph, whose silent rows end and whose loops are reached.
use Rattle.std.proofs.Common.{◌≡◌, ℕ, ◌<◌, ◌≤◌, inl, inr, Bool, true, false, ◌&&◌, is_some, List, [], ◌∷◌, Option, Some, None, length}
use Rattle.std.proofs.Common.{slice_get, nat_eq, refl, sym, ap, ◌∙◌, subst, arith}
use Rattle.std.specs.Option.{option_map}
use Rattle.std.proofs.lemmas.Bool.Decides.{eqb_tells}
use Rattle.std.proofs.lemmas.Option.{slice_get_within}
use Rattle.std.specs.List.{list_all, list_any}
use Rattle.rl_base.specs.declared.ids.InstructionId.{InstructionId}
use Rattle.rl_builder.specs.declared.jumps.JumpScope.{JumpScope}
use Rattle.rl_hir.specs.Blocks.{Pair as BlockPair, same_id}
use Rattle.rl_hir.specs.declared.function.BasicBlock.{BasicBlock}
use Rattle.rl_hir.specs.declared.terminal.Terminal.{Terminal}
use Rattle.rl_hir.specs.declared.terminal.TerminalKind.{TerminalKind}
use Rattle.rl_hir.specs.Terminals.{successor_ids}
use Rattle.rl_machine.proofs.Silence.{settles_nothing}
use Rattle.rl_machine.specs.Conditions.{EndsAs, Reached, loop_blocks}
use Rattle.rl_machine.specs.Ends.{leaving}
use Rattle.rl_machine.specs.Machine.{Graph, Item, Runs, Ends, block_of, catcher_at, code_in, item_at, item_by, item_in}
use Rattle.rl_machine.specs.Prunes.{Each}
use Rattle.rl_machine.specs.Silence.{AlwaysSettles, IsNotedStraight, LeavesStraight, Settles}
use Rattle.rl_order.proofs.Ordering.{or_left, or_right, same_self}
use Rattle.rl_order.specs.Reached.{IsReached, Begins, Goes}
use Rattle.rl_order.specs.Walk.{IsWhole, has_block, leads_to}
use Rattle.rl_runs.proofs.Common.{BlockId, Code, Instruction, State, World}
use Rattle.rl_runs.proofs.Graphs.{Apart, FoundAt, found_at, found_by, item_met}
use Rattle.rl_runs.proofs.Successors.{leads_named}
use Rattle.rl_runs.specs.Blocks.{AreLooped, ByBreak, ByContinue, ByHandler, HasPoint, IsLedTo, IsOneOf, IsStraight, IsTarget}
use Rattle.rl_runs.specs.Blocks.{JumpsSettle, Leads, Looping, NamesBlock, NamesSince, PointsSettle, Settling, StraightBelow}
use Rattle.rl_runs.specs.Blocks as blocks
use Rattle.rl_runs.specs.Facts.{At, Catch, CoversNames, Fact, InCompleted, InWip, IsCompleted, IsContainedIn, Meets}

-- All blocks are complete: ids are distinct, and no block is under construction.
pub record IsFinished (s : State) : Type 0 where
  pub apart : Apart s.completed
  pub empty : s.current.instructions ≡ []
  pub none : IsCompleted s.completed s.current.id.0 → ⊥

module _ (s : State) (fin : IsFinished s) (ident : ℕ → Option ℕ) (world : World) where
  abbrev pub code : Code
  code = code_in s.completed s.table ident world

  abbrev pub graph : Graph
  graph = record { blocks = s.completed; table = s.table; entry = s.entry }

  -- No block has the current id.
  nowhere : block_of s.completed s.current.id.0 ≡ None
  nowhere = by_block (block_of s.completed s.current.id.0) refl
    where
      by_block : (o : Option BasicBlock) → block_of s.completed s.current.id.0 ≡ o → block_of s.completed s.current.id.0 ≡ None
      by_block None is = is
      by_block (Some b) is =
          (let at : FoundAt s.completed s.current.id.0 b = found_at s.completed s.current.id.0 b is in absurd (fin.none (record { place = at.index; block = (at.own, b); found = at.found; named = at.named })))

  -- The graph has all facts of the builder, and its names if they are final.
  pub finished_contained : CoversNames s.env.pairs (length s.env.identifiers) ident → IsContainedIn s code
  finished_contained covers = record { has = λ id f h. elim h [ inl d ↦ of_block id f d | inr w ↦ of_wip id f w.named w.holds ]; names = covers }
    where
      found : (id : ℕ) (f : Fact) (d : InCompleted s id f) → block_of s.completed id ≡ Some d.block.1
      found id f d =
          subst (λ (n : ℕ). block_of s.completed n ≡ Some d.block.1) d.named (found_by s.completed d.place d.block fin.apart d.found)

      of_block : (id : ℕ) (f : Fact) → InCompleted s id f → Meets code id f
      of_block id (At place item) d =
          ap (λ (o : Option BasicBlock). item_at s.table o place) (found id (At place item) d)
          ∙ item_met s.table d.block place item d.holds
      of_block id (Catch handler) d = ap (λ (o : Option BasicBlock). catcher_at o) (found id (Catch handler) d) ∙ d.holds

      of_wip : (id : ℕ) (f : Fact) → s.current.id.0 ≡ id → InWip s.table s.handlers s.current.instructions f → Meets code id f
      of_wip id (At place (Runs i)) named h =
          (let none : slice_get {X = InstructionId} [] place ≡ Some h.number = subst (λ l. slice_get l place ≡ Some h.number) fin.empty h.at in absurd (cc))
      of_wip id (At place (Ends t)) named h = absurd h
      of_wip id (Catch handler) named h =
          ap (λ (o : Option BasicBlock). catcher_at o) (subst (λ (n : ℕ). block_of s.completed n ≡ None) named nowhere) ∙ sym h.0

  -- An item stands at an instruction or at the terminal.
  item_place : (block : BasicBlock) (place : ℕ) (item : Item) → item_in s.table block place ≡ Some item
      → place ≤ length block.instructions
  item_place block place item is = by_listed (slice_get block.instructions place) refl is
    where
      by_listed : (o : Option InstructionId) → slice_get block.instructions place ≡ o
          → item_by s.table o (nat_eq place (length block.instructions)) block.terminal ≡ Some item → place ≤ length block.instructions
      by_listed (Some number) found e =
          (let below : place < length block.instructions = slice_get_within block.instructions place number found in omega (arith, below))
      by_listed None found e = elim (eqb_tells place (length block.instructions)) [
        | inl t ↦ (let same : place ≡ length block.instructions = t.1 in omega (arith, same))
        | inr t ↦ (let never : None ≡ Some item = ap (λ (b : Bool). item_by s.table None b block.terminal) (sym t.0) ∙ e in absurd (cc))
      ]

  -- The end that stands in a block is its terminal.
  end_is : (block : BasicBlock) (place : ℕ) (t : Terminal) → item_in s.table block place ≡ Some (Ends t) → block.terminal ≡ t
  end_is block place t is = by_listed (slice_get block.instructions place) (nat_eq place (length block.instructions)) is
    where
      by_kept : (o : Option Instruction) → option_map (λ i. Runs i) o ≡ Some (Ends t) → block.terminal ≡ t
      by_kept (Some i) e = absurd (cc)
      by_kept None e = absurd (cc)

      by_listed : (o : Option InstructionId) (b : Bool) → item_by s.table o b block.terminal ≡ Some (Ends t) → block.terminal ≡ t
      by_listed (Some number) b e = by_kept (slice_get s.table number.0) e
      by_listed None true e = cc
      by_listed None false e = absurd (cc)

  -- The block in which an end stands.
  end_block : (id place : ℕ) (t : Terminal) → code.item id place ≡ Some (Ends t)
      → (block : BasicBlock) × (block_of s.completed id ≡ Some block) × (block.terminal ≡ t)
  end_block id place t is = by_block (block_of s.completed id) refl is
    where
      by_block : (o : Option BasicBlock) → block_of s.completed id ≡ o → item_at s.table o place ≡ Some (Ends t)
          → (block : BasicBlock) × (block_of s.completed id ≡ Some block) × (block.terminal ≡ t)
      by_block None found e = absurd (cc)
      by_block (Some b) found e = (b, found, end_is b place t e)

  -- Straight notes of the graph are left by complete blocks.
  notes_left : (id : ℕ) → IsNotedStraight code id → IsStraight s.completed id
  notes_left id n =
      let b = end_block n.block n.place n.terminal n.there in
      let at : FoundAt s.completed n.block b.0 = found_at s.completed n.block b.0 b.1 in
      record {
        index = at.index;
        block = (at.own, b.0);
        found = at.found;
        leaves = subst
            (λ (t : Terminal). LeavesStraight (leaving t.kind) id) (sym b.2) n.leaves;
      }

  -- The state in which the builder began.
  module _ (begun : State) (nothing : begun.completed ≡ []) (no_scopes : begun.scopes ≡ [])
      (blank : begun.current.instructions ≡ []) where
    -- All rows of silent steps end.
    pub always_settles : CoversNames s.env.pairs (length s.env.identifiers) ident → Settling begun s → AlwaysSettles code
    always_settles covers settle id place = by_block (block_of s.completed id) refl
      where
        below : StraightBelow begun
        below other n =
            (let none : slice_get {X = BlockPair} [] n.index ≡ Some n.block = subst (λ l. slice_get l n.index ≡ Some n.block) nothing n.found in absurd (cc))

        jumps : JumpsSettle code begun.scopes
        jumps = subst (λ (l : List JumpScope). JumpsSettle code l) (sym no_scopes) none_at
          where
            none_at : (other : ℕ) → IsTarget [] [] other → Settles code other 0
            none_at other (ByHandler index b at) = absurd (cc)
            none_at other (ByBreak index scope at) = absurd (cc)
            none_at other (ByContinue index scope b at to) = absurd (cc)

        no_place : (p : ℕ) → p < 0 → ⊥
        no_place p under = omega (arith, under)

        before : PointsSettle code begun
        before here other index h = elim h [
          | inl d ↦ (let none : slice_get {X = BlockPair} [] d.index ≡ Some d.block = subst (λ l. slice_get l d.index ≡ Some d.block) nothing d.found in absurd (cc))
          | inr w ↦ absurd (no_place index (subst (λ (ids : List InstructionId). index < length ids) blank w.within))
        ]

        points : (other index : ℕ) → HasPoint s other index → Settles code other index
        points =
            settle code (finished_contained covers) (λ other low high n. notes_left other n) below jumps before
            (settles_nothing code s.current.id.0 (length s.current.instructions)
            (ap (λ (o : Option BasicBlock). item_at s.table o (length s.current.instructions)) nowhere))

        by_item : (block : BasicBlock) → block_of s.completed id ≡ Some block → (o : Option Item) → item_in s.table block place ≡ o
            → Settles code id place
        by_item block is None none = settles_nothing code id place (ap (λ (o : Option BasicBlock). item_at s.table o place) is ∙ none)
        by_item block is (Some item) there =
            (let at : FoundAt s.completed id block = found_at s.completed id block is in
            points id place
            (inl (record {
              index = at.index;
              block =
                  (at.own, block);
              found = at.found;
              named = at.named;
              within = item_place block place item there;
            })))

        by_block : (o : Option BasicBlock) → block_of s.completed id ≡ o → Settles code id place
        by_block None is = settles_nothing code id place (ap (λ (o : Option BasicBlock). item_at s.table o place) is)
        by_block (Some block) is = by_item block is (item_in s.table block place) refl

    -- Blocks that are reached.

    pub led_reached : (id : ℕ) → IsLedTo code s.entry.0 id → IsReached s.completed s.entry (record { 0 = id })
    led_reached id blocks.Begins = Begins
    led_reached id (Leads from place t b r there is) =
        let at = end_block from place t there in
        Goes (record { 0 = from }) b at.0 (led_reached from r) at.1
        (subst (λ (x : Terminal). list_any (same_id b) (successor_ids x) ≡ true) (sym at.2) is)

    reached_led : (b : BlockId) → IsReached s.completed s.entry b → IsLedTo code s.entry.0 b.0
    reached_led b Begins = blocks.Begins
    reached_led b (Goes from _ block r found is) =
        Leads from.0 (length block.instructions) block.terminal b (reached_led from r)
        (ap (λ (o : Option BasicBlock). item_at s.table o (length block.instructions)) found
        ∙ item_met s.table (from, block) (length block.instructions) (Ends block.terminal) (refl, refl)) is

    each_reached : (ids : List BlockId) → Each (IsLedTo code s.entry.0) ids → Each (Reached graph) ids
    each_reached [] all = tt
    each_reached (b ∷ ids) all = (led_reached b.0 all.0, each_reached ids all.1)

    -- The blocks of each loop are reached.
    pub loops_reached : CoversNames s.env.pairs (length s.env.identifiers) ident → Looping begun s
        → (id : BlockId) (kind : TerminalKind) → EndsAs graph id kind → Each (Reached graph) (loop_blocks kind)
    loops_reached covers looping id kind e =
        subst (λ (k : TerminalKind). Each (Reached graph) (loop_blocks k)) e.ends
        (each_reached (loop_blocks e.block.terminal.kind)
        (looping code (finished_contained covers) s.entry.0 none (at.own, e.block) (record { index = at.index; found = at.found })
        (subst (λ (n : ℕ). IsLedTo code s.entry.0 n) (sym at.named) (reached_led id e.reached))))
      where
        at : FoundAt s.completed id.0 e.block
        at = found_at s.completed id.0 e.block e.there

        none : AreLooped (IsLedTo code s.entry.0) begun.completed
        none b one r =
            (let never : slice_get {X = BlockPair} [] one.index ≡ Some b = subst (λ l. slice_get l one.index ≡ Some b) nothing one.found in absurd (cc))

-- The blocks of a finished builder name its blocks alone, and lead to them.
module _ (begun s : State) (apart : Apart s.completed) (nothing : begun.completed ≡ []) (no_handlers : begun.handlers ≡ [])
    (no_scopes : begun.scopes ≡ [])
    (named : NamesSince begun s)
    (used : (id : ℕ) → begun.env.next_block ≤ id → id < s.env.next_block → IsCompleted s.completed id) where
  pub all_named : (block : BlockPair) → IsOneOf s.completed block → (id : ℕ) → NamesBlock block.1.terminal id
      → IsCompleted s.completed id
  all_named block one id is = elim (named block one) [
    | inl old ↦ (let none : slice_get {X = BlockPair} [] old.index ≡ Some block = subst (λ l. slice_get l old.index ≡ Some block) nothing old.found in absurd (cc))
    | inr own ↦ elim (own id is) [
      | inl since ↦ used id since.0 since.1
      | inr target ↦ absurd (none_at id (subst (λ (l : List JumpScope). IsTarget [] l id) no_scopes (subst (λ (l : List BlockId). IsTarget l begun.scopes id) no_handlers target)))
    ]
  ]
    where
      none_at : (other : ℕ) → IsTarget [] [] other → ⊥
      none_at other (ByHandler index b at) = absurd (cc)
      none_at other (ByBreak index scope at) = absurd (cc)
      none_at other (ByContinue index scope b at to) = absurd (cc)

  pub finished_whole : IsCompleted s.completed s.entry.0 → IsWhole s.completed s.entry
  finished_whole entry = record {
    entry_there = there s.entry entry;
    leads = λ id block found. all_there (leads_to block) (λ other leads.
        let at : FoundAt s.completed id.0 block = found_at s.completed id.0 block found in
        there other
        (all_named (at.own, block) (record { index = at.index; found = at.found }) other.0 (leads_named (same_id other) block leads)));
  }
    where
      there : (id : BlockId) → IsCompleted s.completed id.0 → has_block s.completed id ≡ true
      there id k =
          ap (λ (o : Option BasicBlock). is_some o)
          (subst (λ (n : ℕ). block_of s.completed n ≡ Some k.block.1) k.named (found_by s.completed k.place k.block apart k.found))

      all_there : (ids : List BlockId)
          → ((other : BlockId) → list_any (same_id other) ids ≡ true → has_block s.completed other ≡ true)
          → list_all (has_block s.completed) ids ≡ true
      all_there [] each = refl
      all_there (id ∷ ids) each =
          ap (λ (b : Bool). b && list_all (has_block s.completed) ids)
          (each id (or_left (same_id id id) (list_any (same_id id) ids) (same_self id)))
          ∙ all_there ids (λ other h. each other (or_right (same_id other id) (list_any (same_id other) ids) h))
