-- The blocks of a `try` statement.
use Rattle.std.proofs.Common.{◌≡◌, ℕ, ◌+◌, ◌-◌, ◌<◌, ◌≤◌, ◌⊎◌, inl, inr, ◌++◌, Bool, true, false, List, [], ◌∷◌, length, take, All, Option}
use Rattle.std.proofs.Common.{Some, None, refl, sym, ap, ◌∙◌, subst, arith}
use Rattle.std.proofs.lemmas.List.Elements.{All-append}
use Rattle.rl_builder.specs.Builder.{ended_by, innermost, new_block, reserved, with_temporary}
use Rattle.rl_builder.specs.declared.jumps.JumpScope.{JumpScope}
use Rattle.rl_builder.specs.Temporaries.{temporary, unordered}
use Rattle.rl_frames.proofs.Common.{BlockId, Code, Extends, IsContainedIn, IsLedTo, Place, Span, State}
use Rattle.rl_frames.proofs.Tries.{block_extends, first_extends, try_extends}
use Rattle.rl_frames.specs.Parts.{try_bound, try_end, try_finished, try_handler, try_started}
use Rattle.rl_hir.specs.Blocks.{same_id}
use Rattle.rl_hir.specs.declared.function.BlockKind.TheVariants as block
use Rattle.rl_hir.specs.declared.instruction.Instruction.{Instruction}
use Rattle.rl_hir.specs.declared.instruction.InstructionKind.TheVariants as variables
use Rattle.rl_hir.specs.declared.instruction.InstructionValue.TheVariants as values
use Rattle.rl_hir.specs.declared.terminal.GotoVariant.TheVariants as gotos
use Rattle.rl_machine.proofs.Silence.{settles_goes}
use Rattle.rl_machine.specs.Ends.{Catches, Straight, bound, choice, leaving}
use Rattle.rl_machine.specs.Silence.{LeavesStraight, Settles}
use Rattle.rl_model.specs.Dead.{Outs, either}
use Rattle.rl_order.proofs.Ordering.{or_left, same_self}
use Rattle.rl_runs.proofs.BlockIds.{IsFree, free_aside, free_fresh, free_then, ids_aside, ids_counted, ids_ended, ids_fresh, ids_then}
use Rattle.rl_runs.proofs.Holes.{contained_hole, contained_stacked, last_added}
use Rattle.rl_runs.proofs.Leaving.{BreakLeads, ContinueLeads, leaves_both}
use Rattle.rl_runs.proofs.Moves.{contained_before, extends_completed, extends_refl, extends_reserved, terminal_met}
use Rattle.rl_runs.proofs.Naming.{named_ended, named_goto, named_more, named_then, named_three, same_targets}
use Rattle.rl_runs.proofs.Passing.{passes_pushed, passes_refl}
use Rattle.rl_runs.proofs.Points.{empty_settles, settle_completed, settle_goto}
use Rattle.rl_runs.proofs.Preserving.{blocks_refl, blocks_value}
use Rattle.rl_runs.proofs.Steps.{added_cases}
use Rattle.rl_runs.proofs.Used.{below_or, ended_there, ends_more, looped_ended, notes_back, still_there, straight_below, straight_ended}
use Rattle.rl_runs.proofs.Used.{straight_fresh, straight_then}
use Rattle.rl_runs.specs.Blocks.{AreUsed, ByBreak, ByContinue, ByHandler, IsNameSince, IsTarget, JumpsSettle, Leads, Leaves, Lives}
use Rattle.rl_runs.specs.Blocks.{NamesSince, Passes, PointsSettle, PreservesBlocks, PreservesIds, PreservesUniqueIds, Settling, Stands}
use Rattle.rl_runs.specs.Blocks.{StraightBelow, StraightSince, UniqueIds}
use Rattle.rl_runs.specs.Facts.{IsCurrentOrCompleted}
use Rattle.rl_runs.specs.Moves.{block_id, goto, last_hole, without_handler}

pub bound_blocks : (x : State) (binding : Option Place) → PreservesBlocks x (try_bound x binding)
bound_blocks x None = blocks_refl x
bound_blocks x (Some place) = blocks_value x (values.DeclareLocal variables.Catch place) place.span

pub bound_passes : (x : State) (binding : Option Place) → Passes x (try_bound x binding)
bound_passes x None = passes_refl x
bound_passes x (Some place) =
    passes_pushed (with_temporary x place.span) (unordered (temporary x place.span) (values.DeclareLocal variables.Catch place) place.span)

-- The targets under one more handler.
handler_targets : (handlers : List BlockId) (scopes : List JumpScope) (handler : BlockId) (id : ℕ)
    → IsTarget (handlers ++ handler ∷ []) scopes id → IsTarget handlers scopes id ⊎ (handler.0 ≡ id)
handler_targets handlers scopes handler id (ByHandler index b at) = elim (added_cases handlers handler index b at) [
  | inl e ↦ inl (ByHandler index b e)
  | inr e ↦ inr (ap (λ (x : BlockId). x.0) (sym e))
]
handler_targets handlers scopes handler id (ByBreak index scope at) = inl (ByBreak index scope at)
handler_targets handlers scopes handler id (ByContinue index scope b at to) = inl (ByContinue index scope b at to)

module _ (s s2 s4 : State) (binding : Option Place) (span part other : Span) where
  abbrev f : ℕ
  f = s.env.next_block

  abbrev s1 : State
  s1 = try_bound (reserved s) binding

  abbrev hd : ℕ
  hd = s1.env.next_block

  abbrev s0 : State
  s0 = try_started s binding

  abbrev body : ℕ
  body = s2.env.next_block

  abbrev s3 : State
  s3 = try_handler s2 f hd part

  abbrev s5 : State
  s5 = last_hole (without_handler s4) f gotos.Try other s1.current

  abbrev pub last : State
  last = try_finished s4 f hd body binding span s1.current other

  module _ (bh : PreservesBlocks (try_started s binding) s2)
      (bb : PreservesBlocks (try_handler s2 s.env.next_block (try_bound (reserved s) binding).env.next_block part) s4) where
    one : PreservesBlocks (reserved s) s1
    one = bound_blocks (reserved s) binding

    all_extends : Extends s last
    all_extends = try_extends s s s2 s4 binding span part other (extends_refl s) bh.extends bb.extends

    onward_extends : Extends s1 s5
    onward_extends =
        Rattle.rl_runs.proofs.Moves.extends_then
        (first_extends s s s2 s4 binding span part other (extends_refl s) bh.extends bb.extends)
        (block_extends s s s2 s4 binding span part other (extends_refl s) bh.extends bb.extends)

    f_below : f < hd
    f_below = omega (arith, one.extends.blocks)

    -- Ids.
    inside : PreservesUniqueIds s1.completed hd (hd + 1) s4.completed s4.current.id.0 s4.env.next_block
    inside = ids_then bh.ids (ids_then (ids_fresh s2 (goto f gotos.Break part) block.Block) bb.ids)

    to_bound_ids : PreservesIds s s1
    to_bound_ids = ids_then (ids_counted s.completed s.current.id.0 f (f + 1) (omega arith)) one.ids

    counted : PreservesUniqueIds s1.completed s1.current.id.0 hd s1.completed s1.current.id.0 (hd + 1)
    counted = ids_counted s1.completed s1.current.id.0 hd (hd + 1) (omega arith)

    free_behind : UniqueIds s.completed s.current.id.0 f → IsFree s1.completed s1.current.id.0 (hd + 1) f
    free_behind c =
        free_then f counted (free_then f one.ids (free_fresh s.completed s.current.id.0 f (f + 1) f c (omega arith) (omega arith)))

    all_ids : PreservesIds s last
    all_ids =
        ids_ended s5 (try_end f hd body binding span) (new_block f block.Block)
        (ids_aside (reserved s1) s4 hd (goto f gotos.Try other) (ids_then to_bound_ids counted) (inr (omega (arith, f_below)))
        (λ c. free_fresh s1.completed s1.current.id.0 hd (hd + 1) hd (to_bound_ids.distinct c) (omega arith) (omega arith)) inside)
        (inr (omega arith))
        (λ c. free_aside (reserved s1) s4 hd f (goto f gotos.Try other) (free_behind c) (λ e. omega (arith, e, f_below)) inside)

    -- Each block is used.
    all_used : AreUsed s last
    all_used id above below = elim (below_or id (f + 1)) [
      | inl first ↦ (let same : f ≡ id = omega (arith, above, first) in inl same)
      | inr more ↦ inr (ended_there s5 (try_end f hd body binding span) (new_block f block.Block) id (elim (below_or id hd) [
        | inl under ↦ still_there onward_extends id (one.used id more under)
        | inr over ↦ inr (ended_there (without_handler s4) (goto f gotos.Try other) s1.current id (in_holes over))
      ]))
    ]
      where
        of_handler : IsCurrentOrCompleted s2 id → IsCurrentOrCompleted s4 id
        of_handler there =
            inr (bb.extends.completed id (ended_there (reserved s2) (goto f gotos.Break part) (new_block body block.Block) id there))

        in_holes : hd ≤ id → IsCurrentOrCompleted s4 id
        in_holes over = elim (below_or id (hd + 1)) [
          | inl first ↦ (let same : hd ≡ id = omega (arith, over, first) in of_handler (subst (λ (x : ℕ). IsCurrentOrCompleted s2 x) same bh.extends.current))
          | inr more ↦ elim (below_or id body) [
            | inl under ↦ of_handler (bh.used id more under)
            | inr beyond ↦ elim (below_or id (body + 1)) [
              | inl two ↦ (let same : body ≡ id = omega (arith, beyond, two) in subst (λ (x : ℕ). IsCurrentOrCompleted s4 x) same bb.extends.current)
              | inr rest ↦ bb.used id rest below
            ]
          ]
        ]

    -- The blocks that blocks name.
    to_bound : NamesSince s s1
    to_bound = named_then s (reserved s) s1 (omega arith) one.extends.blocks (λ id to. inr to) (λ b there. inl there) one.named

    widened : NamesSince s s0
    widened b there = elim (to_bound b there) [ inl old ↦ inl old | inr own ↦ inr (λ id is. named_more s hd (hd + 1) (omega arith) id (own id is)) ]

    to_handler : NamesSince s s2
    to_handler =
        named_then s s0 s2 (omega (arith, f_below)) bh.extends.blocks
        (λ id to. same_targets s s0 s2.env.next_block one.extends.handlers one.extends.scopes id to) widened bh.named

    to_open : NamesSince s s3
    to_open =
        named_ended s (reserved s2) (goto f gotos.Break part) (new_block body block.Block)
        (λ b there. elim (to_handler b there) [ inl old ↦ inl old | inr own ↦ inr (λ id is. named_more s body (body + 1) (omega arith) id (own id is)) ])
        (named_goto s f (body + 1) gotos.Break part (omega arith) (omega (arith, f_below, bh.extends.blocks)))

    in_block : (id : ℕ) → IsTarget s3.handlers s3.scopes id → IsNameSince s s4.env.next_block id
    in_block id to = elim (handler_targets s2.handlers s2.scopes (block_id hd) id to) [
      | inl around ↦ same_targets s s2 s4.env.next_block (bh.extends.handlers ∙ one.extends.handlers) (bh.extends.scopes ∙ one.extends.scopes) id around
      | inr e ↦ inl (omega (arith, e, f_below), omega (arith, e, bh.extends.blocks, bb.extends.blocks))
    ]

    to_block : NamesSince s s4
    to_block = named_then s s3 s4 (omega (arith, f_below, bh.extends.blocks)) bb.extends.blocks in_block to_open bb.named

    to_shut : NamesSince s s5
    to_shut =
        named_ended s (without_handler s4) (goto f gotos.Try other) s1.current to_block
        (named_goto s f s4.env.next_block gotos.Try other (omega arith) (omega (arith, f_below, bh.extends.blocks, bb.extends.blocks)))

    all_named : NamesSince s last
    all_named =
        named_ended s s5 (try_end f hd body binding span) (new_block f block.Block) to_shut
        (named_three s (block_id body) (block_id hd) (block_id f) s4.env.next_block (omega (arith, f_below, bh.extends.blocks))
        (omega (arith, bb.extends.blocks)) (omega (arith, f_below)) (omega (arith, bh.extends.blocks, bb.extends.blocks)) (omega arith)
        (omega (arith, f_below, bh.extends.blocks, bb.extends.blocks)))

    -- Straight notes.
    calm : (id : ℕ) → LeavesStraight (leaving (try_end f hd body binding span).kind) id → ⊥
    calm id leaves = elim leaves [
      | inl x ↦ (let never : choice (Catches (bound binding)) ≡ Straight = x.1 in absurd (cc))
      | inr y ↦ elim y [ inl x ↦ (let never : choice (Catches (bound binding)) ≡ Straight = x.1 in absurd (cc)) | inr never ↦ never ]
    ]

    block_straight : StraightSince s4 last
    block_straight =
        straight_then s4 s5 last (omega arith) (omega arith)
        (straight_ended (without_handler s4) (goto f gotos.Try other) s1.current (λ id never. never))
        (straight_ended s5 (try_end f hd body binding span) (new_block f block.Block) calm)

    open_straight : StraightSince s2 s3
    open_straight = straight_fresh s2 (goto f gotos.Break part) block.Block (λ id never. never)

    handler_straight : StraightSince s2 last
    handler_straight =
        straight_then s2 s3 last (omega arith) bb.extends.blocks open_straight
        (straight_then s3 s4 last bb.extends.blocks (omega arith) bb.straight block_straight)

    begun_straight : StraightSince s0 last
    begun_straight = straight_then s0 s2 last bh.extends.blocks (omega (arith, bb.extends.blocks)) bh.straight handler_straight

    bound_straight : StraightSince s1 last
    bound_straight =
        straight_then s1 s0 last (omega arith) (omega (arith, bh.extends.blocks, bb.extends.blocks)) (λ id m. inl m) begun_straight

    to_bound_straight : StraightSince s s1
    to_bound_straight = straight_then s (reserved s) s1 (omega arith) one.extends.blocks (λ id m. inl m) one.straight

    all_straight : StraightSince s last
    all_straight =
        straight_then s s1 last (omega (arith, f_below))
        (omega (arith, bh.extends.blocks, bb.extends.blocks)) to_bound_straight bound_straight

    -- States that are contained with the whole.
    cover5 : (c : Code) → IsContainedIn last c → IsContainedIn s5 c
    cover5 c cover =
        contained_before (extends_completed s5 (try_end f hd body binding span) (new_block f block.Block) (λ none. refl)) cover

    cover1 : (c : Code) → IsContainedIn last c → IsContainedIn s1 c
    cover1 c cover = contained_before onward_extends (cover5 c cover)

    -- Behind the handler, with the block in front.
    cover_a : (c : Code) → IsContainedIn last c → IsContainedIn (last_hole s2 f gotos.Break part s1.current) c
    cover_a c cover =
        contained_before (extends_reserved (last_hole s2 f gotos.Break part s1.current))
        (contained_before (block_extends s s s2 s4 binding span part other (extends_refl s) bh.extends bb.extends) (cover5 c cover))

    pub cover2 : (c : Code) → IsContainedIn last c → IsContainedIn s2 c
    cover2 c cover = contained_hole s2 f gotos.Break part s1.current c (cover_a c cover)

    pub cover4 : (c : Code) → IsContainedIn last c → IsContainedIn s4 c
    cover4 c cover =
        contained_stacked s4 s4.scopes (take (length s4.handlers - 1) s4.handlers) c
        (λ none. let never : None ≡ Some (block_id hd) = sym none ∙ top in absurd (cc))
        (contained_hole (without_handler s4) f gotos.Try other s1.current c (cover5 c cover))
      where
        top : innermost s4.handlers ≡ Some (block_id hd)
        top = ap (λ (l : List BlockId). innermost l) bb.extends.handlers ∙ last_added s2.handlers (block_id hd)

    -- Program points.
    all_settles : Settling s last
    all_settles c cover mine below jumps old behind =
        settle_completed s5 (try_end f hd body binding span) (new_block f block.Block) c (goes first_settles)
        (λ here. settle_completed (without_handler s4) (goto f gotos.Try other) s1.current c end4 hole4
        (λ place within. old1 here s1.current.id.0 place (inr (record { named = refl; within = within }))))
        (empty_settles c f)
      where
        goes : Settles c body 0 → Settles c s1.current.id.0 (length s1.current.instructions)
        goes there =
            settles_goes c s1.current.id.0 (length s1.current.instructions) (try_end f hd body binding span) (block_id body)
            ((block_id hd, Catches (bound binding)) ∷ (block_id f, Catches (bound binding)) ∷ [])
            (terminal_met s5 (try_end f hd body binding span) (new_block f block.Block) c cover) refl there

        end4 : Settles c s4.current.id.0 (length s4.current.instructions)
        end4 = settle_goto (without_handler s4) f gotos.Try other s1.current c (cover5 c cover) behind

        by_scopes : (x : State) → x.scopes ≡ s.scopes → JumpsSettle c x.scopes
        by_scopes x same = subst (λ (l : List JumpScope). JumpsSettle c l) (sym same) jumps

        below1 : StraightBelow s1
        below1 = straight_below s s1 (omega (arith, f_below)) to_bound_straight below

        below0 : StraightBelow s0
        below0 id m = (let small : id < hd = below1 id m in omega (arith, small))

        below3 : StraightBelow s3
        below3 = straight_below s2 s3 (omega arith) open_straight (straight_below s0 s2 bh.extends.blocks bh.straight below0)

        old1 : PointsSettle c s1
        old1 =
            one.settle c (cover1 c cover)
            (notes_back c s (reserved s) s1 last mine (omega arith)
            (omega (arith, bh.extends.blocks, bb.extends.blocks)) bound_straight)
            (λ id m. (let small : id < f = below id m in omega (arith, small))) jumps old

        -- Before the handler, if the block is reached at a point that settles.
        begins : Settles c body 0 → PointsSettle c s0
        begins there first id place h = elim h [
          | inl d ↦ old1 (goes there) id place (inl (record { index = d.index; block = d.block; found = d.found; named = d.named; within = d.within }))
          | inr w ↦ absurd (let none : place < 0 = w.within in omega (arith, none))
        ]

        hole4 : PointsSettle c s4
        hole4 =
            bb.settle c (cover4 c cover)
            (notes_back c s s3 s4 last mine (omega (arith, f_below, bh.extends.blocks)) (omega arith) block_straight)
            below3 (by_scopes s3 (bh.extends.scopes ∙ one.extends.scopes))
            (λ there. settle_completed (reserved s2) (goto f gotos.Break part) (new_block body block.Block) c
            (settle_goto s2 f gotos.Break part s1.current c (cover_a c cover) behind)
            (bh.settle c (cover2 c cover)
            (notes_back c s s0 s2 last mine (omega (arith, f_below)) (omega (arith, bb.extends.blocks)) handler_straight) below0
            (by_scopes s0 one.extends.scopes) (begins there))
            (empty_settles c body))

        first_settles : Settles c body 0
        first_settles = elim bb.extends.current [
          | inl same ↦ elim (below_or 0 (length s4.current.instructions)) [
            | inr none ↦ subst (λ (n : ℕ). Settles c n 0) same (subst (λ (n : ℕ). Settles c s4.current.id.0 n) (at_start none) end4)
            | inl some ↦ hole4 end4 body 0 (inr (record { named = same; within = some }))
          ]
          | inr k ↦ hole4 end4 body 0 (inl (record { index = k.place; block = k.block; found = k.found; named = k.named; within = omega arith }))
        ]
          where
            at_start : length s4.current.instructions ≤ 0 → length s4.current.instructions ≡ 0
            at_start none = omega (arith, none)

    pub try_blocks : PreservesBlocks s last
    try_blocks = record {
      extends = all_extends;
      ids = all_ids;
      used = all_used;
      named = all_named;
      ended = λ all. ends_more s5.completed (ended_by s1.current (try_end f hd body binding span)) refl
          (ends_more s4.completed (ended_by s4.current (goto f gotos.Try other)) refl
          (bb.ended (ends_more s2.completed (ended_by s2.current (goto f gotos.Break part)) refl (bh.ended (one.ended all)))));
      straight = all_straight;
      settle = all_settles;
      looped = λ c cover entry old.
          looped_ended (IsLedTo c entry) s5 (try_end f hd body binding span) (new_block f block.Block) (λ led. tt)
          (looped_ended (IsLedTo c entry) (without_handler s4) (goto f gotos.Try other) s1.current (λ led. tt)
          (bb.looped c (cover4 c cover) entry
          (looped_ended (IsLedTo c entry) (reserved s2) (goto f gotos.Break part) (new_block body block.Block) (λ led. tt)
          (bh.looped c (cover2 c cover) entry (one.looped c (cover1 c cover) entry old)))));
    }

    -- The block is reached where the statement is.
    pub at_body : (c : Code) → IsContainedIn last c → (entry : ℕ) → IsLedTo c entry s.current.id.0 → IsLedTo c entry s2.env.next_block
    at_body c cover entry led =
        Leads s1.current.id.0 (length s1.current.instructions) (try_end f hd body binding span) (block_id body)
        (bound_passes (reserved s) binding c (cover1 c cover) entry led)
        (terminal_met s5 (try_end f hd body binding span) (new_block f block.Block) c cover)
        (or_left (same_id (block_id body) (block_id body)) false (same_self (block_id body)))

    -- A block that completes leads behind the statement, and so does a handler.
    pub block_comes : Passes (try_handler s2 s.env.next_block (try_bound (reserved s) binding).env.next_block part) s4 → (c : Code)
        → IsContainedIn last c → (entry : ℕ) → IsLedTo c entry s2.env.next_block → IsLedTo c entry s.env.next_block
    block_comes passes c cover entry led =
        Leads s4.current.id.0 (length s4.current.instructions) (goto f gotos.Try other) (block_id f) (passes c (cover4 c cover) entry led)
        (terminal_met (without_handler s4) (goto f gotos.Try other) s1.current c (cover5 c cover))
        (or_left (same_id (block_id f) (block_id f)) false (same_self (block_id f)))

    pub handler_comes : Passes (try_started s binding) s2 → (c : Code) → IsContainedIn last c → (entry : ℕ)
        → IsLedTo c entry (try_bound (reserved s) binding).env.next_block → IsLedTo c entry s.env.next_block
    handler_comes passes c cover entry led =
        Leads s2.current.id.0 (length s2.current.instructions) (goto f gotos.Break part) (block_id f)
        (passes c (cover2 c cover) entry led)
        (terminal_met s2 (goto f gotos.Break part) s1.current c (cover_a c cover))
        (or_left (same_id (block_id f) (block_id f)) false (same_self (block_id f)))

    -- The exits of the block, and those of a handler to which throws come.

    pub try_leaves_calm : (block : Outs)
        → Leaves block (try_handler s2 s.env.next_block (try_bound (reserved s) binding).env.next_block part) s4
        → Leaves block s last
    try_leaves_calm block lb = record {
      breaks = λ c cover entry led. subst (λ (l : List JumpScope). All (BreakLeads (IsLedTo c entry) l) block.breaks) to_scopes
          (lb.breaks c (cover4 c cover) entry (at_body c cover entry led));
      continues = λ c cover entry led. subst (λ (l : List JumpScope). All (ContinueLeads (IsLedTo c entry) l) block.continues) to_scopes
          (lb.continues c (cover4 c cover) entry (at_body c cover entry led));
    }
      where
        to_scopes : s3.scopes ≡ s.scopes
        to_scopes = bh.extends.scopes ∙ one.extends.scopes

    pub try_leaves : (block handler : Outs)
        → ((c : Code) → IsContainedIn last c → (entry : ℕ) → IsLedTo c entry s2.env.next_block
        → IsLedTo c entry (try_bound (reserved s) binding).env.next_block)
        → Leaves block (try_handler s2 s.env.next_block (try_bound (reserved s) binding).env.next_block part) s4
        → Leaves handler (try_started s binding) s2
        → Leaves (either block handler) s last
    try_leaves block handler caught lb lh = leaves_both block handler s last (try_leaves_calm block lb) in_handler
      where
        in_handler : Leaves handler s last
        in_handler = record {
          breaks = λ c cover entry led.
              subst (λ (l : List JumpScope). All (BreakLeads (IsLedTo c entry) l) handler.breaks) one.extends.scopes
              (lh.breaks c (cover2 c cover) entry (caught c cover entry (at_body c cover entry led)));
          continues = λ c cover entry led.
              subst (λ (l : List JumpScope). All (ContinueLeads (IsLedTo c entry) l) handler.continues) one.extends.scopes
              (lh.continues c (cover2 c cover) entry (caught c cover entry (at_body c cover entry led)));
        }

    -- Live instructions.
    module _ {K : Type 0} (key_of : Instruction → Option K) where
      -- With a handler to which throws come.
      pub try_lives : (in_block in_handler : List K) (first second left : Bool)
          → ((c : Code) → IsContainedIn last c → (entry : ℕ) → IsLedTo c entry s2.env.next_block
          → IsLedTo c entry (try_bound (reserved s) binding).env.next_block)
          → (left ≡ true → (c : Code) → IsContainedIn last c → (entry : ℕ) → IsLedTo c entry s2.env.next_block
          → IsLedTo c entry s.env.next_block)
          → Lives key_of in_handler first (try_started s binding) s2
          → Lives key_of in_block second (try_handler s2 s.env.next_block (try_bound (reserved s) binding).env.next_block part) s4
          → Lives key_of (in_block ++ in_handler) left s last
      try_lives in_block in_handler first second left caught comes lh lb = record {
        onward = λ is c cover entry led. comes is c cover entry (at_body c cover entry led);
        stands = λ c cover entry led. All-append (Stands key_of c entry) in_block in_handler
            (lb.stands c (cover4 c cover) entry (at_body c cover entry led))
            (lh.stands c (cover2 c cover) entry (caught c cover entry (at_body c cover entry led)));
      }

      -- With a handler to which none comes.
      pub try_lives_calm : (in_block : List K) (second left : Bool)
          → (left ≡ true → (c : Code) → IsContainedIn last c → (entry : ℕ) → IsLedTo c entry s2.env.next_block
          → IsLedTo c entry s.env.next_block)
          → Lives key_of in_block second (try_handler s2 s.env.next_block (try_bound (reserved s) binding).env.next_block part) s4
          → Lives key_of in_block left s last
      try_lives_calm in_block second left comes lb = record {
        onward = λ is c cover entry led. comes is c cover entry (at_body c cover entry led);
        stands = λ c cover entry led. lb.stands c (cover4 c cover) entry (at_body c cover entry led);
      }
