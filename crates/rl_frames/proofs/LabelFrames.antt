-- A labelled statement that is no loop: its runs, and what it preserves of the blocks.
use Rattle.std.proofs.Common.{◌≡◌, ℕ, zero, suc, ◌+◌, ◌-◌, ◌<◌, ◌≤◌, inl, inr, ◌++◌, false, List, [], ◌∷◌, length, take, Option}
use Rattle.std.proofs.Common.{Ok, Err, refl, ap, ◌∙◌, subst, arith}
use Rattle.rl_builder.specs.Builder.{completed_by, ended_by, innermost, new_block, reserved}
use Rattle.rl_builder.specs.declared.jumps.JumpError.TheVariants.{NotALoop}
use Rattle.rl_builder.specs.declared.jumps.JumpScope.{JumpScope}
use Rattle.rl_frames.proofs.Common.{Code, Extends, IsContainedIn, IsLedTo, Span, State}
use Rattle.rl_frames.specs.Parts.{label_begun, label_end, label_finished, label_scope}
use Rattle.rl_hir.specs.Blocks.{same_id}
use Rattle.rl_hir.specs.declared.function.BlockKind.TheVariants as block
use Rattle.rl_hir.specs.declared.instruction.Instruction.{Instruction}
use Rattle.rl_hir.specs.declared.terminal.GotoVariant.TheVariants as gotos
use Rattle.rl_machine.proofs.Silence.{settles_goes}
use Rattle.rl_machine.specs.declared.trace.Answer.{Answer}
use Rattle.rl_machine.specs.Ends.{Notes, Passes as PassesOn, Straight, choice, leaving}
use Rattle.rl_machine.specs.Silence.{LeavesStraight, Settles}
use Rattle.rl_machine.specs.Traces.{Cont, Store, World, waiting}
use Rattle.rl_model.specs.Actions.{Action, Ways, labeled}
use Rattle.rl_model.specs.Dead.{Outs, labeled_outs}
use Rattle.rl_order.proofs.Ordering.{or_left, same_self}
use Rattle.rl_runs.proofs.BlockIds.{IsFree, free_aside, free_fresh, ids_aside, ids_counted, ids_ended}
use Rattle.rl_runs.proofs.Holes.{aside, contained_hole, contained_stacked, front_added, hole_goes, use_statement}
use Rattle.rl_runs.proofs.Jumping.{jumps_in_label}
use Rattle.rl_runs.proofs.Leaving.{label_breaks, label_completes, label_continues}
use Rattle.rl_runs.proofs.Moves.{contained_before, extends_completed, extends_reserved, extends_then, goes_on, terminal_met}
use Rattle.rl_runs.proofs.Naming.{named_ended, named_goto, named_then, named_two, scope_targets}
use Rattle.rl_runs.proofs.Points.{empty_settles, scope_jumps_settle, settle_aside, settle_completed, settle_goto}
use Rattle.rl_runs.proofs.Steps.{since_noted, since_start}
use Rattle.rl_runs.proofs.Used.{below_or, ended_there, ends_more, looped_ended, notes_back, straight_ended, straight_then}
use Rattle.rl_runs.specs.Blocks.{AreUsed, HasPoint, IsNameSince, IsTarget, Leads, Leaves, Lives, NamesSince, Passes}
use Rattle.rl_runs.specs.Blocks.{PointsSettle}
use Rattle.rl_runs.specs.Blocks.{PreservesBlocks, PreservesIds, Settling, StraightSince, UniqueIds}
use Rattle.rl_runs.specs.Continuations.{Agrees, Follows, Inside, Jumps, SharesVariables, Throws, TracesFrom, between}
use Rattle.rl_runs.specs.Exits.{label_ways}
use Rattle.rl_runs.specs.Facts.{HasSoundNames, IsCurrentOrCompleted}
use Rattle.rl_runs.specs.Moves.{block_id, goto, last_hole, without_scope}
use Rattle.rl_runs.specs.Simulation.{RunsStatement}

-- The runs.
module _ (s s2 : State) (label : List ℕ) (span part : Span) where
  abbrev f : ℕ
  f = s.env.next_block

  abbrev begun : State
  begun = label_begun s label

  abbrev shut : State
  shut = last_hole (without_scope s2) f gotos.Break part s.current

  abbrev finished : State
  finished = label_finished s2 f span s.current part

  module _ (g : Extends (label_begun s label) s2) where
    first_extends : Extends s (reserved (reserved s))
    first_extends = extends_then (extends_reserved s) (extends_reserved (reserved s))

    last_extends : Extends shut finished
    last_extends = extends_completed shut (label_end f span) (new_block f block.Block) (λ none. refl)

    pub label_runs : (world : World) (d : Action (Unit {0})) → RunsStatement world d (label_begun s label) s2
        → RunsStatement world (labeled label d) s finished
    label_runs world d rd = record { runs = run_it }
      where
        run_it : (c : Code) → IsContainedIn finished c → HasSoundNames s → SharesVariables c.ident world c.world
            → (ways : Ways) (normal : Cont) (source store : Store) (notes : Notes) (answers : List Answer) → Agrees c.ident source store
            → Throws c (between s finished) store notes answers (innermost s.handlers) ways.throws
            → Jumps c (between s finished) store notes answers s.scopes ways.breaks ways.continues
            → Follows c (between s finished) store notes answers f 0 normal
            → TracesFrom c s store notes answers (labeled label d ways (λ end. normal) source answers)
        run_it c cover sound shares ways normal source store notes answers a throws jumps onward =
            goes_on shut (label_end f span) (new_block f block.Block) c (block_id (f + 1))
            ((block_id f, PassesOn) ∷ []) store notes answers _ refl cover
            (use_statement (label_ways label normal (λ after rest. waiting) ways) normal rd cover2
            (first_extends.sound sound) shares in_hole throws
            (jumps_in_label label (block_id f) normal (λ after rest. waiting) ways s.scopes onward jumps)
            (since_noted (block_id f) PassesOn (omega arith) (omega (arith, g.blocks)) (since_start a))
            (λ source1 store1 notes1 answers1 t u. hole_goes
            (without_scope s2) f gotos.Break part s.current c store1 notes1 answers1 _ cover_shut
            (onward.goes source1 store1 notes1 answers1 t)))
          where
            cover_shut : IsContainedIn shut c
            cover_shut = contained_before last_extends cover

            cover2 : IsContainedIn s2 c
            cover2 =
                contained_stacked s2 (take (length s2.scopes - 1) s2.scopes) s2.handlers c (λ none. none)
                (contained_hole (without_scope s2) f gotos.Break part s.current c cover_shut)

            in_hole : Inside (between s finished) (between begun s2)
            in_hole = record { identifier = omega arith; identifiers = omega arith; block = omega arith; blocks = omega arith }

-- The blocks.
module _ (x s2 : State) (own : List ℕ) (span part : Span) where
  abbrev n : ℕ
  n = x.env.next_block

  abbrev r : State
  r = reserved (reserved x)

  abbrev opened : State
  opened = label_begun x own

  abbrev sr : State
  sr = without_scope s2

  abbrev closed : State
  closed = last_hole sr n gotos.Break part x.current

  abbrev last : State
  last = completed_by closed (label_end n span) (new_block n block.Block)

  module _ (b : PreservesBlocks (label_begun x own) s2) where
    scopes_left : take (length s2.scopes - 1) s2.scopes ≡ x.scopes
    scopes_left = ap (λ (l : List JumpScope). take (length l - 1) l) b.extends.scopes ∙ front_added x.scopes (label_scope x own)

    all_extends : Extends x last
    all_extends =
        extends_then (extends_then (extends_reserved x) (extends_reserved (reserved x)))
        (extends_then (aside r s2 (new_block (n + 1) block.Block) opened.scopes
        (take (length s2.scopes - 1) s2.scopes) x.handlers s2.handlers
        (goto n gotos.Break part) scopes_left b.extends.handlers b.extends)
        (extends_completed closed (label_end n span) (new_block n block.Block) (λ none. refl)))

    first : (id : ℕ) → n ≤ id → id < n + 1 + 1 → UniqueIds x.completed x.current.id.0 n
        → IsFree r.completed r.current.id.0 r.env.next_block id
    first id above below c = free_fresh x.completed x.current.id.0 n (n + 1 + 1) id c above below

    all_ids : PreservesIds x last
    all_ids =
        ids_ended closed (label_end n span) (new_block n block.Block)
        (ids_aside r sr (n + 1) (goto n gotos.Break part) (ids_counted x.completed x.current.id.0 n (n + 1 + 1) (omega arith))
        (inr (omega arith)) (first (n + 1) (omega arith) (omega arith)) b.ids)
        (inr (omega arith))
        (λ c. free_aside r sr (n + 1) n (goto n gotos.Break part) (first n (omega arith) (omega arith) c) (λ e. omega (arith, e)) b.ids)

    all_used : AreUsed x last
    all_used id above below = elim (below_or id (n + 1)) [
      | inl one ↦ (let same : n ≡ id = omega (arith, above, one) in inl same)
      | inr rest ↦ inr (ended_there closed (label_end n span) (new_block n block.Block) id (inr (ended_there sr (goto n gotos.Break part) x.current id (in_hole id rest below))))
    ]
      where
        in_hole : (id1 : ℕ) → n + 1 ≤ id1 → id1 < sr.env.next_block → IsCurrentOrCompleted sr id1
        in_hole id1 rest1 below1 = elim (below_or id1 (n + 1 + 1)) [
          | inl two1 ↦ (let same : n + 1 ≡ id1 = omega (arith, rest1, two1) in subst (λ (m : ℕ). IsCurrentOrCompleted sr m) same b.extends.current)
          | inr more ↦ b.used id1 more below1
        ]

    in_body : (id : ℕ) → IsTarget x.handlers (x.scopes ++ label_scope x own ∷ []) id → IsNameSince x sr.env.next_block id
    in_body id to = elim (scope_targets x.handlers x.scopes (label_scope x own) id to) [
      | inl around ↦ inr around
      | inr mine ↦ elim mine [
        | inl e ↦ inl (omega (arith, e), omega (arith, e, b.extends.blocks))
        | inr again ↦ absurd (let never : Err NotALoop ≡ Ok again.0 = again.1 in cc)
      ]
    ]

    to_hole : NamesSince x sr
    to_hole = named_then x opened sr (omega arith) b.extends.blocks in_body (λ one there. inl there) b.named

    to_closed : NamesSince x closed
    to_closed =
        named_ended x sr (goto n gotos.Break part) x.current to_hole
        (named_goto x n sr.env.next_block gotos.Break part (omega arith) (omega (arith, b.extends.blocks)))

    all_named : NamesSince x last
    all_named =
        named_ended x closed (label_end n span) (new_block n block.Block) to_closed
        (named_two x (block_id (n + 1)) (block_id n) sr.env.next_block (omega arith) (omega (arith, b.extends.blocks)) (omega arith)
        (omega (arith, b.extends.blocks)))

    closed_straight : StraightSince sr last
    closed_straight =
        straight_then sr closed last (omega arith) (omega arith)
        (straight_ended sr (goto n gotos.Break part) x.current (λ id never. never))
        (straight_ended closed (label_end n span) (new_block n block.Block) calm)
      where
        calm : (id : ℕ) → LeavesStraight (leaving (label_end n span).kind) id → ⊥
        calm id leaves = elim leaves [ inl one ↦ (let never : choice PassesOn ≡ Straight = one.1 in absurd (cc)) | inr never ↦ never ]

    all_straight : StraightSince x last
    all_straight =
        straight_then x opened last (omega arith) (omega (arith, b.extends.blocks)) (λ id m. inl m)
        (straight_then opened sr last b.extends.blocks (omega arith) b.straight closed_straight)

    cover_body : (c : Code) → IsContainedIn last c → IsContainedIn s2 c
    cover_body c cover =
        contained_stacked s2 (take (length s2.scopes - 1) s2.scopes) s2.handlers c (λ none. none)
        (contained_hole sr n gotos.Break part x.current c
        (contained_before (extends_completed closed (label_end n span) (new_block n block.Block) (λ none. refl)) cover))

    pub label_blocks : PreservesBlocks x last
    label_blocks = record {
      extends = all_extends;
      ids = all_ids;
      used = all_used;
      named = all_named;
      ended = λ all. ends_more closed.completed (ended_by x.current (label_end n span)) refl
          (ends_more sr.completed (ended_by sr.current (goto n gotos.Break part)) refl (b.ended all));
      straight = all_straight;
      settle = settles;
      looped = λ c cover entry old.
          looped_ended (IsLedTo c entry) closed (label_end n span) (new_block n block.Block) (λ led. tt)
          (looped_ended (IsLedTo c entry) sr (goto n gotos.Break part) x.current (λ led. tt)
          (b.looped c (cover_body c cover) entry old));
    }
      where
        settles : Settling x last
        settles c cover mine below jumps old behind =
            settle_completed closed (label_end n span) (new_block n block.Block) c (leads start)
            (settle_aside r sr (new_block (n + 1) block.Block) (goto n gotos.Break part) c refl hole end old) (empty_settles c n)
          where
            cover_closed : IsContainedIn closed c
            cover_closed =
                contained_before (extends_completed closed (label_end n span) (new_block n block.Block) (λ none. refl)) cover

            -- The end of the block in front settles if the first point of the hole does.
            leads : Settles c (n + 1) 0 → Settles c x.current.id.0 (length x.current.instructions)
            leads there =
                settles_goes c x.current.id.0 (length x.current.instructions) (label_end n span) (block_id (n + 1))
                ((block_id n, PassesOn) ∷ [])
                (terminal_met closed (label_end n span) (new_block n block.Block) c cover) refl there

            end : Settles c sr.current.id.0 (length sr.current.instructions)
            end = settle_goto sr n gotos.Break part x.current c cover_closed behind

            hole : PointsSettle c opened → PointsSettle c s2
            hole first1 =
                b.settle c (cover_body c cover) (notes_back c x opened sr last mine (omega arith) (omega arith) closed_straight)
                (λ id m. (let small : id < n = below id m in omega (arith, small))) (scope_jumps_settle c x.scopes (label_scope x own) jumps behind (λ block1 is. absurd (let never : Err NotALoop ≡ Ok block1 = is in cc))) first1

            all_points : (id index : ℕ) → HasPoint s2 id index → Settles c id index
            all_points = hole begins end
              where
                begins : PointsSettle c opened
                begins there id index h = elim h [
                  | inl d ↦ old (leads there) id index (inl (record { index = d.index; block = d.block; found = d.found; named = d.named; within = d.within }))
                  | inr w ↦ absurd (let none : index < 0 = w.within in omega (arith, none))
                ]

            start : Settles c (n + 1) 0
            start = elim b.extends.current [
              | inl same ↦ by_length (length sr.current.instructions) refl same
              | inr k ↦ all_points (n + 1) 0 (inl (record { index = k.place; block = k.block; found = k.found; named = k.named; within = omega arith }))
            ]
              where
                by_length : (m : ℕ) → length sr.current.instructions ≡ m → sr.current.id.0 ≡ n + 1 → Settles c (n + 1) 0
                by_length zero is same = subst (λ (m : ℕ). Settles c m 0) same (subst (λ (m : ℕ). Settles c sr.current.id.0 m) is end)
                by_length (suc m) is same = all_points (n + 1) 0 (inr (record { named = same; within = omega (arith, is) }))

    -- Live instructions, and jumps.

    at_hole : (c : Code) → IsContainedIn last c → (entry : ℕ) → IsLedTo c entry x.current.id.0 → IsLedTo c entry (n + 1)
    at_hole c cover entry led =
        Leads x.current.id.0 (length x.current.instructions) (label_end n span) (block_id (n + 1)) led
        (terminal_met closed (label_end n span) (new_block n block.Block) c cover)
        (or_left (same_id (block_id (n + 1)) (block_id (n + 1))) false (same_self (block_id (n + 1))))

    -- A body that completes leads behind the statement.
    comes : Passes (label_begun x own) s2 → (c : Code) → IsContainedIn last c → (entry : ℕ)
        → IsLedTo c entry (x.env.next_block + 1) → IsLedTo c entry x.env.next_block
    comes passes c cover entry led =
        Leads s2.current.id.0 (length s2.current.instructions) (goto n gotos.Break part) (block_id n)
        (passes c (cover_body c cover) entry led)
        (terminal_met sr (goto n gotos.Break part) x.current c
        (contained_before (extends_completed closed (label_end n span) (new_block n block.Block) (λ none. refl)) cover))
        (or_left (same_id (block_id n) (block_id n)) false (same_self (block_id n)))

    -- The statement completes where its body does, or where a `break` to its label leads behind it.
    pub label_lives : {K : Type 0} (key_of : Instruction → Option K) (live : List K) (body : Outs)
        → Lives key_of live body.falls (label_begun x own) s2 → Leaves body (label_begun x own) s2
        → Lives key_of live (labeled_outs own body).falls x last
    label_lives key_of live body l j = record {
      onward = λ is c cover entry led.
          label_completes (IsLedTo c entry) x.scopes own (block_id n) body
          (j.breaks c (cover_body c cover) entry (at_hole c cover entry led))
          (j.continues c (cover_body c cover) entry (at_hole c cover entry led))
          (λ falls. comes (l.onward falls) c cover entry (at_hole c cover entry led)) is;
      stands = λ c cover entry led. l.stands c (cover_body c cover) entry (at_hole c cover entry led);
    }

    pub label_leaves : (body : Outs) → Leaves body (label_begun x own) s2 → Leaves (labeled_outs own body) x last
    label_leaves body j = record {
      breaks = λ c cover entry led.
          label_breaks (IsLedTo c entry) x.scopes own (block_id n) body
          (j.breaks c (cover_body c cover) entry (at_hole c cover entry led))
          (j.continues c (cover_body c cover) entry (at_hole c cover entry led));
      continues = λ c cover entry led.
          label_continues (IsLedTo c entry) x.scopes own (block_id n) body
          (j.breaks c (cover_body c cover) entry (at_hole c cover entry led))
          (j.continues c (cover_body c cover) entry (at_hole c cover entry led));
    }
