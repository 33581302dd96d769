-- A sequence of expressions: its runs, and what it preserves of the blocks.
use Rattle.std.proofs.Common.{◌≡◌, ℕ, zero, suc, ◌+◌, ◌<◌, ◌≤◌, inl, inr, List, [], ◌∷◌, length, length-append, Some, refl, subst}
use Rattle.std.proofs.Common.{arith}
use Rattle.rl_builder.specs.Builder.{completed_by, ended_by, entered, innermost, new_block, reserved, with_temporary}
use Rattle.rl_frames.proofs.Common.{Code, Extends, IsContainedIn, IsLedTo, Place, Span, State}
use Rattle.rl_frames.specs.Parts.{sequence_begun, sequence_end, sequence_finished, sequence_place, sequence_reserved}
use Rattle.rl_hir.specs.declared.function.BlockKind.{BlockKind}
use Rattle.rl_hir.specs.declared.function.BlockKind.TheVariants as block
use Rattle.rl_hir.specs.declared.instruction.InstructionKind.TheVariants as variables
use Rattle.rl_hir.specs.declared.instruction.InstructionValue.TheVariants as values
use Rattle.rl_hir.specs.declared.terminal.GotoVariant.TheVariants as gotos
use Rattle.rl_machine.proofs.Silence.{settles_goes}
use Rattle.rl_machine.specs.declared.trace.Answer.{Answer}
use Rattle.rl_machine.specs.declared.trace.Value.{Value}
use Rattle.rl_machine.specs.Ends.{Notes, Passes as PassesOn, Straight, choice, leaving}
use Rattle.rl_machine.specs.Silence.{LeavesStraight, Settles}
use Rattle.rl_machine.specs.Traces.{Store, ValueCont, World}
use Rattle.rl_model.specs.Actions.{Action, Ways}
use Rattle.rl_runs.proofs.BlockIds.{IsFree, free_aside, free_fresh, ids_aside, ids_counted, ids_ended}
use Rattle.rl_runs.proofs.FinalNames.{nobody_fresh}
use Rattle.rl_runs.proofs.Holes.{aside, contained_hole, hole_goes, use_expression}
use Rattle.rl_runs.proofs.Links.{stores_on}
use Rattle.rl_runs.proofs.Moves.{contained_before, extends_completed, extends_reserved, extends_temporary, extends_then, extends_value}
use Rattle.rl_runs.proofs.Moves.{goes_on, terminal_met, value_made}
use Rattle.rl_runs.proofs.Naming.{named_ended, named_goto, named_then, named_two}
use Rattle.rl_runs.proofs.Points.{empty_settles, settle_aside, settle_completed, settle_goto}
use Rattle.rl_runs.proofs.Preserving.{blocks_temporary, blocks_then, blocks_value}
use Rattle.rl_runs.proofs.Steps.{since_noted, since_start}
use Rattle.rl_runs.proofs.Used.{below_or, ended_there, ends_more, looped_ended, notes_back, straight_ended, straight_then}
use Rattle.rl_runs.specs.Blocks.{AreUsed, HasPoint, NamesSince, PointsSettle, PreservesBlocks, PreservesIds, Settling}
use Rattle.rl_runs.specs.Blocks.{StraightSince, UniqueIds}
use Rattle.rl_runs.specs.Continuations.{Agrees, Continues, Inside, SharesVariables, Throws, TracesFrom, between}
use Rattle.rl_runs.specs.Facts.{HasSoundNames, IsCurrentOrCompleted, Nobody}
use Rattle.rl_runs.specs.Moves.{block_id, goto, last_hole, stored_in}
use Rattle.rl_runs.specs.Simulation.{RunsExpression}

-- The runs.
module _ (s s2 : State) (value : Place) (span part : Span) where
  abbrev f : ℕ
  f = s.env.next_block

  abbrev place : Place
  place = sequence_place s span

  abbrev s1 : State
  s1 = sequence_reserved s span

  abbrev r1 : State
  r1 = reserved s1

  abbrev begun : State
  begun = sequence_begun s span

  abbrev sr : State
  sr = stored_in s2 place value part

  abbrev shut : State
  shut = last_hole sr f gotos.Break part s.current

  abbrev finished : State
  finished = sequence_finished s2 f s.current.kind place value span part s.current

  module _ (g : Extends (sequence_begun s span) s2) where
    first_extends : Extends s s1
    first_extends = extends_then (extends_reserved s) (extends_temporary (reserved s) (Some span))

    moved_extends : Extends s2 sr
    moved_extends = extends_value s2 (values.StoreLocal variables.Const place value) (Some part)

    within : Extends begun sr
    within = extends_then g moved_extends

    aside_extends : Extends r1 shut
    aside_extends =
        aside r1 sr (new_block (f + 1) block.Sequence) s.scopes sr.scopes s.handlers sr.handlers
        (goto f gotos.Break part) within.scopes within.handlers within

    last_extends : Extends shut finished
    last_extends = extends_completed shut (sequence_end f span) (new_block f s.current.kind) (λ none. refl)

    one_extends : Extends s1 finished
    one_extends = extends_then (extends_reserved s1) (extends_then aside_extends last_extends)

    two : length s1.env.identifiers ≡ length s.env.identifiers + 1
    two = simp length-append (omega arith)

    nobody : (c : Code) → IsContainedIn finished c → HasSoundNames s → Nobody c.ident (length s.env.identifiers)
    nobody c cover sound =
        nobody_fresh s (length s1.env.identifiers) c.ident (length s.env.identifiers) sound (contained_before one_extends cover).names
        (omega arith) (omega (arith, two))

    pub sequence_runs : (world : World) (d : Action Value) → RunsExpression world d (sequence_begun s span) s2 value.identifier.0
        → RunsExpression world d s finished (length s.env.identifiers)
    sequence_runs world d rd = record {
      fresh = omega arith;
      made = omega (arith, two, one_extends.identifiers);
      free = λ c cover sound. nobody c cover sound;
      runs = run_it;
    }
      where
        run_it : (c : Code) → IsContainedIn finished c → HasSoundNames s → SharesVariables c.ident world c.world
            → (ways : Ways) (k : ValueCont)
            (source store : Store) (notes : Notes) (answers : List Answer) → Agrees c.ident source store
            → Throws c (between s finished) store notes answers (innermost s.handlers) ways.throws
            → Continues c (between s finished) store notes answers f 0 (length s.env.identifiers) k
            → TracesFrom c s store notes answers (d ways k source answers)
        run_it c cover sound shares ways k source store notes answers a throws onward =
            goes_on shut (sequence_end f span) (new_block f s.current.kind) c (block_id (f + 1))
            ((block_id f, PassesOn) ∷ []) store notes answers _ refl cover
            (use_expression ways k rd cover2 (first_extends.sound sound) shares in_hole throws
            (since_noted (block_id f) PassesOn (omega arith) (omega (arith, one_extends.blocks)) (since_start a))
            (λ w source1 store1 notes1 answers1 t u is.
            stores_on s2 place value part f w k cover_right (g.sound (first_extends.sound sound)) (nobody c cover sound) (omega arith)
            (omega (arith, two, g.identifiers)) fits
            (λ store2 trace rest. hole_goes sr f gotos.Break part s.current c store2 notes1 answers1 trace cover_shut rest) onward t is))
          where
            cover_shut : IsContainedIn shut c
            cover_shut = contained_before last_extends cover

            cover_right : IsContainedIn sr c
            cover_right = contained_hole sr f gotos.Break part s.current c cover_shut

            cover2 : IsContainedIn s2 c
            cover2 = contained_before moved_extends cover_right

            fits : length s2.env.identifiers < length finished.env.identifiers
            fits = omega (arith, value_made s2 (values.StoreLocal variables.Const place value) (Some part))

            in_hole : Inside (between s finished) (between begun s2)
            in_hole =
                record {
                  identifier = omega (arith, two);
                  identifiers = omega (arith, fits);
                  block = omega arith;
                  blocks = omega
                      (arith, moved_extends.blocks);
                }

-- The blocks of a hole that is set aside, to which the block in front goes on.
module _ (x sr : State) (span part : Span) (kind : BlockKind) (last_kind : BlockKind) where
  abbrev n : ℕ
  n = x.env.next_block

  abbrev r : State
  r = reserved (reserved x)

  abbrev opened : State
  opened = entered r (new_block (n + 1) kind)

  abbrev closed : State
  closed = last_hole sr n gotos.Break part x.current

  abbrev last : State
  last = completed_by closed (sequence_end n span) (new_block n last_kind)

  module _ (b : PreservesBlocks (entered (reserved (reserved x)) (new_block (x.env.next_block + 1) kind)) sr) where
    all_extends : Extends x last
    all_extends =
        extends_then (extends_then (extends_reserved x) (extends_reserved (reserved x)))
        (extends_then (aside r sr (new_block (n + 1) kind) x.scopes sr.scopes x.handlers sr.handlers
        (goto n gotos.Break part) b.extends.scopes b.extends.handlers b.extends)
        (extends_completed closed (sequence_end n span) (new_block n last_kind) (λ none. refl)))

    first : (id : ℕ) → n ≤ id → id < n + 1 + 1 → UniqueIds x.completed x.current.id.0 n
        → IsFree r.completed r.current.id.0 r.env.next_block id
    first id above below c = free_fresh x.completed x.current.id.0 n (n + 1 + 1) id c above below

    all_ids : PreservesIds x last
    all_ids =
        ids_ended closed (sequence_end n span) (new_block n last_kind)
        (ids_aside r sr (n + 1) (goto n gotos.Break part) (ids_counted x.completed x.current.id.0 n (n + 1 + 1) (omega arith))
        (inr (omega arith)) (first (n + 1) (omega arith) (omega arith)) b.ids)
        (inr (omega arith))
        (λ c. free_aside r sr (n + 1) n (goto n gotos.Break part) (first n (omega arith) (omega arith) c) (λ e. omega (arith, e)) b.ids)

    all_used : AreUsed x last
    all_used id above below = elim (below_or id (n + 1)) [
      | inl one ↦ (let same : n ≡ id = omega (arith, above, one) in inl same)
      | inr rest ↦ inr (ended_there closed (sequence_end n span) (new_block n last_kind) id (inr (ended_there sr (goto n gotos.Break part) x.current id (in_hole id rest below))))
    ]
      where
        in_hole : (id1 : ℕ) → n + 1 ≤ id1 → id1 < sr.env.next_block → IsCurrentOrCompleted sr id1
        in_hole id1 rest1 below1 = elim (below_or id1 (n + 1 + 1)) [
          | inl two1 ↦ (let same : n + 1 ≡ id1 = omega (arith, rest1, two1) in subst (λ (m : ℕ). IsCurrentOrCompleted sr m) same b.extends.current)
          | inr more ↦ b.used id1 more below1
        ]

    to_hole : NamesSince x sr
    to_hole = named_then x opened sr (omega arith) b.extends.blocks (λ id target. inr target) (λ one there. inl there) b.named

    to_closed : NamesSince x closed
    to_closed =
        named_ended x sr (goto n gotos.Break part) x.current to_hole
        (named_goto x n sr.env.next_block gotos.Break part (omega arith) (omega (arith, b.extends.blocks)))

    all_named : NamesSince x last
    all_named =
        named_ended x closed (sequence_end n span) (new_block n last_kind) to_closed
        (named_two x (block_id (n + 1)) (block_id n) sr.env.next_block (omega arith) (omega (arith, b.extends.blocks)) (omega arith)
        (omega (arith, b.extends.blocks)))

    closed_straight : StraightSince sr last
    closed_straight =
        straight_then sr closed last (omega arith) (omega arith)
        (straight_ended sr (goto n gotos.Break part) x.current (λ id never. never))
        (straight_ended closed (sequence_end n span) (new_block n last_kind) calm)
      where
        calm : (id : ℕ) → LeavesStraight (leaving (sequence_end n span).kind) id → ⊥
        calm id leaves = elim leaves [ inl one ↦ (let never : choice PassesOn ≡ Straight = one.1 in absurd (cc)) | inr never ↦ never ]

    all_straight : StraightSince x last
    all_straight =
        straight_then x opened last (omega arith) (omega (arith, b.extends.blocks)) (λ id m. inl m)
        (straight_then opened sr last b.extends.blocks (omega arith) b.straight closed_straight)

    pub aside_blocks : PreservesBlocks x last
    aside_blocks = record {
      extends = all_extends;
      ids = all_ids;
      used = all_used;
      named = all_named;
      ended = λ all. ends_more closed.completed (ended_by x.current (sequence_end n span)) refl
          (ends_more sr.completed (ended_by sr.current (goto n gotos.Break part)) refl (b.ended all));
      straight = all_straight;
      settle = settles;
      looped = λ c cover entry old.
          looped_ended (IsLedTo c entry) closed (sequence_end n span) (new_block n last_kind) (λ led. tt)
          (looped_ended (IsLedTo c entry) sr (goto n gotos.Break part) x.current (λ led. tt)
          (b.looped c (contained_hole sr n gotos.Break part x.current c
          (contained_before (extends_completed closed (sequence_end n span) (new_block n last_kind) (λ none. refl)) cover)) entry old));
    }
      where
        settles : Settling x last
        settles c cover own below jumps old behind =
            settle_completed closed (sequence_end n span) (new_block n last_kind) c (leads start)
            (settle_aside r sr (new_block (n + 1) kind) (goto n gotos.Break part) c refl hole end old) (empty_settles c n)
          where
            cover_closed : IsContainedIn closed c
            cover_closed =
                contained_before (extends_completed closed (sequence_end n span) (new_block n last_kind) (λ none. refl)) cover

            cover_hole : IsContainedIn sr c
            cover_hole = contained_hole sr n gotos.Break part x.current c cover_closed

            -- The end of the block in front settles if the first point of the hole does.
            leads : Settles c (n + 1) 0 → Settles c x.current.id.0 (length x.current.instructions)
            leads there =
                settles_goes c x.current.id.0 (length x.current.instructions) (sequence_end n span) (block_id (n + 1))
                ((block_id n, PassesOn) ∷ [])
                (terminal_met closed (sequence_end n span) (new_block n last_kind) c cover) refl there

            end : Settles c sr.current.id.0 (length sr.current.instructions)
            end = settle_goto sr n gotos.Break part x.current c cover_closed behind

            hole : PointsSettle c opened → PointsSettle c sr
            hole first1 =
                b.settle c cover_hole (notes_back c x opened sr last own (omega arith) (omega arith) closed_straight)
                (λ id m. (let small : id < n = below id m in omega (arith, small))) jumps first1

            all_points : (id index : ℕ) → HasPoint sr id index → Settles c id index
            all_points = hole begins end
              where
                begins : PointsSettle c opened
                begins there id index h = elim h [
                  | inl d ↦ old (leads there) id index (inl d)
                  | inr w ↦ absurd (let none : index < 0 = w.within in omega (arith, none))
                ]

            start : Settles c (n + 1) 0
            start = elim b.extends.current [
              | inl same ↦ by_length (length sr.current.instructions) refl same
              | inr k ↦ all_points (n + 1) 0 (inl (record { index = k.place; block = k.block; found = k.found; named = k.named; within = omega arith }))
            ]
              where
                by_length : (m : ℕ) → length sr.current.instructions ≡ m → sr.current.id.0 ≡ n + 1 → Settles c (n + 1) 0
                by_length zero is same = subst (λ (m : ℕ). Settles c m 0) same (subst (λ (m : ℕ). Settles c sr.current.id.0 m) is end)
                by_length (suc m) is same = all_points (n + 1) 0 (inr (record { named = same; within = omega (arith, is) }))

pub sequence_blocks : (s s2 : State) (value : Place) (span part : Span) → PreservesBlocks (sequence_begun s span) s2
    → PreservesBlocks s (sequence_finished s2 s.env.next_block s.current.kind (sequence_place s span) value span part s.current)
sequence_blocks s s2 value span part b =
    blocks_then s (with_temporary s (Some span)) _ (blocks_temporary s (Some span))
    (aside_blocks (with_temporary s (Some span)) (stored_in s2 (sequence_place s span) value part) span part block.Sequence s.current.kind
    (blocks_then (sequence_begun s span) s2 _ b
    (blocks_value s2 (values.StoreLocal variables.Const (sequence_place s span) value) (Some part))))
