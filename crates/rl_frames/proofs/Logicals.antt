-- The runs of a logical expression.
use Rattle.std.proofs.Common.{◌≡◌, ℕ, ◌+◌, ◌<◌, ◌≤◌, inl, List, [], ◌∷◌, length, length-append, Option, Some, refl, sym, ◌∙◌}
use Rattle.std.proofs.Common.{subst, arith}
use Rattle.rl_base.specs.declared.operator.LogicalOperator.{LogicalOperator}
use Rattle.rl_base.specs.declared.operator.LogicalOperator.TheVariants as logical
use Rattle.rl_builder.specs.Builder.{innermost, new_block, pushed, reserved, with_temporary}
use Rattle.rl_builder.specs.Temporaries.{temporary, unordered}
use Rattle.rl_frames.proofs.Common.{BlockId, Code, Extends, IsContainedIn, Place, Span, State}
use Rattle.rl_frames.specs.Meanings.{connected, decided}
use Rattle.rl_frames.specs.Parts.{loads, logical_begun, logical_end, logical_entered, logical_finished, logical_left, logical_place}
use Rattle.rl_frames.specs.Parts.{logical_reserved, logical_right}
use Rattle.rl_hir.specs.declared.function.BlockKind.TheVariants as block
use Rattle.rl_hir.specs.declared.instruction.InstructionKind.TheVariants as kind
use Rattle.rl_hir.specs.declared.instruction.InstructionValue.TheVariants as values
use Rattle.rl_hir.specs.declared.terminal.GotoVariant.TheVariants as gotos
use Rattle.rl_machine.specs.declared.trace.Answer.{Answer}
use Rattle.rl_machine.specs.declared.trace.Value.{Value}
use Rattle.rl_machine.specs.Ends.{Connects, Note, Notes, choice, noted}
use Rattle.rl_machine.specs.Machine.{Ends, at, branched, changer, choice_at}
use Rattle.rl_machine.specs.Traces.{Cont, Store, ValueCont, World, nullish, set, set_open, tested, truthy}
use Rattle.rl_model.specs.Actions.{Action, Ways}
use Rattle.rl_runs.proofs.Events.{tests_come}
use Rattle.rl_runs.proofs.FinalNames.{nobody_fresh}
use Rattle.rl_runs.proofs.Holes.{aside, contained_hole, hole_goes, same_throws, use_expression}
use Rattle.rl_runs.proofs.Links.{stores_on}
use Rattle.rl_runs.proofs.Moves.{contained_before, extends_completed, extends_pushed, extends_reserved, extends_temporary, extends_then}
use Rattle.rl_runs.proofs.Moves.{extends_value, goes_on, inside, push_runs, terminal_met}
use Rattle.rl_runs.proofs.Steps.{inside_refl, noted_same, set_same, since_noted, since_set, since_start, since_then, steps_on}
use Rattle.rl_runs.specs.Continuations.{IsBehind, SharesVariables, Agrees, Continues, Eventually, Since, Throws, TracesAt, TracesFrom}
use Rattle.rl_runs.specs.Continuations.{between, Inside}
use Rattle.rl_runs.specs.Facts.{AreOne, HasSoundNames, Nobody}
use Rattle.rl_runs.specs.Moves.{stored_in, block_id, branch, goto, last_hole}
use Rattle.rl_runs.specs.Simulation.{RunsExpression}

-- The branch at the end of the test decides as the source does.
decides : (c : Code) (world : World) (one : AreOne c.ident) (shares : SharesVariables c.ident world c.world)
    (operator : LogicalOperator)
    (test : ℕ) (v : Value) (source store : Store) (notes : Notes) (answers : List Answer) (consequent alternate : BlockId)
    (k_left k_right : Cont) → store test ≡ v → Agrees c.ident source store
    → ((source1 store1 : Store) (rest : List Answer) → IsBehind c store notes answers source1 store1 rest
    → TracesAt c consequent.0 0 store1 notes rest (k_left source1 rest))
    → ((source1 store1 : Store) (rest : List Answer) → IsBehind c store notes answers source1 store1 rest
    → TracesAt c alternate.0 0 store1 notes rest (k_right source1 rest))
    → Eventually c (λ stuck next. branched stuck c (choice (Connects operator)) test consequent alternate next next notes store answers)
    (decided operator (set_open world.opens) v source answers k_left k_right)
decides c world one shares logical.And test v source store notes answers consequent alternate k_left k_right is a left right =
    subst (λ (w : Value). Eventually c
    (λ stuck next. tested (changer c) (truthy w) store answers (at next alternate notes) (at next consequent notes))
    (tested (set_open world.opens) (truthy v) source answers k_right k_left))
    (sym is)
    (tests_come c world one shares (truthy v) answers (λ next. at next alternate notes)
    (λ next. at next consequent notes) k_right k_left a right left)
decides c world one shares logical.Or test v source store notes answers consequent alternate k_left k_right is a left right =
    subst (λ (w : Value). Eventually c
    (λ stuck next. tested (changer c) (truthy w) store answers (at next consequent notes) (at next alternate notes))
    (tested (set_open world.opens) (truthy v) source answers k_left k_right))
    (sym is)
    (tests_come c world one shares (truthy v) answers (λ next. at next consequent notes)
    (λ next. at next alternate notes) k_left k_right a left right)
decides c world one shares logical.Coalesce test v source store notes answers consequent alternate k_left k_right is a left right =
    subst (λ (w : Value). Eventually c
    (λ stuck next. tested (changer c) (nullish w) store answers (at next alternate notes) (at next consequent notes))
    (tested (set_open world.opens) (nullish v) source answers k_right k_left))
    (sym is)
    (tests_come c world one shares (nullish v) answers (λ next. at next alternate notes)
    (λ next. at next consequent notes) k_right k_left a right left)

-- No counter fell.
pub record Below (s s1 : State) : Type 0 where
  pub identifiers : length s.env.identifiers ≤ length s1.env.identifiers
  pub blocks : s.env.next_block ≤ s1.env.next_block

module _ (s s2 s4 : State) (operator : LogicalOperator) (right_value left_value : Place) (span left part : Span) where
  abbrev pub f : ℕ
  f = s.env.next_block

  abbrev pub place : Place
  place = logical_place s span

  abbrev pub tested_place : Place
  tested_place = logical_left s left

  -- With the first blocks numbered and the places made, and with the consequent's block numbered.
  abbrev pub s1 : State
  s1 = logical_reserved s span left

  abbrev pub r1 : State
  r1 = reserved s1

  -- In the consequent.
  abbrev pub sc : State
  sc = logical_entered s span left

  abbrev pub sm : State
  sm = stored_in sc place tested_place left

  abbrev pub alternate : ℕ
  alternate = sm.env.next_block

  -- In the alternate, before and behind the right part.
  abbrev pub sd : State
  sd = logical_begun s span left

  abbrev pub sr : State
  sr = stored_in s2 place right_value part

  -- Facts of the block in which the terminal stands, and of the test.
  abbrev pub shut : State
  shut = last_hole sr f gotos.Break part s.current

  abbrev pub sl : State
  sl = logical_right s2 f place operator span s.current right_value part

  abbrev pub s5 : State
  s5 = pushed s4 (loads tested_place left_value span)

  abbrev pub finished : State
  finished = logical_finished s4 f alternate tested_place s.current.kind span left_value

  module _ (gr : Extends (logical_begun s span left) s2)
      (gl : Extends (logical_right s2 s.env.next_block (logical_place s span) operator span s.current right_value part) s4) where
    first_extends : Extends s s1
    first_extends =
        extends_then (extends_reserved s)
        (extends_then (extends_reserved (reserved s))
        (extends_then (extends_temporary (reserved (reserved s)) (Some span))
        (extends_temporary (with_temporary (reserved (reserved s)) (Some span)) (Some left))))

    consequent_extends : Extends sc sd
    consequent_extends =
        extends_then (extends_value sc (values.StoreLocal kind.Const place tested_place) (Some left))
        (extends_then (extends_reserved sm)
        (extends_completed (reserved sm) (goto f gotos.Break left) (new_block sm.env.next_block block.Value) (λ none. refl)))

    right_extends : Extends s2 sr
    right_extends = extends_value s2 (values.StoreLocal kind.Const place right_value) (Some part)

    aside_extends : Extends r1 shut
    aside_extends =
        aside r1 sr (new_block (f + 1 + 1) block.Value) s.scopes sr.scopes s.handlers sr.handlers
        (goto f gotos.Break part) within.scopes within.handlers within
      where
        within : Extends sc sr
        within = extends_then consequent_extends (extends_then gr right_extends)

    terminal_extends : Extends shut sl
    terminal_extends = extends_completed shut (logical_end f operator span) (new_block (f + 1) block.Value) (λ none. refl)

    left_extends : Extends s sl
    left_extends = extends_then first_extends (extends_then (extends_reserved s1) (extends_then aside_extends terminal_extends))

    last_extends : Extends s5 finished
    last_extends = extends_completed s5 (branch tested_place (f + 1 + 1) alternate f span) (new_block f s.current.kind) (λ none. refl)

    end_extends : Extends sl finished
    end_extends = extends_then gl (extends_then (extends_pushed s4 (loads tested_place left_value span)) last_extends)

    two : length s1.env.identifiers ≡ length s.env.identifiers + 2
    two = simp length-append (omega arith)

    one_extends : Extends s1 finished
    one_extends = extends_then (extends_reserved s1) (extends_then aside_extends (extends_then terminal_extends end_extends))

    nobody : (identifier : ℕ) → length s.env.identifiers ≤ identifier → identifier < length s.env.identifiers + 2 → (c : Code)
        → IsContainedIn finished c → HasSoundNames s → Nobody c.ident identifier
    nobody identifier above below c cover sound =
        nobody_fresh s (length s1.env.identifiers) c.ident identifier sound (contained_before one_extends cover).names above
        (omega (arith, below, two))

    pub logical_runs : (world : World) (dl dr : Action Value)
        → RunsExpression world dr (logical_begun s span left) s2 right_value.identifier.0
        → RunsExpression world dl
        (logical_right s2 s.env.next_block (logical_place s span) operator span s.current right_value part) s4 left_value.identifier.0
        → RunsExpression world (connected world operator dl dr) s finished (length s.env.identifiers)
    logical_runs world dl dr rr rl = record {
      fresh = omega arith;
      made = omega (arith, two, one_extends.identifiers);
      free = λ c cover sound. nobody (length s.env.identifiers) (omega arith) (omega arith) c cover sound;
      runs = run_it;
    }
      where
        run_it : (c : Code) → IsContainedIn finished c → HasSoundNames s → SharesVariables c.ident world c.world
            → (ways : Ways) (k : ValueCont) (source store : Store) (notes : Notes) (answers : List Answer) → Agrees c.ident source store
            → Throws c (between s finished) store notes answers (innermost s.handlers) ways.throws
            → Continues c (between s finished) store notes answers f 0 (length s.env.identifiers) k
            → TracesFrom c s store notes answers (connected world operator dl dr ways k source answers)
        run_it c cover sound shares ways k source store notes answers a throws onward =
            goes_on shut (logical_end f operator span) (new_block (f + 1) block.Value) c (block_id (f + 1))
            ((block_id (f + 1), Connects operator) ∷ (block_id f, Connects operator) ∷ []) store notes answers _ refl cover_left
            (use_expression ways (λ v e r. decided operator (set_open world.opens) v e r (k v) (dr ways k)) rl cover4
            (left_extends.sound sound) shares
            (inside left_extends (extends_then (extends_pushed s4 (loads tested_place left_value span)) last_extends))
            (same_throws c (between s finished) store notes answers s sl ways.throws left_extends.handlers throws)
            (since_noted (block_id f) (Connects operator) (omega arith) (omega (arith, last_blocks))
            (since_noted (block_id (f + 1)) (Connects operator) (omega arith) (omega (arith, last_blocks)) (since_start a)))
            decide)
          where
            m : ℕ
            m = length s.env.identifiers

            last_blocks : f + 1 < finished.env.next_block
            last_blocks = omega (arith, one_extends.blocks)

            last_identifiers : length s.env.identifiers + 2 ≤ length finished.env.identifiers
            last_identifiers = omega (arith, two, one_extends.identifiers)

            notes1 : Notes
            notes1 = noted (noted notes (block_id (f + 1)) (Connects operator)) (block_id f) (Connects operator)

            cover5 : IsContainedIn s5 c
            cover5 = contained_before last_extends cover

            cover4 : IsContainedIn s4 c
            cover4 = contained_before (extends_pushed s4 (loads tested_place left_value span)) cover5

            cover_left : IsContainedIn sl c
            cover_left = contained_before gl cover4

            cover_shut : IsContainedIn shut c
            cover_shut = contained_before terminal_extends cover_left

            cover_right : IsContainedIn sr c
            cover_right = contained_hole sr f gotos.Break part s.current c cover_shut

            cover2 : IsContainedIn s2 c
            cover2 = contained_before right_extends cover_right

            cover_begun : IsContainedIn sd c
            cover_begun = contained_before gr cover2

            cover_moved : IsContainedIn sm c
            cover_moved =
                contained_before (extends_reserved sm)
                (contained_hole (reserved sm) f gotos.Break left (new_block sm.env.next_block block.Value) c cover_begun)

            sound_entered : HasSoundNames sc
            sound_entered = first_extends.sound sound

            -- Continuations behind the right part, and behind the consequent.
            moved_right : length (with_temporary s2 (Some part)).env.identifiers ≡ length s2.env.identifiers + 1
            moved_right = simp length-append (omega arith)

            moved_left : length (with_temporary sc (Some left)).env.identifiers ≡ length sc.env.identifiers + 1
            moved_left = simp length-append (omega arith)

            behind_right : Below s2 finished
            behind_right =
                record {
                  identifiers = omega (arith, right_extends.identifiers, end_extends.identifiers);
                  blocks = omega
                      (arith, right_extends.blocks, end_extends.blocks);
                }

            right_fits : length s2.env.identifiers < length finished.env.identifiers
            right_fits =
                omega (
                  arith,
                  moved_right,
                  (extends_pushed (with_temporary s2 (Some part))
                      (unordered (temporary s2 (Some part)) (values.StoreLocal kind.Const place right_value)
                      (Some part))).identifiers,
                  end_extends.identifiers,
                )

            left_fits : length sc.env.identifiers < length finished.env.identifiers
            left_fits =
                omega (
                  arith,
                  moved_left,
                  (extends_pushed (with_temporary sc (Some left))
                      (unordered (temporary sc (Some left)) (values.StoreLocal kind.Const place tested_place)
                      (Some left))).identifiers,
                  gr.identifiers,
                  right_fits,
                )

            less : Inside (between s finished) (between sd s2)
            less = record {
              identifier = omega
                  (arith, two, consequent_extends.identifiers);
              identifiers = behind_right.identifiers;
              block =
                  omega (arith, consequent_extends.blocks);
              blocks = behind_right.blocks;
            }

            -- From behind the terminal and the left part to where it was tested.
            decide : (v : Value) (source4 store4 : Store) (notes4 : Notes) (answers4 : List Answer)
                → Since c (between s finished) store notes answers source4 store4 notes4 answers4
                → Since c (between sl s4) store notes1 answers source4 store4 notes4 answers4 → store4 left_value.identifier.0 ≡ v
                → TracesAt c s4.current.id.0 (length s4.current.instructions) store4 notes4 answers4
                (decided operator (set_open world.opens) v source4 answers4 (k v) (dr ways k))
            decide v source4 store4 notes4 answers4 t u is =
                push_runs s4 (loads tested_place left_value span) c store4 store5 notes4 answers4 _ (λ stuck next place. refl) cover5
                (steps_on c s5.current.id.0 (length s5.current.instructions) store5 notes4 answers4
                (Ends (branch tested_place (f + 1 + 1) alternate f span)) _
                (terminal_met s5 (branch tested_place (f + 1 + 1) alternate f span) (new_block f s.current.kind) c cover)
                (subst (λ (o : Option Note). Eventually c
                (λ stuck next. branched stuck c (choice_at o) (m + 1) (block_id (f + 1 + 1))
                (block_id alternate) next next notes4 store5 answers4)
                (decided operator (set_open world.opens) v source4 answers4 (k v) (dr ways k))) (sym mark)
                (decides c world cover.names.one shares operator (m + 1) v source4 store5 notes4 answers4 (block_id (f + 1 + 1))
                (block_id alternate) (k v) (dr ways k) (set_same store4 (m + 1) (store4 left_value.identifier.0) ∙ is) since5.agrees
                (λ source6 store6 rest after.
                stores_on sc place tested_place left f v k cover_moved sound_entered free (omega arith) (omega (arith, two)) left_fits
                (λ store7 trace rest1. hole_goes (reserved sm) f gotos.Break left
                (new_block sm.env.next_block block.Value) c store7 notes4 rest trace cover_begun rest1) onward
                (since_then (inside_refl (between s finished)) since5.later (after.since (between s finished)))
                ((after.since (between finished finished)).later.temporaries (m + 1)
                (nobody (m + 1) (omega arith) (omega arith) c cover sound) (inl (omega (arith, last_identifiers)))
                ∙ set_same store4 (m + 1) (store4 left_value.identifier.0) ∙ is))
                (λ source6 store6 rest after.
                use_expression ways k rr cover2 (consequent_extends.sound sound_entered) shares less
                (same_throws c (between s finished) store notes answers s sd ways.throws consequent_extends.handlers throws)
                (since_then (inside_refl (between s finished)) since5.later (after.since (between s finished)))
                (λ w source7 store7 notes7 answers7 t7 u7 is7.
                stores_on s2 place right_value part f w k cover_right (gr.sound (consequent_extends.sound sound_entered)) free
                (omega arith) (omega (arith, two, consequent_extends.identifiers, gr.identifiers)) right_fits
                (λ store8 trace rest1. hole_goes sr f gotos.Break part s.current c store8 notes7 answers7 trace cover_shut rest1) onward t7 is7)))))
              where
                store5 : Store
                store5 = set store4 (m + 1) (store4 left_value.identifier.0)

                free : Nobody c.ident m
                free = nobody m (omega arith) (omega arith) c cover sound

                since5 : Since c (between s finished) store notes answers source4 store5 notes4 answers4
                since5 =
                    since_set (m + 1) (store4 left_value.identifier.0) (nobody (m + 1) (omega arith) (omega arith) c cover sound)
                    (omega arith) (omega (arith, last_identifiers)) t

                mark : notes4 f ≡ Some (Connects operator)
                mark =
                    u.later.marks f (inl below) ∙ noted_same (noted notes (block_id (f + 1)) (Connects operator)) (block_id f)
                    (Connects operator)
                  where
                    below : f < sl.env.next_block
                    below = omega (arith, aside_extends.blocks)
