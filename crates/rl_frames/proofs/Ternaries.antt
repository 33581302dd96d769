-- The runs of a conditional expression.
use Rattle.std.proofs.Common.{◌≡◌, ℕ, ◌+◌, ◌<◌, ◌≤◌, inl, List, [], ◌∷◌, length, length-append, Option, Some, refl, sym, ◌∙◌, subst}
use Rattle.std.proofs.Common.{arith}
use Rattle.rl_builder.specs.Builder.{innermost, new_block, reserved}
use Rattle.rl_frames.proofs.Common.{Code, Extends, IsContainedIn, Place, Span, State}
use Rattle.rl_frames.specs.Meanings.{selected}
use Rattle.rl_frames.specs.Parts.{ternary_alternate, ternary_begun, ternary_end, ternary_finished, ternary_place, ternary_reserved}
use Rattle.rl_frames.specs.Parts.{ternary_test}
use Rattle.rl_hir.specs.declared.function.BlockKind.TheVariants as block
use Rattle.rl_hir.specs.declared.instruction.InstructionKind.TheVariants as variables
use Rattle.rl_hir.specs.declared.instruction.InstructionValue.TheVariants as values
use Rattle.rl_hir.specs.declared.terminal.GotoVariant.TheVariants as gotos
use Rattle.rl_machine.specs.declared.trace.Answer.{Answer}
use Rattle.rl_machine.specs.declared.trace.Value.{Value}
use Rattle.rl_machine.specs.Ends.{Chooses, Note, Notes, noted}
use Rattle.rl_machine.specs.Machine.{Ends, at, branched, changer, choice_at}
use Rattle.rl_machine.specs.Traces.{Store, ValueCont, World, set_open, tested, truthy}
use Rattle.rl_model.specs.Actions.{Action, Ways}
use Rattle.rl_runs.proofs.Events.{tests_come}
use Rattle.rl_runs.proofs.FinalNames.{nobody_fresh}
use Rattle.rl_runs.proofs.Holes.{aside, contained_hole, hole_goes, same_throws, use_expression}
use Rattle.rl_runs.proofs.Links.{stores_on}
use Rattle.rl_runs.proofs.Moves.{contained_before, extends_completed, extends_reserved, extends_temporary, extends_then, extends_value}
use Rattle.rl_runs.proofs.Moves.{goes_on, inside, terminal_met, value_made}
use Rattle.rl_runs.proofs.Steps.{inside_refl, noted_same, since_noted, since_start, since_then, steps_on}
use Rattle.rl_runs.specs.Continuations.{Agrees, Continues, Eventually, Inside, SharesVariables, Since, Throws, TracesAt, TracesFrom}
use Rattle.rl_runs.specs.Continuations.{between}
use Rattle.rl_runs.specs.Facts.{HasSoundNames, Nobody}
use Rattle.rl_runs.specs.Moves.{block_id, branch, goto, last_hole, stored_in}
use Rattle.rl_runs.specs.Simulation.{RunsExpression}

module _ (s s2 s3 s4 : State) (consequent_value alternate_value test : Place) (span part other : Span) where
  abbrev pub f : ℕ
  f = s.env.next_block

  abbrev pub place : Place
  place = ternary_place s span

  -- With the first blocks numbered and the place made, and with the consequent's block numbered.
  abbrev pub s1 : State
  s1 = ternary_reserved s span

  abbrev pub r1 : State
  r1 = reserved s1

  -- In the consequent, and behind it.
  abbrev pub sc : State
  sc = ternary_begun s span

  abbrev pub sm : State
  sm = stored_in s2 place consequent_value span

  abbrev pub alternate : ℕ
  alternate = sm.env.next_block

  -- In the alternate, and behind it.
  abbrev pub sd : State
  sd = ternary_alternate s2 f place consequent_value span part

  abbrev pub sr : State
  sr = stored_in s3 place alternate_value span

  -- Facts of the block in which the terminal stands, and of the test.
  abbrev pub shut : State
  shut = last_hole sr f gotos.Break other s.current

  abbrev pub sl : State
  sl = ternary_test s3 f place alternate_value span other s.current

  abbrev pub finished : State
  finished = ternary_finished s4 f alternate s.current.kind span test

  module _ (gc : Extends (ternary_begun s span) s2)
      (ga : Extends (ternary_alternate s2 s.env.next_block (ternary_place s span) consequent_value span part) s3)
      (gt : Extends (ternary_test s3 s.env.next_block (ternary_place s span) alternate_value span other s.current) s4) where
    first_extends : Extends s s1
    first_extends =
        extends_then (extends_reserved s)
        (extends_then (extends_reserved (reserved s)) (extends_temporary (reserved (reserved s)) (Some span)))

    moved_extends : Extends s2 sm
    moved_extends = extends_value s2 (values.StoreLocal variables.Const place consequent_value) (Some span)

    open_extends : Extends sm sd
    open_extends =
        extends_then (extends_reserved sm)
        (extends_completed (reserved sm) (goto f gotos.Break part) (new_block sm.env.next_block block.Value) (λ none. refl))

    right_extends : Extends s3 sr
    right_extends = extends_value s3 (values.StoreLocal variables.Const place alternate_value) (Some span)

    within : Extends sc sr
    within = extends_then gc (extends_then moved_extends (extends_then open_extends (extends_then ga right_extends)))

    aside_extends : Extends r1 shut
    aside_extends =
        aside r1 sr (new_block (f + 1 + 1) block.Value) s.scopes sr.scopes s.handlers sr.handlers
        (goto f gotos.Break other) within.scopes within.handlers within

    terminal_extends : Extends shut sl
    terminal_extends = extends_completed shut (ternary_end f span) (new_block (f + 1) block.Value) (λ none. refl)

    test_extends : Extends s sl
    test_extends = extends_then first_extends (extends_then (extends_reserved s1) (extends_then aside_extends terminal_extends))

    last_extends : Extends s4 finished
    last_extends = extends_completed s4 (branch test (f + 1 + 1) alternate f span) (new_block f s.current.kind) (λ none. refl)

    end_extends : Extends sl finished
    end_extends = extends_then gt last_extends

    one_extends : Extends s1 finished
    one_extends = extends_then (extends_reserved s1) (extends_then aside_extends (extends_then terminal_extends end_extends))

    two : length s1.env.identifiers ≡ length s.env.identifiers + 1
    two = simp length-append (omega arith)

    nobody : (c : Code) → IsContainedIn finished c → HasSoundNames s → Nobody c.ident (length s.env.identifiers)
    nobody c cover sound =
        nobody_fresh s (length s1.env.identifiers) c.ident (length s.env.identifiers) sound (contained_before one_extends cover).names
        (omega arith) (omega (arith, two))

    pub ternary_runs : (world : World) (dt dc da : Action Value)
        → RunsExpression world dc (ternary_begun s span) s2 consequent_value.identifier.0
        → RunsExpression world da
        (ternary_alternate s2 s.env.next_block (ternary_place s span) consequent_value span part) s3 alternate_value.identifier.0
        → RunsExpression world dt
        (ternary_test s3 s.env.next_block (ternary_place s span) alternate_value span other s.current) s4 test.identifier.0
        → RunsExpression world (selected world dt dc da) s finished (length s.env.identifiers)
    ternary_runs world dt dc da rc ra rt = record {
      fresh = omega arith;
      made = omega (arith, two, one_extends.identifiers);
      free = λ c cover sound. nobody c cover sound;
      runs = run_it;
    }
      where
        run_it : (c : Code) → IsContainedIn finished c → HasSoundNames s → SharesVariables c.ident world c.world
            → (ways : Ways) (k : ValueCont)
            (source store : Store) (notes : Notes) (answers : List Answer) → Agrees c.ident source store
            → Throws c (between s finished) store notes answers (innermost s.handlers) ways.throws
            → Continues c (between s finished) store notes answers f 0 (length s.env.identifiers) k
            → TracesFrom c s store notes answers (selected world dt dc da ways k source answers)
        run_it c cover sound shares ways k source store notes answers a throws onward =
            goes_on shut (ternary_end f span) (new_block (f + 1) block.Value) c (block_id (f + 1))
            ((block_id (f + 1), Chooses) ∷ (block_id f, Chooses) ∷ []) store notes answers _ refl cover_test
            (use_expression ways (λ v e r. tested (set_open world.opens) (truthy v) e r (dc ways k) (da ways k)) rt cover4
            (test_extends.sound sound) shares (inside test_extends last_extends)
            (same_throws c (between s finished) store notes answers s sl ways.throws test_extends.handlers throws)
            (since_noted (block_id f) Chooses (omega arith) (omega (arith, last_blocks))
            (since_noted (block_id (f + 1)) Chooses (omega arith) (omega (arith, last_blocks)) (since_start a)))
            decide)
          where
            last_blocks : f + 1 < finished.env.next_block
            last_blocks = omega (arith, one_extends.blocks)

            last_identifiers : length s.env.identifiers + 1 ≤ length finished.env.identifiers
            last_identifiers = omega (arith, two, one_extends.identifiers)

            notes1 : Notes
            notes1 = noted (noted notes (block_id (f + 1)) Chooses) (block_id f) Chooses

            cover4 : IsContainedIn s4 c
            cover4 = contained_before last_extends cover

            cover_test : IsContainedIn sl c
            cover_test = contained_before gt cover4

            cover_shut : IsContainedIn shut c
            cover_shut = contained_before terminal_extends cover_test

            cover_right : IsContainedIn sr c
            cover_right = contained_hole sr f gotos.Break other s.current c cover_shut

            cover3 : IsContainedIn s3 c
            cover3 = contained_before right_extends cover_right

            cover_open : IsContainedIn sd c
            cover_open = contained_before ga cover3

            cover_moved : IsContainedIn sm c
            cover_moved = contained_before open_extends cover_open

            cover2 : IsContainedIn s2 c
            cover2 = contained_before moved_extends cover_moved

            sound_entered : HasSoundNames sc
            sound_entered = first_extends.sound sound

            sound_open : HasSoundNames sd
            sound_open = open_extends.sound (moved_extends.sound (gc.sound sound_entered))

            free : Nobody c.ident (length s.env.identifiers)
            free = nobody c cover sound

            right_fits : length s3.env.identifiers < length finished.env.identifiers
            right_fits =
                omega (arith, value_made s3 (values.StoreLocal variables.Const place alternate_value) (Some span), end_extends.identifiers)

            left_fits : length s2.env.identifiers < length finished.env.identifiers
            left_fits =
                omega (
                  arith,
                  value_made s2 (values.StoreLocal variables.Const place consequent_value)
                      (Some span),
                  ga.identifiers,
                  right_fits,
                )

            in_consequent : Inside (between s finished) (between sc s2)
            in_consequent =
                record {
                  identifier = omega (arith, two);
                  identifiers = omega (arith, left_fits);
                  block = omega arith;
                  blocks = omega
                      (arith, moved_extends.blocks, open_extends.blocks, ga.blocks, right_extends.blocks, end_extends.blocks);
                }

            in_alternate : Inside (between s finished) (between sd s3)
            in_alternate =
                record {
                  identifier = omega
                      (arith, two, gc.identifiers, moved_extends.identifiers, open_extends.identifiers);
                  identifiers =
                      omega (arith, right_fits);
                  block = omega (arith, gc.blocks, moved_extends.blocks, open_extends.blocks);
                  blocks =
                      omega (arith, right_extends.blocks, end_extends.blocks);
                }

            -- From behind the terminal and the test to where it was tested.
            decide : (v : Value) (source4 store4 : Store) (notes4 : Notes) (answers4 : List Answer)
                → Since c (between s finished) store notes answers source4 store4 notes4 answers4
                → Since c (between sl s4) store notes1 answers source4 store4 notes4 answers4 → store4 test.identifier.0 ≡ v
                → TracesAt c s4.current.id.0 (length s4.current.instructions) store4 notes4 answers4
                (tested (set_open world.opens) (truthy v) source4 answers4 (dc ways k) (da ways k))
            decide v source4 store4 notes4 answers4 t u is =
                steps_on c s4.current.id.0 (length s4.current.instructions) store4 notes4 answers4
                (Ends (branch test (f + 1 + 1) alternate f span)) _
                (terminal_met s4 (branch test (f + 1 + 1) alternate f span) (new_block f s.current.kind) c cover)
                (subst (λ (o : Option Note). Eventually c
                (λ stuck next. branched stuck c (choice_at o) test.identifier.0 (block_id (f + 1 + 1))
                (block_id alternate) next next notes4 store4 answers4)
                (tested (set_open world.opens) (truthy v) source4 answers4 (dc ways k) (da ways k))) (sym mark)
                (subst (λ (w : Value). Eventually c
                (λ stuck next. tested (changer c) (truthy w) store4 answers4 (at next (block_id (f + 1 + 1)) notes4)
                (at next (block_id alternate) notes4))
                (tested (set_open world.opens) (truthy v) source4 answers4 (dc ways k) (da ways k))) (sym is)
                (tests_come c world cover.names.one shares (truthy v) answers4 (λ next. at next (block_id (f + 1 + 1)) notes4)
                (λ next. at next (block_id alternate) notes4) (dc ways k) (da ways k) t.agrees
                (λ source5 store5 rest after.
                use_expression ways k rc cover2 sound_entered shares in_consequent throws
                (since_then (inside_refl (between s finished)) t.later (after.since (between s finished)))
                (λ w source6 store6 notes6 answers6 t6 u6 is6.
                stores_on s2 place consequent_value span f w k cover_moved (gc.sound sound_entered) free (omega arith)
                (omega (arith, two, gc.identifiers)) left_fits
                (λ store7 trace rest1. hole_goes (reserved sm) f gotos.Break part
                (new_block sm.env.next_block block.Value) c store7 notes6 answers6 trace cover_open rest1) onward t6 is6))
                (λ source5 store5 rest after.
                use_expression ways k ra cover3 sound_open shares in_alternate
                (same_throws c (between s finished) store notes answers s sd ways.throws
                (open_extends.handlers ∙ moved_extends.handlers ∙ gc.handlers) throws)
                (since_then (inside_refl (between s finished)) t.later (after.since (between s finished)))
                (λ w source6 store6 notes6 answers6 t6 u6 is6.
                stores_on s3 place alternate_value span f w k cover_right (ga.sound sound_open) free (omega arith)
                (omega (arith, two, gc.identifiers, moved_extends.identifiers, open_extends.identifiers, ga.identifiers)) right_fits
                (λ store7 trace rest1. hole_goes sr f gotos.Break other s.current c store7 notes6 answers6 trace cover_shut rest1) onward t6 is6)))))
              where
                mark : notes4 f ≡ Some Chooses
                mark = u.later.marks f (inl below) ∙ noted_same (noted notes (block_id (f + 1)) Chooses) (block_id f) Chooses
                  where
                    below : f < sl.env.next_block
                    below = omega (arith, aside_extends.blocks)
