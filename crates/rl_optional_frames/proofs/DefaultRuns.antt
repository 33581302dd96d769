-- The runs of a default.
use Rattle.std.proofs.Common.{◌≡◌, ℕ, ◌+◌, ◌<◌, inl, List, [], ◌∷◌, length, length-append, codes, Option, Some, refl, sym, ap, ◌∙◌}
use Rattle.std.proofs.Common.{subst, arith}
use Rattle.rl_base.specs.declared.operator.BinaryOperator.TheVariants as operator
use Rattle.rl_base.specs.declared.span.Span.{Span}
use Rattle.rl_builder.specs.Builder.{State, innermost, new_block, reserved, with_temporary}
use Rattle.rl_builder.specs.Temporaries.{temporary}
use Rattle.rl_hir.specs.declared.function.BlockKind.TheVariants as block
use Rattle.rl_hir.specs.declared.instruction.InstructionKind.TheVariants as variables
use Rattle.rl_hir.specs.declared.instruction.InstructionValue.{InstructionValue}
use Rattle.rl_hir.specs.declared.instruction.InstructionValue.TheVariants as values
use Rattle.rl_hir.specs.declared.instruction.Place.{Place}
use Rattle.rl_hir.specs.declared.instruction.PrimitiveValue.TheVariants as primitives
use Rattle.rl_hir.specs.declared.terminal.GotoVariant.TheVariants as gotos
use Rattle.rl_hir.specs.declared.terminal.Terminal.{Terminal}
use Rattle.rl_machine.specs.Acts.{Asks, act, gives}
use Rattle.rl_machine.specs.declared.trace.Answer.{Answer}
use Rattle.rl_machine.specs.declared.trace.Value.{Value}
use Rattle.rl_machine.specs.declared.trace.Value.TheVariants.{Undefined}
use Rattle.rl_machine.specs.Ends.{Chooses, Note, Notes, noted}
use Rattle.rl_machine.specs.Machine.{Code, Ends, at, branched, changer, choice_at}
use Rattle.rl_machine.specs.Traces.{Store, ValueCont, World, set, set_open, tested, truthy}
use Rattle.rl_model.specs.Actions.{Action, Ways}
use Rattle.rl_model.specs.Events.{binary}
use Rattle.rl_optional_frames.specs.Meanings.{defaulted}
use Rattle.rl_optional_frames.specs.Parts.{compared, comparison, default_begun, default_end, default_finished, default_given}
use Rattle.rl_optional_frames.specs.Parts.{default_reserved, default_test, undefined_made}
use Rattle.rl_runs.proofs.Asking.{asks_on}
use Rattle.rl_runs.proofs.Events.{tests_come}
use Rattle.rl_runs.proofs.FinalNames.{nobody_fresh}
use Rattle.rl_runs.proofs.Holes.{aside, computes_on, contained_hole, hole_goes, same_throws, use_expression}
use Rattle.rl_runs.proofs.Links.{stores_on}
use Rattle.rl_runs.proofs.Moves.{contained_before, extends_completed, extends_reserved, extends_temporary, extends_then, extends_value}
use Rattle.rl_runs.proofs.Moves.{goes_on, terminal_met, value_free, value_made}
use Rattle.rl_runs.proofs.Steps.{inside_refl, noted_same, set_other, set_same, since_noted, since_set, since_start, since_then, steps_on}
use Rattle.rl_runs.specs.Continuations.{Agrees, Continues, Eventually, Inside, Range, SharesVariables, Since, Throws, TracesAt, TracesFrom}
use Rattle.rl_runs.specs.Continuations.{between}
use Rattle.rl_runs.specs.Facts.{Extends, HasSoundNames, IsContainedIn, Nobody}
use Rattle.rl_runs.specs.Moves.{block_id, branch, goto, last_hole, stored_in}
use Rattle.rl_runs.specs.Simulation.{RunsExpression, RunsOn}

module _ (s s2 : State) (default value : Place) (span : Span) where
  -- The blocks of the test and behind the whole.
  abbrev pub n : ℕ
  n = s.env.next_block

  abbrev pub f : ℕ
  f = n + 1

  abbrev pub place : Place
  place = temporary s (Some span)

  abbrev pub s1 : State
  s1 = default_reserved s span

  abbrev pub r1 : State
  r1 = reserved s1

  -- In the default, and behind it.
  abbrev pub sc : State
  sc = default_begun s span

  abbrev pub sm : State
  sm = stored_in s2 place default span

  abbrev pub other : ℕ
  other = sm.env.next_block

  -- In the other block, and behind it.
  abbrev pub sd : State
  sd = default_given s2 f place default span

  abbrev pub sr : State
  sr = stored_in sd place value span

  abbrev pub shut : State
  shut = last_hole sr f gotos.Break span s.current

  -- In the test: in front of undefined, of the comparison, and behind it.
  abbrev pub sl : State
  sl = default_test s2 n f place default value span s.current

  abbrev pub su : State
  su = undefined_made sl span

  abbrev pub sq : State
  sq = compared sl value span

  abbrev pub test : Place
  test = comparison sl span

  abbrev pub compares : InstructionValue
  compares = values.BinaryExpression operator.StrictEquality value (temporary sl (Some span))

  abbrev pub end : Terminal
  end = branch test (f + 1) other f span

  abbrev pub finished : State
  finished = default_finished s2 n f (f + 1) s.current.kind place default value span s.current

  module _ (gc : Extends (default_begun s span) s2) where
    first_extends : Extends s s1
    first_extends =
        extends_then (extends_temporary s (Some span))
        (extends_then (extends_reserved (with_temporary s (Some span))) (extends_reserved (reserved (with_temporary s (Some span)))))

    moved_extends : Extends s2 sm
    moved_extends = extends_value s2 (values.StoreLocal variables.Const place default) (Some span)

    open_extends : Extends sm sd
    open_extends =
        extends_then (extends_reserved sm)
        (extends_completed (reserved sm) (goto f gotos.Break span) (new_block sm.env.next_block block.Value) (λ none. refl))

    right_extends : Extends sd sr
    right_extends = extends_value sd (values.StoreLocal variables.Const place value) (Some span)

    within : Extends sc sr
    within = extends_then gc (extends_then moved_extends (extends_then open_extends right_extends))

    aside_extends : Extends r1 shut
    aside_extends =
        aside r1 sr (new_block (f + 1) block.Value) s.scopes sr.scopes s.handlers sr.handlers
        (goto f gotos.Break span) within.scopes within.handlers within

    terminal_extends : Extends shut sl
    terminal_extends = extends_completed shut (default_end n f span) (new_block n block.Value) (λ none. refl)

    undefined_extends : Extends sl su
    undefined_extends = extends_value sl (values.Primitive primitives.Undefined) (Some span)

    compared_extends : Extends su sq
    compared_extends = extends_value su compares (Some span)

    last_extends : Extends sq finished
    last_extends = extends_completed sq end (new_block f s.current.kind) (λ none. refl)

    end_extends : Extends sl finished
    end_extends = extends_then undefined_extends (extends_then compared_extends last_extends)

    test_extends : Extends s sl
    test_extends = extends_then first_extends (extends_then (extends_reserved s1) (extends_then aside_extends terminal_extends))

    pub default_extends : Extends s finished
    default_extends = extends_then test_extends end_extends

    one_extends : Extends s1 finished
    one_extends = extends_then (extends_reserved s1) (extends_then aside_extends (extends_then terminal_extends end_extends))

    two : length s1.env.identifiers ≡ length s.env.identifiers + 1
    two = simp length-append (omega arith)

    nobody : (c : Code) → IsContainedIn finished c → HasSoundNames s → Nobody c.ident (length s.env.identifiers)
    nobody c cover sound =
        nobody_fresh s (length s1.env.identifiers) c.ident (length s.env.identifiers) sound (contained_before one_extends cover).names
        (omega arith) (omega (arith, two))

    pub default_runs : (world : World) (d : Action Value) → RunsExpression world d (default_begun s span) s2 default.identifier.0
        → RunsOn world (defaulted world d) s finished value.identifier.0 (length s.env.identifiers)
    default_runs world d rd = record {
      fresh = omega arith;
      made = omega (arith, two, one_extends.identifiers);
      free = λ c cover sound. nobody c cover sound;
      runs = run_it;
    }
      where
        run_it : (c : Code) → IsContainedIn finished c → HasSoundNames s → SharesVariables c.ident world c.world
            → Nobody c.ident value.identifier.0 → value.identifier.0 < length s.env.identifiers
            → (ways : Ways) (k : ValueCont) (v : Value) (source store : Store) (notes : Notes) (answers : List Answer)
            → Agrees c.ident source store → store value.identifier.0 ≡ v
            → Throws c (between s finished) store notes answers (innermost s.handlers) ways.throws
            → Continues c (between s finished) store notes answers f 0 (length s.env.identifiers) k
            → TracesFrom c s store notes answers (defaulted world d v ways k source answers)
        run_it c cover sound shares given_free given_below ways k v source store notes answers a is throws onward =
            goes_on shut (default_end n f span) (new_block n block.Value) c (block_id n)
            ((block_id n, Chooses) ∷ (block_id f, Chooses) ∷ []) store notes answers _ refl cover_test
            (computes_on sl (values.Primitive primitives.Undefined) (Some span) c store notes1 answers
            (defaulted world d v ways k source answers) Undefined (u ∷ []) refl cover_undefined
            (asks_on world su compares (Some span) (binary (codes "===") v Undefined) (gives m)
            (λ same after rest. tested (set_open world.opens) (truthy same.value) after rest (d ways k) (k v)) ways.throws
            acts cover_compared shares
            (same_throws c R store notes answers s su ways.throws (undefined_extends.handlers ∙ test_extends.handlers) throws) since1
            (λ same source2 store2 rest here behind. decide same.value source2 (set store2 m same.value) rest
            (since_set m same.value (value_free su compares (Some span) c cover_compared (undefined_extends.sound sound_test))
            (omega (arith, test_extends.identifiers, undefined_extends.identifiers))
            (omega (arith, value_made su compares (Some span), last_extends.identifiers)) here)
            (set_same store2 m same.value))))
          where
            R : Range
            R = between s finished

            -- The identifiers of undefined and of the answer.
            u : ℕ
            u = length sl.env.identifiers

            m : ℕ
            m = length su.env.identifiers

            notes1 : Notes
            notes1 = noted (noted notes (block_id n) Chooses) (block_id f) Chooses

            store1 : Store
            store1 = set store u Undefined

            cover_compared : IsContainedIn sq c
            cover_compared = contained_before last_extends cover

            cover_undefined : IsContainedIn su c
            cover_undefined = contained_before compared_extends cover_compared

            cover_test : IsContainedIn sl c
            cover_test = contained_before undefined_extends cover_undefined

            cover_shut : IsContainedIn shut c
            cover_shut = contained_before terminal_extends cover_test

            cover_right : IsContainedIn sr c
            cover_right = contained_hole sr f gotos.Break span s.current c cover_shut

            cover_open : IsContainedIn sd c
            cover_open = contained_before right_extends cover_right

            cover_moved : IsContainedIn sm c
            cover_moved = contained_before open_extends cover_open

            cover2 : IsContainedIn s2 c
            cover2 = contained_before moved_extends cover_moved

            sound_entered : HasSoundNames sc
            sound_entered = first_extends.sound sound

            sound_open : HasSoundNames sd
            sound_open = open_extends.sound (moved_extends.sound (gc.sound sound_entered))

            sound_test : HasSoundNames sl
            sound_test = test_extends.sound sound

            free : Nobody c.ident (length s.env.identifiers)
            free = nobody c cover sound

            last_blocks : f < finished.env.next_block
            last_blocks = omega (arith, one_extends.blocks)

            right_fits : length sd.env.identifiers < length finished.env.identifiers
            right_fits =
                omega (arith, value_made sd (values.StoreLocal variables.Const place value) (Some span), end_extends.identifiers)

            left_fits : length s2.env.identifiers < length finished.env.identifiers
            left_fits =
                omega (
                  arith,
                  value_made s2 (values.StoreLocal variables.Const place default)
                      (Some span),
                  open_extends.identifiers,
                  right_fits,
                )

            in_default : Inside (between s finished) (between sc s2)
            in_default = record {
              identifier = omega (arith, two);
              identifiers = omega (arith, left_fits);
              block = omega arith;
              blocks = omega (arith, moved_extends.blocks, open_extends.blocks, right_extends.blocks, end_extends.blocks);
            }

            since1 : Since c R store notes answers source store1 notes1 answers
            since1 =
                since_set u Undefined (value_free sl (values.Primitive primitives.Undefined) (Some span) c cover_undefined sound_test)
                test_extends.identifiers
                (omega (arith, value_made sl (values.Primitive primitives.Undefined) (Some span), compared_extends.identifiers))
                (since_noted (block_id f) Chooses (omega arith) last_blocks
                (since_noted (block_id n) Chooses (omega arith) (omega (arith, last_blocks)) (since_start a)))

            acts : act m compares store1 ≡ Asks (binary (codes "===") v Undefined) (gives m)
            acts =
                ap (λ (w : Value). Asks (binary (codes "===") w (store1 u)) (gives m))
                (set_other store u value.identifier.0 Undefined (λ e. omega (arith, e, given_below, test_extends.identifiers)) ∙ is)
                ∙ ap (λ (w : Value). Asks (binary (codes "===") v w) (gives m)) (set_same store u Undefined)

            -- From behind the comparison to where the answer was tested.
            decide : (w : Value) (source4 store4 : Store) (answers4 : List Answer)
                → Since c R store notes answers source4 store4 notes1 answers4 → store4 test.identifier.0 ≡ w
                → TracesAt c sq.current.id.0 (length sq.current.instructions) store4 notes1 answers4
                (tested (set_open world.opens) (truthy w) source4 answers4 (d ways k) (k v))
            decide w source4 store4 answers4 t same =
                steps_on c sq.current.id.0 (length sq.current.instructions) store4 notes1 answers4 (Ends end) _
                (terminal_met sq end (new_block f s.current.kind) c cover)
                (subst (λ (o : Option Note). Eventually c
                (λ stuck next. branched stuck c (choice_at o) test.identifier.0 (block_id (f + 1))
                (block_id other) next next notes1 store4 answers4)
                (tested (set_open world.opens) (truthy w) source4 answers4 (d ways k) (k v)))
                (sym (noted_same (noted notes (block_id n) Chooses) (block_id f) Chooses))
                (subst (λ (x : Value). Eventually c
                (λ stuck next. tested (changer c) (truthy x) store4 answers4 (at next (block_id (f + 1)) notes1)
                (at next (block_id other) notes1))
                (tested (set_open world.opens) (truthy w) source4 answers4 (d ways k) (k v))) (sym same)
                (tests_come c world cover.names.one shares (truthy w) answers4 (λ next. at next (block_id (f + 1)) notes1)
                (λ next. at next (block_id other) notes1) (d ways k) (k v) t.agrees
                (λ source5 store5 rest after.
                use_expression ways k rd cover2 sound_entered shares in_default throws
                (since_then (inside_refl R) t.later (after.since R))
                (λ w6 source6 store6 notes6 answers6 t6 u6 is6.
                stores_on s2 place default span f w6 k cover_moved (gc.sound sound_entered) free (omega arith)
                (omega (arith, two, gc.identifiers)) left_fits
                (λ store7 trace rest1. hole_goes (reserved sm) f gotos.Break span
                (new_block sm.env.next_block block.Value) c store7 notes6 answers6 trace cover_open rest1) onward t6 is6))
                (λ source5 store5 rest after. takes_value source5 store5 rest
                (since_then (inside_refl R) t.later (after.since R))))))
              where
                -- The value itself goes into the place.
                takes_value : (source5 store5 : Store) (rest : List Answer) → Since c R store notes answers source5 store5 notes1 rest
                    → TracesAt c other 0 store5 notes1 rest (k v source5 rest)
                takes_value source5 store5 rest t5 =
                    stores_on sd place value span f v k cover_right sound_open free (omega arith)
                    (omega (arith, two, gc.identifiers, moved_extends.identifiers, open_extends.identifiers)) right_fits
                    (λ store7 trace rest1. hole_goes sr f gotos.Break span s.current c store7 notes1 rest trace cover_shut rest1) onward
                    t5 (t5.later.temporaries value.identifier.0 given_free (inl given_below) ∙ is)
