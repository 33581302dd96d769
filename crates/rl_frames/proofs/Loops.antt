-- The runs of loops.
use Rattle.std.proofs.Common.{◌≡◌, ℕ, zero, suc, ◌+◌, ◌<◌, inl, List, length, Option, Some, None, refl, sym, ◌∙◌, subst, arith}
use Rattle.rl_builder.specs.Builder.{innermost, new_block, reserved}
use Rattle.rl_frames.proofs.Common.{Code, Extends, IsContainedIn, Label, Place, Span, State}
use Rattle.rl_frames.proofs.LoopStates.{IsLoopIn, behind_extends, loop_in, loop_notes, test_extends}
use Rattle.rl_frames.specs.Meanings.{again_tested, do_looped, do_while_turns, looped, while_turns}
use Rattle.rl_frames.specs.Parts.{do_while_body, do_while_end, loop_body, while_begun, while_body, while_end, while_finished}
use Rattle.rl_hir.specs.declared.function.BlockKind.TheVariants as block
use Rattle.rl_hir.specs.declared.terminal.GotoVariant.TheVariants as gotos
use Rattle.rl_hir.specs.declared.terminal.Terminal.{Terminal}
use Rattle.rl_machine.specs.declared.trace.Answer.{Answer}
use Rattle.rl_machine.specs.declared.trace.Value.{Value}
use Rattle.rl_machine.specs.Ends.{Goes, Loops, Note, Notes, catcher_of, leaving, noted}
use Rattle.rl_machine.specs.Machine.{Ends, at, branched, changer, choice_at}
use Rattle.rl_machine.specs.Traces.{Cont, Store, World, set_open, tested, truthy, waiting}
use Rattle.rl_model.specs.Actions.{Action, Ways}
use Rattle.rl_runs.proofs.Events.{tests_come}
use Rattle.rl_runs.proofs.Holes.{hole_goes, same_throws, use_expression, use_statement}
use Rattle.rl_runs.proofs.Jumping.{jumps_in_loop}
use Rattle.rl_runs.proofs.Moves.{goes_on, inside, terminal_met}
use Rattle.rl_runs.proofs.Steps.{follows_then, inside_refl, jumps_then, noted_other, noted_same, since_noted, since_start, since_then}
use Rattle.rl_runs.proofs.Steps.{steps_on, throws_then}
use Rattle.rl_runs.specs.Continuations.{Agrees, Eventually, Follows, Inside, Jumps, SharesVariables, Since, Throws, TracesAt, TracesFrom}
use Rattle.rl_runs.specs.Continuations.{between}
use Rattle.rl_runs.specs.Exits.{loop_ways, switch_ways}
use Rattle.rl_runs.specs.Facts.{HasSoundNames}
use Rattle.rl_runs.specs.Moves.{block_id, branch, last_hole, without_scope}
use Rattle.rl_runs.specs.Simulation.{RunsExpression, RunsStatement}

module _ (s s2 s4 : State) (label : Label) (test : Place) (span part : Span) (end : Terminal)
    (calm : catcher_of end.kind ≡ None) where
  abbrev pub h : ℕ
  h = s.env.next_block

  abbrev pub f : ℕ
  f = s.env.next_block + 1

  abbrev pub l : ℕ
  l = s.env.next_block + 1 + 1

  -- With the blocks numbered.
  abbrev pub s1 : State
  s1 = reserved (reserved (reserved s))

  -- In the body.
  abbrev pub s0 : State
  s0 = while_begun s label

  -- With the body complete, and in the test.
  abbrev pub shut : State
  shut = last_hole (without_scope s2) h gotos.Continue part s.current

  abbrev pub tested_at : State
  tested_at = loop_body s2 h end s.current part

  abbrev pub finished : State
  finished = while_finished s4 h span test

  -- A run of the loop begins at `source`, in code that contains it.
  module _ (gb : Extends (while_begun s label) s2) (gt : Extends (loop_body s2 s.env.next_block end s.current part) s4)
      (world : World) (dt : Action Value) (db : Action (Unit {0})) (rb : RunsStatement world db (while_begun s label) s2)
      (rt : RunsExpression world dt (loop_body s2 s.env.next_block end s.current part) s4 test.identifier.0)
      (c : Code) (cover : IsContainedIn (while_finished s4 s.env.next_block span test) c) (sound : HasSoundNames s)
      (shares : SharesVariables c.ident world c.world) (ways : Ways) (normal : Cont) (source store : Store) (notes : Notes)
      (answers : List Answer) (a : Agrees c.ident source store)
      (throws : Throws c (between s (while_finished s4 s.env.next_block span test)) store notes answers (innermost s.handlers) ways.throws)
      (jumps : Jumps c (between s (while_finished s4 s.env.next_block span test)) store notes answers s.scopes ways.breaks ways.continues)
      (onward : Follows c (between s (while_finished s4 s.env.next_block span test)) store notes answers (s.env.next_block + 1) 0 normal) where
    met : IsLoopIn c s s2 s4 part end
    met = loop_in s s2 s4 test span part end calm gt c cover

    to_test : Extends s1 tested_at
    to_test = test_extends s s2 label part end calm gb

    abbrev pub notes1 : Notes
    notes1 = noted (noted notes (block_id h) (Loops (block_id f))) (block_id f) (Loops (block_id f))

    one_part : Inside (between s finished) (between s1 finished)
    one_part = record { identifier = omega arith; identifiers = omega arith; block = omega arith; blocks = omega arith }

    start : Since c (between s finished) store notes answers source store notes1 answers
    start =
        since_noted (block_id f) (Loops (block_id f)) (omega arith) (omega (arith, gb.blocks, gt.blocks))
        (since_noted (block_id h) (Loops (block_id f)) (omega arith) (omega (arith, gb.blocks, gt.blocks)) (since_start a))

    -- From behind the loop's terminal to before it.
    before : {source2 store2 : Store} {notes2 : Notes} {answers2 : List Answer}
        → Since c (between s1 finished) store notes1 answers source2 store2 notes2 answers2
        → Since c (between s finished) store notes answers source2 store2 notes2 answers2
    before u = since_then one_part start.later u

    throws1 : Throws c (between s1 finished) store notes1 answers (innermost s.handlers) ways.throws
    throws1 = throws_then (innermost s.handlers) ways.throws one_part start.later throws

    mark : {source2 store2 : Store} {notes2 : Notes} {answers2 : List Answer}
        → Since c (between s1 finished) store notes1 answers source2 store2 notes2 answers2
        → notes2 h ≡ Some (Loops (block_id f))
    mark u =
        let ne : h ≡ f → ⊥ = λ e. omega arith in u.later.marks h (inl (omega arith))
        ∙ (noted_other (noted notes (block_id h) (Loops (block_id f))) (block_id f) h (Loops (block_id f)) ne
        ∙ noted_same notes (block_id h) (Loops (block_id f)))

    -- The body, and the test behind it, which goes on as `k`.
    turn : (k : Cont) (n : ℕ) (source2 store2 : Store) (notes3 : Notes) (rest : List Answer)
        → ((source3 store3 : Store) (notes4 : Notes) (answers3 : List Answer)
        → Since c (between s1 finished) store notes1 answers source3 store3 notes4 answers3 → length answers3 < n
        → TracesAt c h 0 store3 notes4 answers3 (k source3 answers3))
        → Since c (between s1 finished) store notes1 answers source2 store2 notes3 rest → length rest < n
        → TracesAt c l 0 store2 notes3 rest (db (loop_ways label k normal ways) (λ end. k) source2 rest)
    turn k n source2 store2 notes3 rest next t2 less =
        use_statement (loop_ways label k normal ways) k rb met.body sound shares
        (inside_refl (between s0 s2)) (throws_then (innermost s.handlers) ways.throws in_part (before t2).later throws) jumps2
        (since_start t2.agrees)
        (λ source3 store3 notes4 answers3 u3 v3. hole_goes
        (without_scope s2) h gotos.Continue part s.current c store3 notes4 answers3 _ met.shut
        (next source3 store3 notes4 answers3 (on u3) (omega (arith, u3.later.fewer, less))))
      where
        in_part : Inside (between s finished) (between s0 s2)
        in_part = record {
          identifier = omega arith;
          identifiers = omega (arith, gt.identifiers);
          block = omega arith;
          blocks = omega (arith, gt.blocks);
        }

        on : {source3 store3 : Store} {notes4 : Notes} {answers3 : List Answer}
            → Since c (between s0 s2) store2 notes3 rest source3 store3 notes4 answers3
            → Since c (between s1 finished) store notes1 answers source3 store3 notes4 answers3
        on u = since_then in_test t2.later u
          where
            in_test : Inside (between s1 finished) (between s0 s2)
            in_test = record {
              identifier = omega arith;
              identifiers = omega (arith, gt.identifiers);
              block = omega arith;
              blocks = omega (arith, gt.blocks);
            }

        jumps2 : Jumps c (between s0 s2) store2 notes3 rest s0.scopes (loop_ways label k normal ways).breaks
            (loop_ways label k normal ways).continues
        jumps2 =
            jumps_in_loop label (block_id h) (block_id f) k normal ways s.scopes
            (record {
              goes = λ source3 store3 notes4 answers3 u3. next source3 store3 notes4 answers3 (on u3)
                  (omega (arith, u3.later.fewer, less));
            })
            (follows_then in_part (before t2).later onward)
            (jumps_then in_part (before t2).later jumps)

    -- The test, and the body behind it, which goes on as `k`.
    test_it : (k : Cont) (n : ℕ)
        → ((source2 store2 : Store) (notes3 : Notes) (rest : List Answer)
        → Since c (between s1 finished) store notes1 answers source2 store2 notes3 rest → length rest < n
        → TracesAt c l 0 store2 notes3 rest (k source2 rest))
        → (source1 store1 : Store) (notes2 : Notes) (answers1 : List Answer)
        → Since c (between s1 finished) store notes1 answers source1 store1 notes2 answers1 → length answers1 < suc n
        → TracesAt c h 0 store1 notes2 answers1 (again_tested world label dt ways k normal source1 answers1)
    test_it k n next source1 store1 notes2 answers1 t1 less =
        use_expression (switch_ways label normal (λ after rest. waiting) ways)
        (λ v after rest. tested (set_open world.opens) (truthy v) after rest k normal) rt met.behind
        (to_test.sound sound) shares (inside to_test (behind_extends s s4 test span))
        (same_throws c (between s1 finished) store notes1 answers s tested_at ways.throws to_test.handlers throws1) t1
        (λ v source2 store2 notes3 answers2 t2 u2 is.
        steps_on c s4.current.id.0 (length s4.current.instructions) store2 notes3 answers2 (Ends (branch test l f h span)) _
        (terminal_met s4 (branch test l f h span) (new_block f block.Block) c cover)
        (subst (λ (m : Option Note). Eventually c
        (λ stuck next1. branched stuck c (choice_at m) test.identifier.0 (block_id l)
        (block_id f) next1 next1 notes3 store2 answers2)
        (tested (set_open world.opens) (truthy v) source2 answers2 k normal)) (sym (mark t2))
        (subst (λ (w : Value). Eventually c
        (λ stuck next1. tested (changer c) (truthy w) store2 answers2 (at next1 (block_id l) notes3)
        (at next1 (block_id f) notes3)) (tested (set_open world.opens) (truthy v) source2 answers2 k normal)) (sym is)
        (tests_come c world cover.names.one shares (truthy v) answers2 (λ next1. at next1 (block_id l) notes3)
        (λ next1. at next1 (block_id f) notes3) k normal t2.agrees
        (λ source3 store3 rest after. next source3 store3 notes3 rest
        (since_then (inside_refl (between s1 finished)) t2.later (after.since (between s1 finished)))
        (omega (arith, u2.later.fewer, after.fewer, less)))
        (λ source3 store3 rest after. onward.goes source3 store3 notes3 rest
        (before (since_then (inside_refl (between s1 finished)) t2.later (after.since (between s1 finished)))))))))

    -- At most n turns of a loop that begins with its test.
    while_again : (n : ℕ) (source1 store1 : Store) (notes2 : Notes) (answers1 : List Answer)
        → Since c (between s1 finished) store notes1 answers source1 store1 notes2 answers1 → length answers1 < n
        → TracesAt c h 0 store1 notes2 answers1 (while_turns world n label dt db ways normal source1 answers1)
    while_again zero source1 store1 notes2 answers1 t1 less = absurd (omega (arith, less))
    while_again (suc n) source1 store1 notes2 answers1 t1 less =
        test_it (db (loop_ways label (while_turns world n label dt db ways normal) normal ways)
        (λ end. while_turns world n label dt db ways normal)) n
        (λ source2 store2 notes3 rest t2 less2. turn (while_turns world n label dt db ways normal) n source2 store2 notes3 rest
        (while_again n) t2 less2)
        source1 store1 notes2 answers1 t1 less

    pub runs_from_test : leaving end.kind ≡ Goes (block_id s.env.next_block) (loop_notes s.env.next_block)
        → TracesFrom c s store notes answers (looped world label dt db ways (λ end. normal) source answers)
    runs_from_test leads =
        goes_on shut end (new_block h block.Loop) c (block_id h) (loop_notes h) store notes answers _ leads met.test
        (while_again (suc (length answers)) source store notes1 answers (since_start a) (omega arith))

    -- Of a loop that begins with its body.
    do_again : (n : ℕ) (source1 store1 : Store) (notes2 : Notes) (answers1 : List Answer)
        → Since c (between s1 finished) store notes1 answers source1 store1 notes2 answers1 → length answers1 < n
        → TracesAt c l 0 store1 notes2 answers1 (do_while_turns world n label dt db ways normal source1 answers1)
    do_again zero source1 store1 notes2 answers1 t1 less = absurd (omega (arith, less))
    do_again (suc n) source1 store1 notes2 answers1 t1 less =
        turn (again_tested world label dt ways (do_while_turns world n label dt db ways normal) normal)
        (suc n) source1 store1 notes2 answers1
        (test_it (do_while_turns world n label dt db ways normal) n (do_again n)) t1 less

    pub runs_from_body : leaving end.kind ≡ Goes (block_id (s.env.next_block + 1 + 1)) (loop_notes s.env.next_block)
        → TracesFrom c s store notes answers (do_looped world label dt db ways (λ end. normal) source answers)
    runs_from_body leads =
        goes_on shut end (new_block h block.Loop) c (block_id l) (loop_notes h) store notes answers _ leads met.test
        (do_again (suc (length answers)) source store notes1 answers (since_start a) (omega arith))

pub while_runs : (s s2 s4 : State) (label : Label) (test : Place) (span part : Span) → Extends (while_begun s label) s2
    → Extends (while_body s2 s.env.next_block span s.current part) s4
    → (world : World) (dt : Action Value) (db : Action (Unit {0})) → RunsStatement world db (while_begun s label) s2
    → RunsExpression world dt (while_body s2 s.env.next_block span s.current part) s4 test.identifier.0
    → RunsStatement world (looped world label dt db) s (while_finished s4 s.env.next_block span test)
while_runs s s2 s4 label test span part gb gt world dt db rb rt = record {
  runs = λ c cover sound shares ways normal source store notes answers a throws jumps onward.
      runs_from_test s s2 s4 label test span part (while_end s.env.next_block span) refl gb gt world dt db rb rt c cover sound shares
      ways normal source store notes answers a throws jumps onward refl;
}

pub do_while_runs : (s s2 s4 : State) (label : Label) (test : Place) (span part : Span) → Extends (while_begun s label) s2
    → Extends (do_while_body s2 s.env.next_block span s.current part) s4
    → (world : World) (dt : Action Value) (db : Action (Unit {0})) → RunsStatement world db (while_begun s label) s2
    → RunsExpression world dt (do_while_body s2 s.env.next_block span s.current part) s4 test.identifier.0
    → RunsStatement world (do_looped world label dt db) s (while_finished s4 s.env.next_block span test)
do_while_runs s s2 s4 label test span part gb gt world dt db rb rt = record {
  runs = λ c cover sound shares ways normal source store notes answers a throws jumps onward.
      runs_from_body s s2 s4 label test span part (do_while_end s.env.next_block span) refl gb gt world dt db rb rt c cover sound shares
      ways normal source store notes answers a throws jumps onward refl;
}
