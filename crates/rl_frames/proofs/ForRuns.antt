-- The runs of `for` loops.
use Rattle.std.proofs.Common.{◌≡◌, ℕ, zero, suc, ◌+◌, ◌<◌, inl, List, length, Option, Some, None, refl, sym, ◌∙◌, subst, arith}
use Rattle.rl_builder.specs.Builder.{innermost, new_block}
use Rattle.rl_frames.proofs.Common.{BlockId, Code, Extends, IsContainedIn, Label, Place, Span, State}
use Rattle.rl_frames.proofs.ForStates.{IsForIn, for_behind, for_body_extends, for_ends, for_front, for_in, for_notes, for_numbered}
use Rattle.rl_frames.proofs.ForStates.{for_shut_at, for_test_extends, for_tests, init_extends, update_extends}
use Rattle.rl_frames.specs.Meanings.{again_tested, for_looped, for_repeated, for_turns, front_ways, updated}
use Rattle.rl_frames.specs.Parts.{for_begun, for_body, for_end, for_finished, for_update}
use Rattle.rl_hir.specs.declared.function.BlockKind.TheVariants as block
use Rattle.rl_hir.specs.declared.terminal.GotoVariant.TheVariants as gotos
use Rattle.rl_machine.specs.declared.trace.Answer.{Answer}
use Rattle.rl_machine.specs.declared.trace.Value.{Value}
use Rattle.rl_machine.specs.Ends.{Loops, Note, Notes, noted}
use Rattle.rl_machine.specs.Machine.{Ends, at, branched, changer, choice_at}
use Rattle.rl_machine.specs.Traces.{Cont, Store, World, set_open, tested, truthy, waiting}
use Rattle.rl_model.specs.Actions.{Action, Ways, done}
use Rattle.rl_runs.proofs.Events.{tests_come}
use Rattle.rl_runs.proofs.Holes.{contained_hole, hole_goes, same_jumps, same_throws, use_expression, use_statement}
use Rattle.rl_runs.proofs.Jumping.{jumps_in_loop}
use Rattle.rl_runs.proofs.Jumpless.{use_jumpless}
use Rattle.rl_runs.proofs.Moves.{contained_before, extends_refl, extends_then, goes_on, inside, terminal_met}
use Rattle.rl_runs.proofs.Steps.{follows_then, inside_refl, jumps_then, noted_same, since_noted, since_start, since_then, steps_on}
use Rattle.rl_runs.proofs.Steps.{throws_then}
use Rattle.rl_runs.specs.Continuations.{Agrees, Eventually, Follows, Inside, Jumps, SharesVariables, Since, Throws, TracesAt, TracesFrom}
use Rattle.rl_runs.specs.Continuations.{between}
use Rattle.rl_runs.specs.Exits.{loop_ways, switch_ways}
use Rattle.rl_runs.specs.Facts.{HasSoundNames}
use Rattle.rl_runs.specs.Moves.{block_id, branch, without_scope}
use Rattle.rl_runs.specs.Simulation.{RunsExpression, RunsJumpless, RunsStatement}

-- The init ends at `s2`, the last of the holes in front of the body at `y`, the body at `s4`, and the test at `s5`.
module _ (s s2 y s4 s5 : State) (label : Label) (again : BlockId) (update : Option BlockId) (test : Place)
    (span part other last : Span) where
  abbrev pub h : ℕ
  h = s.env.next_block

  abbrev pub f : ℕ
  f = s.env.next_block + 1

  abbrev pub i : ℕ
  i = s.env.next_block + 1 + 1

  abbrev pub b : ℕ
  b = y.env.next_block

  abbrev pub s1 : State
  s1 = for_numbered s

  abbrev pub xa : State
  xa = for_front s s2 part

  -- In front of the body, in it, and behind it.
  abbrev pub x : State
  x = for_front s y other

  abbrev pub opened : State
  opened = for_body y h label again other

  abbrev pub shut : State
  shut = for_shut_at s s4 again last

  abbrev pub tst : State
  tst = for_tests s y s4 again update span last

  abbrev pub finished : State
  finished = for_finished s5 h b span test

  -- A run of the loop begins at `source`, in code that contains it.
  module _ (gi : Extends (for_begun s) s2) (ga : Extends (for_front s s2 part) (for_front s y other))
      (gb : Extends (for_body y s.env.next_block label again other) s4) (gt : Extends (for_tests s y s4 again update span last) s5)
      (world : World) (di : Action (Unit {0})) (dt : Action Value) (du db : Action (Unit {0}))
      (ri : RunsJumpless world di (for_begun s) s2)
      (rb : RunsStatement world db (for_body y s.env.next_block label again other) s4)
      (rt : RunsExpression world dt (for_tests s y s4 again update span last) s5 test.identifier.0)
      (c : Code) (cover : IsContainedIn (for_finished s5 s.env.next_block y.env.next_block span test) c) (sound : HasSoundNames s)
      (shares : SharesVariables c.ident world c.world) (ways : Ways) (normal : Cont) (source store : Store) (notes : Notes)
      (answers : List Answer) (a : Agrees c.ident source store)
      (throws : Throws c (between s (for_finished s5 s.env.next_block y.env.next_block span test)) store notes answers
      (innermost s.handlers)
      ways.throws)
      (jumps : Jumps c (between s (for_finished s5 s.env.next_block y.env.next_block span test)) store notes answers s.scopes ways.breaks
      ways.continues)
      (onward : Follows c (between s (for_finished s5 s.env.next_block y.env.next_block span test)) store notes answers
      (s.env.next_block + 1) 0
      normal) where
    met : IsForIn s y s4 s5 label again update test span other last c
    met = for_in s y s4 s5 label again update test span other last gb gt c cover

    gx : Extends s1 x
    gx = extends_then (init_extends s s2 part gi) ga

    to_test : Extends s1 tst
    to_test = for_test_extends s y s4 s5 label again update test span other last gb gx

    abbrev pub notes1 : Notes
    notes1 =
        noted (noted (noted notes (block_id i) (Loops (block_id f))) (block_id h) (Loops (block_id f))) (block_id f) (Loops (block_id f))

    one_part : Inside (between s finished) (between s1 finished)
    one_part = record { identifier = omega arith; identifiers = omega arith; block = omega arith; blocks = omega arith }

    i_below : i < finished.env.next_block
    i_below = omega (arith, to_test.blocks, gt.blocks)

    start : Since c (between s finished) store notes answers source store notes1 answers
    start =
        since_noted (block_id f) (Loops (block_id f)) (omega arith) (omega (arith, i_below))
        (since_noted (block_id h) (Loops (block_id f)) (omega arith) (omega (arith, i_below))
        (since_noted (block_id i) (Loops (block_id f)) (omega arith) i_below (since_start a)))

    -- From behind the loop's terminal to before it.
    before : {source2 store2 : Store} {notes2 : Notes} {answers2 : List Answer}
        → Since c (between s1 finished) store notes1 answers source2 store2 notes2 answers2
        → Since c (between s finished) store notes answers source2 store2 notes2 answers2
    before u = since_then one_part start.later u

    pub throws1 : Throws c (between s1 finished) store notes1 answers (innermost s.handlers) ways.throws
    throws1 = throws_then (innermost s.handlers) ways.throws one_part start.later throws

    mark : {source2 store2 : Store} {notes2 : Notes} {answers2 : List Answer}
        → Since c (between s1 finished) store notes1 answers source2 store2 notes2 answers2
        → notes2 f ≡ Some (Loops (block_id f))
    mark u =
        u.later.marks f (inl (omega arith))
        ∙ noted_same (noted (noted notes (block_id i) (Loops (block_id f))) (block_id h) (Loops (block_id f))) (block_id f)
        (Loops (block_id f))

    -- The run from a block goes on as `k`, if fewer than `n` answers are left.
    abbrev pub Comes : (block n : ℕ) → Cont → Type 0
    Comes block n k =
        (source2 store2 : Store) (notes2 : Notes) (rest : List Answer)
        → Since c (between s1 finished) store notes1 answers source2 store2 notes2 rest → length rest < n
        → TracesAt c block 0 store2 notes2 rest (k source2 rest)

    in_part : Inside (between s finished) (between opened s4)
    in_part = record {
      identifier = omega (arith, gx.identifiers);
      identifiers = omega (arith, gt.identifiers);
      block = omega (arith, gx.blocks);
      blocks = omega (arith, gt.blocks);
    }

    in_test : Inside (between s1 finished) (between opened s4)
    in_test = record {
      identifier = omega (arith, gx.identifiers);
      identifiers = omega (arith, gt.identifiers);
      block = omega (arith, gx.blocks);
      blocks = omega (arith, gt.blocks);
    }

    -- The body, behind which, and behind each `continue`, the run goes on in the block `again`.
    turn : (k : Cont) (n : ℕ) → Comes again.0 n k → Comes b n (db (loop_ways label k normal ways) (λ end. k))
    turn k n next source2 store2 notes3 rest t2 less =
        use_statement (loop_ways label k normal ways) k rb met.body (gx.sound sound) shares (inside_refl (between opened s4))
        (same_throws c (between opened s4) store2 notes3 rest s opened ways.throws gx.handlers
        (throws_then (innermost s.handlers) ways.throws in_part (before t2).later throws)) jumps2 (since_start t2.agrees)
        (λ source3 store3 notes4 answers3 u3 v3. hole_goes (without_scope s4) again.0 gotos.Continue last s.current c store3 notes4
        answers3 _
        met.body_shut (next source3 store3 notes4 answers3 (on u3) (omega (arith, u3.later.fewer, less))))
      where
        on : {source3 store3 : Store} {notes4 : Notes} {answers3 : List Answer}
            → Since c (between opened s4) store2 notes3 rest source3 store3 notes4 answers3
            → Since c (between s1 finished) store notes1 answers source3 store3 notes4 answers3
        on u = since_then in_test t2.later u

        jumps2 : Jumps c (between opened s4) store2 notes3 rest opened.scopes (loop_ways label k normal ways).breaks
            (loop_ways label k normal ways).continues
        jumps2 =
            jumps_in_loop label again (block_id f) k normal ways y.scopes
            (record {
              goes = λ source3 store3 notes4 answers3 u3. next source3 store3 notes4 answers3 (on u3)
                  (omega (arith, u3.later.fewer, less));
            })
            (follows_then in_part (before t2).later onward)
            (same_jumps c (between opened s4) store2 notes3 rest s x ways.breaks ways.continues gx.scopes
            (jumps_then in_part (before t2).later jumps))

    -- The test, behind which the body goes on as `k`.
    test_it : (k : Cont) (n : ℕ) → Comes b n k → Comes h (suc n) (again_tested world label dt ways k normal)
    test_it k n next source1 store1 notes2 answers1 t1 less =
        use_expression (switch_ways label normal (λ after rest. waiting) ways)
        (λ v after rest. tested (set_open world.opens) (truthy v) after rest k normal) rt met.behind
        (to_test.sound sound) shares (inside to_test (for_behind s y s4 s5 label again update test span other last))
        (same_throws c (between s1 finished) store notes1 answers s tst ways.throws to_test.handlers throws1) t1
        (λ v source2 store2 notes3 answers2 t2 u2 is.
        steps_on c s5.current.id.0 (length s5.current.instructions) store2 notes3 answers2 (Ends (branch test b f f span)) _
        (terminal_met s5 (branch test b f f span) (new_block f block.Block) c cover)
        (subst (λ (m : Option Note). Eventually c
        (λ stuck next1. branched stuck c (choice_at m) test.identifier.0 (block_id b)
        (block_id f) next1 next1 notes3 store2 answers2)
        (tested (set_open world.opens) (truthy v) source2 answers2 k normal)) (sym (mark t2))
        (subst (λ (w : Value). Eventually c
        (λ stuck next1. tested (changer c) (truthy w) store2 answers2 (at next1 (block_id b) notes3)
        (at next1 (block_id f) notes3)) (tested (set_open world.opens) (truthy v) source2 answers2 k normal)) (sym is)
        (tests_come c world cover.names.one shares (truthy v) answers2 (λ next1. at next1 (block_id b) notes3)
        (λ next1. at next1 (block_id f) notes3) k normal t2.agrees
        (λ source3 store3 rest after. next source3 store3 notes3 rest
        (since_then (inside_refl (between s1 finished)) t2.later (after.since (between s1 finished)))
        (omega (arith, u2.later.fewer, after.fewer, less)))
        (λ source3 store3 rest after. onward.goes source3 store3 notes3 rest
        (before (since_then (inside_refl (between s1 finished)) t2.later (after.since (between s1 finished)))))))))

    -- At most n turns, if a turn leads from the block `again` through the update.
    turns_come : ((k : Cont) (n : ℕ) → Comes h n k → Comes again.0 n (updated label du ways k normal)) → (n : ℕ)
        → Comes h n (for_turns world n label dt du db ways normal)
    turns_come through zero source1 store1 notes2 answers1 t1 less = absurd (omega (arith, less))
    turns_come through (suc n) source1 store1 notes2 answers1 t1 less =
        test_it (db (loop_ways label (updated label du ways (for_turns world n label dt du db ways normal) normal) normal ways)
        (λ end. updated label du ways (for_turns world n label dt du db ways normal) normal)) n
        (turn (updated label du ways (for_turns world n label dt du db ways normal) normal) n
        (through (for_turns world n label dt du db ways normal) n (turns_come through n)))
        source1 store1 notes2 answers1 t1 less

    cover_a : IsContainedIn xa c
    cover_a = contained_before ga met.front

    pub for_runs_through : ((k : Cont) (n : ℕ) → Comes h n k → Comes again.0 n (updated label du ways k normal))
        → TracesFrom c s store notes answers (for_looped world label di dt du db ways (λ end. normal) source answers)
    for_runs_through through =
        goes_on shut (for_end h update b span) (new_block h block.Loop) c (block_id i) (for_notes h) store notes answers _ refl
        met.test_open
        (use_jumpless (front_ways label normal ways) (for_repeated world label dt du db ways normal) ri
        (contained_hole s2 h gotos.Break part s.current c cover_a) sound shares
        (record {
          identifier = omega arith;
          identifiers = omega (arith, ga.identifiers, for_more.identifiers);
          block = omega arith;
          blocks = omega (arith, ga.blocks, for_more.blocks);
        }) throws1 (since_start a)
        (λ source2 store2 notes2 answers2 t u. hole_goes s2 h gotos.Break part s.current c store2 notes2 answers2 _ cover_a
        (turns_come through (suc (length answers2)) source2 store2 notes2 answers2 t (omega arith))))
      where
        for_more : Extends x finished
        for_more =
            extends_then (extends_then (for_body_extends s y s4 s5 label again update test span other last gb)
            (for_ends s y s4 s5 label again update test span other last))
            (extends_then gt (for_behind s y s4 s5 label again update test span other last))

-- Without an update.
pub for_runs_plain : (s s2 s4 s5 : State) (label : Label) (test : Place) (span part last : Span) → Extends (for_begun s) s2
    → Extends (for_body s2 s.env.next_block label (block_id s.env.next_block) part) s4
    → Extends (for_tests s s2 s4 (block_id s.env.next_block) None span last) s5
    → (world : World) (di : Action (Unit {0})) (dt : Action Value) (db : Action (Unit {0})) → RunsJumpless world di (for_begun s) s2
    → RunsStatement world db (for_body s2 s.env.next_block label (block_id s.env.next_block) part) s4
    → RunsExpression world dt (for_tests s s2 s4 (block_id s.env.next_block) None span last) s5 test.identifier.0
    → RunsStatement world (for_looped world label di dt done db) s (for_finished s5 s.env.next_block s2.env.next_block span test)
for_runs_plain s s2 s4 s5 label test span part last gi gb gt world di dt db ri rb rt = record {
  runs = λ c cover sound shares ways normal source store notes answers a throws jumps onward.
      for_runs_through s s2 s2 s4 s5 label (block_id s.env.next_block) None test span part part last gi
      (extends_refl (for_front s s2 part)) gb
      gt world di dt done db ri rb rt c cover sound shares ways normal source store notes answers a throws jumps onward
      (λ k n next source2 store2 notes2 rest t less. next source2 store2 notes2 rest t less);
}

-- With an update, whose value is dropped.
pub for_runs : (s s2 s3 s4 s5 : State) (label : Label) (test : Place) (span part other last : Span) → Extends (for_begun s) s2
    → Extends (for_update s2 s.env.next_block part) s3
    → Extends (for_body s3 s.env.next_block label (block_id s2.env.next_block) other) s4
    → Extends (for_tests s s3 s4 (block_id s2.env.next_block) (Some (block_id s2.env.next_block)) span last) s5
    → (world : World) (di : Action (Unit {0})) (dt : Action Value) (du db : Action (Unit {0})) → RunsJumpless world di (for_begun s) s2
    → RunsJumpless world du (for_update s2 s.env.next_block part) s3
    → RunsStatement world db (for_body s3 s.env.next_block label (block_id s2.env.next_block) other) s4
    → RunsExpression world dt (for_tests s s3 s4 (block_id s2.env.next_block) (Some (block_id s2.env.next_block)) span last) s5
    test.identifier.0
    → RunsStatement world (for_looped world label di dt du db) s (for_finished s5 s.env.next_block s3.env.next_block span test)
for_runs s s2 s3 s4 s5 label test span part other last gi gu gb gt world di dt du db ri ru rb rt = record { runs = run_it }
  where
    h : ℕ
    h = s.env.next_block

    u : BlockId
    u = block_id s2.env.next_block

    finished : State
    finished = for_finished s5 h s3.env.next_block span test

    run_it : (c : Code) → IsContainedIn finished c → HasSoundNames s → SharesVariables c.ident world c.world
        → (ways : Ways) (normal : Cont) (source store : Store) (notes : Notes) (answers : List Answer) → Agrees c.ident source store
        → Throws c (between s finished) store notes answers (innermost s.handlers) ways.throws
        → Jumps c (between s finished) store notes answers s.scopes ways.breaks ways.continues
        → Follows c (between s finished) store notes answers (h + 1) 0 normal
        → TracesFrom c s store notes answers (for_looped world label di dt du db ways (λ end. normal) source answers)
    run_it c cover sound shares ways normal source store notes answers a throws jumps onward =
        for_runs_through s s2 s3 s4 s5 label u (Some u) test span part other last gi (update_extends s s2 s3 part other gu) gb
        gt world di dt du db ri rb rt c cover sound shares ways normal source store notes answers a throws jumps onward
        (λ k n next source2 store2 notes2 rest t less.
        use_jumpless (switch_ways label normal (λ after rest1. waiting) ways) k ru
        (contained_hole s3 h gotos.Break other s.current c met.front) (gi.sound sound) shares part_in
        (same_throws c (between (for_numbered s) finished) store _ answers s (for_update s2 h part) ways.throws gi.handlers
        (throws1 s s2 s3 s4 s5 label u (Some u) test span part other last gi (update_extends s s2 s3 part other gu) gb
        gt world di dt du db ri rb rt c cover sound shares ways normal source store notes answers a throws jumps onward)) t
        (λ source3 store3 notes3 answers3 t3 u3. hole_goes s3 h gotos.Break other s.current c store3 notes3 answers3 _ met.front
        (next source3 store3 notes3 answers3 t3 (omega (arith, u3.later.fewer, less)))))
      where
        met : IsForIn s s3 s4 s5 label u (Some u) test span other last c
        met = for_in s s3 s4 s5 label u (Some u) test span other last gb gt c cover

        part_in : Inside (between (for_numbered s) finished) (between (for_update s2 h part) s3)
        part_in = record {
          identifier = omega (arith, gi.identifiers);
          identifiers = omega (arith, gb.identifiers, gt.identifiers);
          block = omega (arith, gi.blocks);
          blocks = omega (arith, gb.blocks, gt.blocks);
        }
