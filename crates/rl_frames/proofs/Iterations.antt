-- The runs of a `for`-`of` loop.
use Rattle.std.proofs.Common.{◌≡◌, ℕ, suc, ◌+◌, ◌-◌, ◌<◌, ◌≤◌, inl, inr, true, false, List, [], ◌∷◌, length, length-append, take}
use Rattle.std.proofs.Common.{Option, Some, refl, sym, ap, ◌∙◌, subst, arith}
use Rattle.rl_builder.specs.Builder.{innermost, new_block, pushed, reserved, with_temporary}
use Rattle.rl_builder.specs.Temporaries.{temporary, unordered}
use Rattle.rl_builder.specs.declared.jumps.JumpScope.{JumpScope}
use Rattle.rl_builder.specs.declared.jumps.JumpScope.TheVariants as scope
use Rattle.rl_frames.proofs.Common.{Code, Extends, IsContainedIn, Label, Place, Span, State}
use Rattle.rl_frames.proofs.RoundRuns.{IsKept, OfPoints, round_body_part, round_head_part, rounds_again}
use Rattle.rl_frames.specs.Meanings.{front_ways, iterated, rounds}
use Rattle.rl_frames.specs.Parts.{forof_begun, forof_end, forof_init, forof_next, forof_opened, forof_test, rounds_body, rounds_finished}
use Rattle.rl_hir.specs.declared.function.BlockKind.TheVariants as block
use Rattle.rl_hir.specs.declared.instruction.Instruction.{Instruction}
use Rattle.rl_hir.specs.declared.instruction.InstructionValue.TheVariants as values
use Rattle.rl_hir.specs.declared.terminal.GotoVariant.TheVariants as gotos
use Rattle.rl_machine.specs.Acts.{Steps}
use Rattle.rl_machine.specs.declared.trace.Answer.{Answer}
use Rattle.rl_machine.specs.declared.trace.Value.{Value}
use Rattle.rl_machine.specs.Ends.{Iterates, Note, Notes, noted}
use Rattle.rl_machine.specs.Machine.{Runs, caught, changer, choice_at, exit_at, opened}
use Rattle.rl_machine.specs.Traces.{Cont, Store, World, fired, set, set_open}
use Rattle.rl_model.specs.Actions.{Action, Ways}
use Rattle.rl_model.specs.Events.{get_iterator, next_of}
use Rattle.rl_runs.proofs.Events.{fired_comes}
use Rattle.rl_runs.proofs.Holes.{aside, front_added, hole_goes, same_throws, use_expression}
use Rattle.rl_runs.proofs.Moves.{catches, contained_before, extends_completed, extends_pushed, extends_reserved, extends_then}
use Rattle.rl_runs.proofs.Moves.{extends_value, goes_behind, goes_on, inside, instruction_met, push_runs, thrown_comes}
use Rattle.rl_runs.proofs.Moves.{value_free}
use Rattle.rl_runs.proofs.Steps.{inside_refl, noted_other, noted_same, set_other, set_same, since_noted}
use Rattle.rl_runs.proofs.Steps.{since_set, since_start, since_then, steps_on}
use Rattle.rl_runs.specs.Continuations.{Agrees, Eventually, Follows, Inside, IsOutside, Jumps, Range, SharesVariables, Since}
use Rattle.rl_runs.specs.Continuations.{Throws, TracesAt, TracesFrom, between}
use Rattle.rl_runs.specs.Facts.{HasSoundNames, Nobody}
use Rattle.rl_runs.specs.Moves.{block_id, branch, goto}
use Rattle.rl_runs.specs.Simulation.{RunsExpression, RunsPattern, RunsStatement}

-- A round of the loop begins: the iterator and the collection are in their places, and the loop is noted at its blocks.
pub record IsRound (c : Code) (r : Range) (store : Store) (notes : Notes) (answers : List Answer)
    (behind init test iterator collection : ℕ) (it v : Value) (source1 store1 : Store) (notes1 : Notes)
    (answers1 : List Answer) : Type 0 where
  pub since : Since c r store notes answers source1 store1 notes1 answers1
  pub has_iterator : store1 iterator ≡ it
  pub has_collection : store1 collection ≡ v
  pub at_init : notes1 init ≡ Some (Iterates (block_id behind) true)
  pub at_test : notes1 test ≡ Some (Iterates (block_id behind) false)
  pub at_behind : notes1 behind ≡ Some (Iterates (block_id behind) false)

-- A part runs that changes neither.
round_then : {c : Code} {r : Range} {store : Store} {notes : Notes} {answers : List Answer} {behind init test iterator collection : ℕ}
    {it v : Value} {source1 store1 : Store} {notes1 : Notes} {answers1 : List Answer} {r1 : Range} {source2 store2 : Store}
    {notes2 : Notes} {answers2 : List Answer}
    → IsRound c r store notes answers behind init test iterator collection it v source1 store1 notes1 answers1 → Inside r r1
    → Since c r1 store1 notes1 answers1 source2 store2 notes2 answers2
    → Nobody c.ident iterator → Nobody c.ident collection → IsOutside r1.identifier r1.identifiers iterator
    → IsOutside r1.identifier r1.identifiers collection
    → IsOutside r1.block r1.blocks init → IsOutside r1.block r1.blocks test → IsOutside r1.block r1.blocks behind
    → IsRound c r store notes answers behind init test iterator collection it v source2 store2 notes2 answers2
round_then {c} {r} {store} {notes} {answers} {behind} {init} {test} {iterator} {collection} q part u free_i free_c out_i out_c out_init out_test out_behind = record {
  since = since_then part q.since.later u;
  has_iterator = u.later.temporaries iterator free_i out_i ∙ q.has_iterator;
  has_collection = u.later.temporaries collection free_c out_c ∙ q.has_collection;
  at_init = u.later.marks init out_init ∙ q.at_init;
  at_test = u.later.marks test out_test ∙ q.at_test;
  at_behind = u.later.marks behind out_behind ∙ q.at_behind;
}

module _ (s s2 s3 s5 : State) (label : Label) (collection test : Place) (span left part : Span) where
  abbrev pub f : ℕ
  f = s.env.next_block

  abbrev pub i : ℕ
  i = s.env.next_block + 1

  abbrev pub t : ℕ
  t = s.env.next_block + 1 + 1

  abbrev pub l : ℕ
  l = s.env.next_block + 1 + 1 + 1

  abbrev pub s1 : State
  s1 = reserved (reserved (reserved (reserved s)))

  abbrev pub s0 : State
  s0 = forof_begun s label

  abbrev pub shut : State
  shut = rounds_body s2 f s.current part

  abbrev pub si : State
  si = forof_init s3 f span

  abbrev pub so : State
  so = forof_opened s3 f collection span

  abbrev pub st : State
  st = forof_test s3 f collection span

  abbrev pub sn : State
  sn = forof_next s3 f collection span left

  abbrev pub finished : State
  finished = rounds_finished s5 f l span test

  abbrev pub opens : Instruction
  opens = unordered (temporary si collection.span) (values.GetIterator collection) collection.span

  abbrev pub steps : Instruction
  steps = unordered (temporary st (Some left)) (values.IteratorNext (temporary si collection.span) collection) (Some left)

  abbrev pub iterator : ℕ
  iterator = length si.env.identifiers

  abbrev pub next_id : ℕ
  next_id = length st.env.identifiers

  module _ (gb : Extends (forof_begun s label) s2) (gr : Extends (rounds_body s2 s.env.next_block s.current part) s3)
      (gp : Extends (forof_next s3 s.env.next_block collection span left) s5) where
    scopes_left : take (length s2.scopes - 1) s2.scopes ≡ s.scopes
    scopes_left =
        ap (λ (x : List JumpScope). take (length x - 1) x) gb.scopes ∙ front_added s.scopes (scope.Loop label (block_id i) (block_id f))

    first_extends : Extends s s1
    first_extends =
        extends_then (extends_then (extends_reserved s) (extends_reserved (reserved s)))
        (extends_then (extends_reserved (reserved (reserved s))) (extends_reserved (reserved (reserved (reserved s)))))

    aside_extends : Extends s1 shut
    aside_extends =
        aside s1 s2 (new_block l block.Block) s0.scopes (take (length s2.scopes - 1) s2.scopes) s.handlers s2.handlers
        (goto i gotos.Continue part) scopes_left gb.handlers gb

    init_extends : Extends s3 si
    init_extends = extends_completed s3 (forof_end f span) (new_block i block.Loop) (λ none. refl)

    open_extends : Extends si so
    open_extends = extends_value si (values.GetIterator collection) collection.span

    test_extends : Extends so st
    test_extends = extends_completed so (goto t gotos.Break span) (new_block t block.Loop) (λ none. refl)

    next_extends : Extends st sn
    next_extends = extends_value st (values.IteratorNext (temporary si collection.span) collection) (Some left)

    last_extends : Extends s5 finished
    last_extends = extends_completed s5 (branch test l f f span) (new_block f block.Block) (λ none. refl)

    shut_extends : Extends s shut
    shut_extends = extends_then first_extends aside_extends

    right_extends : Extends s si
    right_extends = extends_then shut_extends (extends_then gr init_extends)

    opened_extends : Extends s so
    opened_extends = extends_then right_extends open_extends

    tested_extends : Extends s st
    tested_extends = extends_then opened_extends test_extends

    made_iterator : length (with_temporary si collection.span).env.identifiers ≡ iterator + 1
    made_iterator = simp length-append (omega arith)

    made_next : length (with_temporary st (Some left)).env.identifiers ≡ next_id + 1
    made_next = simp length-append (omega arith)

    pushed_identifiers : (x : State) (j : Instruction) → length x.env.identifiers ≤ length (pushed x j).env.identifiers
    pushed_identifiers x j = (extends_pushed x j).identifiers

    abbrev R : Range
    R = between s finished

    pub forof_runs : (world : World) (dr : Action Value) (dp : Value → Action (Unit {0})) (db : Action (Unit {0}))
        → RunsStatement world db (forof_begun s label) s2
        → RunsExpression world dr (rounds_body s2 s.env.next_block s.current part) s3 collection.identifier.0
        → RunsPattern world dp (forof_next s3 s.env.next_block collection span left) s5
        (length (forof_test s3 s.env.next_block collection span).env.identifiers)
        → RunsStatement world (iterated world label dr dp db) s finished
    forof_runs world dr dp db rb rr rp = record { runs = run_it }
      where
        run_it : (c : Code) → IsContainedIn finished c → HasSoundNames s → SharesVariables c.ident world c.world
            → (ways : Ways) (normal : Cont) (source store : Store) (notes : Notes) (answers : List Answer) → Agrees c.ident source store
            → Throws c R store notes answers (innermost s.handlers) ways.throws
            → Jumps c R store notes answers s.scopes ways.breaks ways.continues → Follows c R store notes answers f 0 normal
            → TracesFrom c s store notes answers (iterated world label dr dp db ways (λ end. normal) source answers)
        run_it c cover sound shares ways normal source store notes answers a throws jumps onward =
            use_expression (front_ways label normal ways)
            (λ v after rest. fired (set_open world.opens) (get_iterator v) after rest
            (λ a e r. rounds world (suc (length r)) label (next_of a.value v) dp db ways normal e r) ways.throws) rr cover3
            (shut_extends.sound sound) shares
            (inside shut_extends (extends_then init_extends
            (extends_then open_extends (extends_then test_extends (extends_then next_extends (extends_then gp last_extends))))))
            (same_throws c R store notes answers s shut ways.throws shut_extends.handlers throws) (since_start a)
            (λ v source1 store1 notes1 answers1 t1 u1 is. goes_on s3 (forof_end f span) (new_block i block.Loop) c (block_id i)
            ((block_id i, X) ∷ (block_id t, X) ∷ (block_id f, X) ∷ []) store1 notes1 answers1 _ refl cover_i
            (from_init v source1 store1 notes1 answers1 t1 is))
          where
            X : Note
            X = Iterates (block_id f) false

            cover5 : IsContainedIn s5 c
            cover5 = contained_before last_extends cover

            cover_n : IsContainedIn sn c
            cover_n = contained_before gp cover5

            cover_t : IsContainedIn st c
            cover_t = contained_before next_extends cover_n

            cover_o : IsContainedIn so c
            cover_o = contained_before test_extends cover_t

            cover_i : IsContainedIn si c
            cover_i = contained_before open_extends cover_o

            cover3 : IsContainedIn s3 c
            cover3 = contained_before init_extends cover_i

            iterator_free : Nobody c.ident iterator
            iterator_free = value_free si (values.GetIterator collection) collection.span c cover_o (right_extends.sound sound)

            next_free : Nobody c.ident next_id
            next_free =
                value_free st (values.IteratorNext (temporary si collection.span) collection) (Some left) c cover_n (tested_extends.sound sound)

            collection_free : Nobody c.ident collection.identifier.0
            collection_free = rr.free c cover3 (shut_extends.sound sound)

            iterator_made : iterator < length st.env.identifiers
            iterator_made = omega (arith, made_iterator, pushed_identifiers (with_temporary si collection.span) opens)

            next_made : next_id < length sn.env.identifiers
            next_made = omega (arith, made_next, pushed_identifiers (with_temporary st (Some left)) steps)

            collection_made : collection.identifier.0 < iterator
            collection_made = rr.made

            collection_late : length s2.env.identifiers ≤ collection.identifier.0
            collection_late = rr.fresh

            ids_end : length sn.env.identifiers ≤ length finished.env.identifiers
            ids_end = gp.identifiers

            blocks_end : l < finished.env.next_block
            blocks_end = omega (arith, gb.blocks, gr.blocks, open_extends.blocks, next_extends.blocks, gp.blocks)

            body_part : Inside R (between s0 s2)
            body_part =
                round_body_part s s2 st s5 l label (values.IteratorNext (temporary si collection.span) collection) test span left part
                (omega arith) gb tested_extends (extends_then gr (extends_then init_extends (extends_then open_extends test_extends))) gp

            head_part : Inside R (between sn s5)
            head_part =
                round_head_part s s2 st s5 l label (values.IteratorNext (temporary si collection.span) collection) test span left part
                (omega arith) gb tested_extends (extends_then gr (extends_then init_extends (extends_then open_extends test_extends))) gp

            -- The rounds of this iterator and collection.
            Q : (it v : Value) → OfPoints
            Q it v source1 store1 notes1 answers1 =
                IsRound c R store notes answers f i t iterator collection.identifier.0 it v source1 store1 notes1 answers1

            keeps : (it v : Value)
                → IsKept c (Q it v) R store notes answers (between s0 s2) (between sn s5) (between finished finished)
                (values.IteratorNext (temporary si collection.span) collection) next_id t f (next_of it v)
            keeps it v = record {
              since = λ source1 store1 notes1 answers1 q. q.since;
              body = λ source1 store1 notes1 answers1 q source2 store2 notes2 answers2 u.
                  round_then q body_part u iterator_free collection_free (inr (omega (arith, collection_late, collection_made)))
                  (inr collection_late) (inl (omega arith)) (inl (omega arith)) (inl (omega arith));
              head = λ source1 store1 notes1 answers1 q source2 store2 notes2 answers2 u.
                  round_then q head_part u iterator_free collection_free (inl (omega (arith, iterator_made, next_extends.identifiers)))
                  (inl (omega (arith, collection_made, iterator_made, next_extends.identifiers))) (inl below_i) (inl below_t) (inl below_f);
              answer = λ source1 store1 notes1 answers1 q source2 store2 notes2 answers2 u.
                  round_then q whole_part u iterator_free collection_free
                  (inl (omega (arith, iterator_made, next_made, ids_end)))
                  (inl (omega (arith, collection_made, iterator_made, next_made, ids_end))) (inl (omega (arith, blocks_end)))
                  (inl (omega (arith, blocks_end))) (inl (omega (arith, blocks_end)));
              takes = λ source1 store1 notes1 answers1 q y. record {
                since = since_set next_id y next_free (omega (arith, tested_extends.identifiers))
                    (omega (arith, next_made, ids_end)) q.since;
                has_iterator = (let ne : iterator ≡ next_id → ⊥ = λ e. omega (arith, e, iterator_made) in set_other store1 next_id iterator y ne) ∙ q.has_iterator;
                has_collection = (let ne : collection.identifier.0 ≡ next_id → ⊥ = λ e. omega (arith, e, iterator_made, collection_made) in set_other store1 next_id collection.identifier.0 y ne) ∙ q.has_collection;
                at_init = q.at_init;
                at_test = q.at_test;
                at_behind = q.at_behind;
              };
              asks = λ source1 store1 notes1 answers1 q.
                  ap (λ (w : Value). Steps (next_of w (store1 collection.identifier.0)) next_id) q.has_iterator
                  ∙ ap (λ (w : Value). Steps (next_of it w) next_id) q.has_collection;
              exits = λ source1 store1 notes1 answers1 q. ap exit_at q.at_test;
              straight = λ source1 store1 notes1 answers1 q. ap choice_at q.at_behind;
            }
              where
                whole_part : Inside R (between finished finished)
                whole_part = record {
                  identifier = omega (arith, tested_extends.identifiers, next_extends.identifiers, gp.identifiers);
                  identifiers = omega arith;
                  block = omega (arith, tested_extends.blocks, next_extends.blocks, gp.blocks);
                  blocks = omega arith;
                }

                below_i : i < sn.env.next_block
                below_i = omega (arith, aside_extends.blocks, gr.blocks, open_extends.blocks, next_extends.blocks)

                below_t : t < sn.env.next_block
                below_t = omega (arith, aside_extends.blocks, gr.blocks, open_extends.blocks, next_extends.blocks)

                below_f : f < sn.env.next_block
                below_f = omega (arith, aside_extends.blocks, gr.blocks, open_extends.blocks, next_extends.blocks)

            -- From the init, once the iterator is there: it is not asked again.
            onto : (it v : Value) (n : ℕ)
                → ((source6 store6 : Store) (notes6 : Notes) (answers6 : List Answer) → Q it v source6 store6 notes6 answers6
                → length answers6 < n
                → TracesAt c t 0 store6 notes6 answers6 (rounds world n label (next_of it v) dp db ways normal source6 answers6))
                → (source6 store6 : Store) (notes6 : Notes) (answers6 : List Answer) → Q it v source6 store6 notes6 answers6
                → length answers6 < n
                → TracesAt c i 0 store6 notes6 answers6 (rounds world n label (next_of it v) dp db ways normal source6 answers6)
            onto it v n next source6 store6 notes6 answers6 q less =
                push_runs (with_temporary si collection.span) opens c store6 store6 notes6 answers6 _
                (λ stuck k place. ap (λ (o : Option Note). opened stuck c o
                (get_iterator (store6 collection.identifier.0)) iterator k k i place store6 notes6 answers6) q.at_init) cover_o
                (hole_goes so t gotos.Break span (new_block t block.Loop) c store6 notes6 answers6 _ cover_t
                (next source6 store6 notes6 answers6 q less))

            -- At most n rounds, from the test.
            again : (it v : Value) (n : ℕ) (source6 store6 : Store) (notes6 : Notes) (answers6 : List Answer)
                → Q it v source6 store6 notes6 answers6 → length answers6 < n
                → TracesAt c t 0 store6 notes6 answers6 (rounds world n label (next_of it v) dp db ways normal source6 answers6)
            again it v =
                rounds_again s s2 st s5 l label (values.IteratorNext (temporary si collection.span) collection) test span left part
                (omega arith) gb tested_extends (extends_then gr (extends_then init_extends (extends_then open_extends test_extends))) gp
                world dp db rb rp c cover sound shares ways normal store notes answers throws jumps onward (next_of it v) (Q it v)
                (keeps it v) (onto it v)

            -- In the init, with the loop noted.
            from_init : (v : Value) (source1 store1 : Store) (notes1 : Notes) (answers1 : List Answer)
                → Since c R store notes answers source1 store1 notes1 answers1 → store1 collection.identifier.0 ≡ v
                → TracesAt c i 0 store1 (noted (noted (noted notes1 (block_id i) X) (block_id t) X) (block_id f) X) answers1
                (fired (set_open world.opens) (get_iterator v) source1 answers1
                (λ it e r. rounds world (suc (length r)) label (next_of it.value v) dp db ways normal e r) ways.throws)
            from_init v source1 store1 notes1 answers1 t1 is =
                steps_on c i 0 store1 notes2 answers1 (Runs opens) _ (instruction_met (with_temporary si collection.span) opens c cover_o)
                (subst (λ (o : Option Note). Eventually c
                (λ stuck next. opened stuck c o
                (get_iterator (store1 collection.identifier.0)) iterator next next i 0 store1 notes2 answers1)
                (fired (set_open world.opens) (get_iterator v) source1 answers1
                (λ it e r. rounds world (suc (length r)) label (next_of it.value v) dp db ways normal e r) ways.throws)) (sym at_i)
                (subst (λ (w : Value). Eventually c
                (λ stuck next. fired (changer c) (get_iterator w) store1 answers1
                (λ it later rest. next i 1 (set later iterator it.value) notes3 rest) (caught stuck (c.catcher i) notes3 next))
                (fired (set_open world.opens) (get_iterator v) source1 answers1
                (λ it e r. rounds world (suc (length r)) label (next_of it.value v) dp db ways normal e r) ways.throws)) (sym is)
                (fired_comes c world cover.names.one shares (get_iterator v) answers1
                (λ next it later rest. next i 1 (set later iterator it.value) notes3 rest)
                (λ stuck next. caught stuck (c.catcher i) notes3 next)
                (λ it e r. rounds world (suc (length r)) label (next_of it.value v) dp db ways normal e r) ways.throws t1.agrees
                (λ it source4 store4 rest after. goes_behind (innermost si.handlers) (with_temporary si collection.span) opens c
                (set store4 iterator it.value) notes3 rest _ refl cover_o
                (hole_goes so t gotos.Break span (new_block t block.Loop) c (set store4 iterator it.value) notes3 rest _ cover_t
                (again it.value v (suc (length rest)) source4 (set store4 iterator it.value) notes3 rest
                (begins it.value source4 store4 rest (since_then (inside_refl R) since3.later (after.since R))
                ((after.since (between finished finished)).later.temporaries collection.identifier.0 collection_free
                (inl (omega (arith, collection_made, iterator_made, next_made, ids_end))) ∙ is)) (omega arith))))
                (λ w source4 store4 rest after. subst
                (λ (o : Option ℕ). Eventually c (λ stuck next. caught stuck o notes3 next w store4 rest) (ways.throws w source4 rest))
                (sym (catches (innermost si.handlers) (with_temporary si collection.span) opens c refl cover_o))
                (thrown_comes (innermost si.handlers) c R store notes answers ways.throws w source4 store4 notes3 rest
                (same_throws c R store notes answers s si ways.throws right_extends.handlers throws)
                (since_then (inside_refl R) since3.later (after.since R)))))))
              where
                notes2 : Notes
                notes2 = noted (noted (noted notes1 (block_id i) X) (block_id t) X) (block_id f) X

                notes3 : Notes
                notes3 = noted notes2 (block_id i) (Iterates (block_id f) true)

                at_i : notes2 i ≡ Some X
                at_i =
                    let ne : i ≡ f → ⊥ = λ e. omega (arith, e) in let ne1 : i ≡ t → ⊥ = λ e. omega (arith, e) in
                    noted_other (noted (noted notes1 (block_id i) X) (block_id t) X) (block_id f) i X ne
                    ∙ noted_other (noted notes1 (block_id i) X) (block_id t) i X ne1 ∙ noted_same notes1 (block_id i) X

                since3 : Since c R store notes answers source1 store1 notes3 answers1
                since3 = since_noted (block_id i) (Iterates (block_id f) true) (omega arith) (omega (arith, blocks_end))
                    (since_noted (block_id f) X (omega arith) (omega (arith, blocks_end))
                    (since_noted (block_id t) X (omega arith) (omega (arith, blocks_end))
                    (since_noted (block_id i) X (omega arith) (omega (arith, blocks_end)) t1)))

                begins : (it : Value) (source4 store4 : Store) (rest : List Answer)
                    → Since c R store notes answers source4 store4 notes3 rest → store4 collection.identifier.0 ≡ v
                    → IsRound c R store notes answers f i t iterator collection.identifier.0 it v source4
                    (set store4 iterator it) notes3 rest
                begins it source4 store4 rest u has = record {
                  since = since_set iterator it iterator_free (omega (arith, right_extends.identifiers))
                      (omega (arith, iterator_made, next_made, ids_end)) u;
                  has_iterator = set_same store4 iterator it;
                  has_collection = (let ne : collection.identifier.0 ≡ iterator → ⊥ = λ e. omega (arith, e, collection_made) in set_other store4 iterator collection.identifier.0 it ne) ∙ has;
                  at_init = noted_same notes2 (block_id i) (Iterates (block_id f) true);
                  at_test =
                      let ne : t ≡ i → ⊥ = λ e. omega (arith, e) in let ne1 : t ≡ f → ⊥ = λ e. omega (arith, e) in
                      noted_other notes2 (block_id i) t (Iterates (block_id f) true) ne
                      ∙ noted_other (noted (noted notes1 (block_id i) X) (block_id t) X) (block_id f) t X ne1
                      ∙ noted_same (noted notes1 (block_id i) X) (block_id t) X;
                  at_behind = let ne : f ≡ i → ⊥ = λ e. omega (arith, e) in noted_other notes2 (block_id i) f (Iterates (block_id f) true) ne ∙ noted_same (noted (noted notes1 (block_id i) X) (block_id t) X) (block_id f) X;
                }
