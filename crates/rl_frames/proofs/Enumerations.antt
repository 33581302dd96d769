-- The runs of a `for`-`in` loop.
use Rattle.std.proofs.Common.{◌≡◌, ℕ, suc, ◌+◌, ◌<◌, ◌≤◌, inl, inr, List, [], ◌∷◌, length, Some, refl, ap, ◌∙◌, arith}
use Rattle.rl_builder.specs.Builder.{innermost, new_block}
use Rattle.rl_frames.proofs.Common.{Code, Extends, IsContainedIn, Label, Place, Span, State}
use Rattle.rl_frames.proofs.RoundRuns.{IsKept, OfPoints, round_body_part, round_head_part, rounds_again}
use Rattle.rl_frames.proofs.RoundStates.{IsRoundsIn, body_extends, init_extends, last_extends, right_extends, rounds_in}
use Rattle.rl_frames.specs.Meanings.{enumerated, front_ways, rounds}
use Rattle.rl_frames.specs.Parts.{forin_begun, forin_end, forin_init, forin_next, rounds_body, rounds_finished}
use Rattle.rl_hir.specs.declared.function.BlockKind.TheVariants as block
use Rattle.rl_hir.specs.declared.instruction.InstructionValue.TheVariants as values
use Rattle.rl_machine.specs.Acts.{Steps}
use Rattle.rl_machine.specs.declared.trace.Answer.{Answer}
use Rattle.rl_machine.specs.declared.trace.Value.{Value}
use Rattle.rl_machine.specs.Ends.{Enumerates, Note, Notes, noted}
use Rattle.rl_machine.specs.Machine.{choice_at, exit_at}
use Rattle.rl_machine.specs.Traces.{Cont, Store, World}
use Rattle.rl_model.specs.Actions.{Action, Ways}
use Rattle.rl_model.specs.Events.{next_key}
use Rattle.rl_runs.proofs.Holes.{same_throws, use_expression}
use Rattle.rl_runs.proofs.Moves.{contained_before, extends_then, extends_value, goes_on, inside, value_free, value_made}
use Rattle.rl_runs.proofs.Steps.{noted_other, noted_same, set_other, since_noted, since_set, since_start, since_then}
use Rattle.rl_runs.specs.Continuations.{Agrees, Follows, Inside, IsOutside, Jumps, Range, SharesVariables, Since, Throws, TracesAt}
use Rattle.rl_runs.specs.Continuations.{TracesFrom, between}
use Rattle.rl_runs.specs.Facts.{HasSoundNames, Nobody}
use Rattle.rl_runs.specs.Moves.{block_id}
use Rattle.rl_runs.specs.Simulation.{RunsExpression, RunsPattern, RunsStatement}

-- A round of the loop begins: the object is in its place, and the loop is noted at its blocks.
pub record IsKeyRound (c : Code) (r : Range) (store : Store) (notes : Notes) (answers : List Answer) (behind init collection : ℕ)
    (v : Value) (source1 store1 : Store) (notes1 : Notes) (answers1 : List Answer) : Type 0 where
  pub since : Since c r store notes answers source1 store1 notes1 answers1
  pub has_collection : store1 collection ≡ v
  pub at_init : notes1 init ≡ Some (Enumerates (block_id behind))
  pub at_behind : notes1 behind ≡ Some (Enumerates (block_id behind))

-- A part runs that changes neither.
key_round_then : {c : Code} {r : Range} {store : Store} {notes : Notes} {answers : List Answer} {behind init collection : ℕ} {v : Value}
    {source1 store1 : Store} {notes1 : Notes} {answers1 : List Answer} {r1 : Range} {source2 store2 : Store} {notes2 : Notes}
    {answers2 : List Answer}
    → IsKeyRound c r store notes answers behind init collection v source1 store1 notes1 answers1 → Inside r r1
    → Since c r1 store1 notes1 answers1 source2 store2 notes2 answers2 → Nobody c.ident collection
    → IsOutside r1.identifier r1.identifiers collection → IsOutside r1.block r1.blocks init → IsOutside r1.block r1.blocks behind
    → IsKeyRound c r store notes answers behind init collection v source2 store2 notes2 answers2
key_round_then {c} {r} {store} {notes} {answers} {behind} {init} {collection} q part u free out out_init out_behind = record {
  since = since_then part q.since.later u;
  has_collection = u.later.temporaries collection free out ∙ q.has_collection;
  at_init = u.later.marks init out_init ∙ q.at_init;
  at_behind = u.later.marks behind out_behind ∙ q.at_behind;
}

module _ (s s2 s3 s5 : State) (label : Label) (collection test : Place) (span left part : Span) where
  abbrev pub f : ℕ
  f = s.env.next_block

  abbrev pub i : ℕ
  i = s.env.next_block + 1

  abbrev pub l : ℕ
  l = s.env.next_block + 1 + 1

  abbrev pub s0 : State
  s0 = forin_begun s label

  abbrev pub shut : State
  shut = rounds_body s2 f s.current part

  abbrev pub si : State
  si = forin_init s3 f span

  abbrev pub sn : State
  sn = forin_next s3 f collection span left

  abbrev pub finished : State
  finished = rounds_finished s5 f l span test

  abbrev pub key_id : ℕ
  key_id = length si.env.identifiers

  module _ (gb : Extends (forin_begun s label) s2) (gr : Extends (rounds_body s2 s.env.next_block s.current part) s3)
      (gp : Extends (forin_next s3 s.env.next_block collection span left) s5) where
    begun_extends : Extends s shut
    begun_extends = body_extends s s2 s3 s5 l label (forin_end f span) test span part refl (omega arith) gb

    opened_extends : Extends s3 si
    opened_extends = init_extends s s2 s3 s5 l label (forin_end f span) test span part refl

    right_side : Extends s si
    right_side = right_extends s s2 s3 s5 l label (forin_end f span) test span part refl (omega arith) gb gr

    step_extends : Extends si sn
    step_extends = extends_value si (values.NextPropertyOf collection) (Some left)

    behind_extends : Extends s5 finished
    behind_extends = last_extends s s2 s3 s5 l label (forin_end f span) test span part refl

    abbrev R : Range
    R = between s finished

    body_inside : Inside R (between s0 s2)
    body_inside =
        round_body_part s s2 si s5 l label (values.NextPropertyOf collection) test span left part (omega arith) gb right_side
        (extends_then gr opened_extends) gp

    head_inside : Inside R (between sn s5)
    head_inside =
        round_head_part s s2 si s5 l label (values.NextPropertyOf collection) test span left part (omega arith) gb right_side
        (extends_then gr opened_extends) gp

    pub forin_runs : (world : World) (dr : Action Value) (dp : Value → Action (Unit {0})) (db : Action (Unit {0}))
        → RunsStatement world db (forin_begun s label) s2
        → RunsExpression world dr (rounds_body s2 s.env.next_block s.current part) s3 collection.identifier.0
        → RunsPattern world dp (forin_next s3 s.env.next_block collection span left) s5
        (length (forin_init s3 s.env.next_block span).env.identifiers)
        → RunsStatement world (enumerated world label dr dp db) s
        (rounds_finished s5 s.env.next_block (s.env.next_block + 1 + 1) span test)
    forin_runs world dr dp db rb rr rp = record { runs = run_it }
      where
        run_it : (c : Code) → IsContainedIn finished c → HasSoundNames s → SharesVariables c.ident world c.world
            → (ways : Ways) (normal : Cont) (source store : Store) (notes : Notes) (answers : List Answer) → Agrees c.ident source store
            → Throws c R store notes answers (innermost s.handlers) ways.throws
            → Jumps c R store notes answers s.scopes ways.breaks ways.continues → Follows c R store notes answers f 0 normal
            → TracesFrom c s store notes answers (enumerated world label dr dp db ways (λ end. normal) source answers)
        run_it c cover sound shares ways normal source store notes answers a throws jumps onward =
            use_expression (front_ways label normal ways)
            (λ v after rest. rounds world (suc (length rest)) label (next_key v) dp db ways normal after rest) rr met.right
            (begun_extends.sound sound) shares
            (inside begun_extends (extends_then opened_extends (extends_then step_extends (extends_then gp behind_extends))))
            (same_throws c R store notes answers s shut ways.throws begun_extends.handlers throws) (since_start a)
            (λ v source1 store1 notes1 answers1 t1 u1 is. goes_on s3 (forin_end f span) (new_block i block.Loop) c (block_id i)
            ((block_id i, X) ∷ (block_id f, X) ∷ []) store1 notes1 answers1 _ refl met.init_open
            (again v (suc (length answers1)) source1 store1 (noted (noted notes1 (block_id i) X) (block_id f) X) answers1
            (begins v source1 store1 notes1 answers1 t1 is) (omega arith)))
          where
            X : Note
            X = Enumerates (block_id f)

            met : IsRoundsIn s s2 s3 s5 l label (forin_end f span) test span part refl c
            met = rounds_in s s2 s3 s5 l label (forin_end f span) test span part refl gr (extends_then step_extends gp) c cover

            cover_n : IsContainedIn sn c
            cover_n = contained_before gp met.behind

            key_free : Nobody c.ident key_id
            key_free = value_free si (values.NextPropertyOf collection) (Some left) c cover_n (right_side.sound sound)

            key_made : key_id < length sn.env.identifiers
            key_made = value_made si (values.NextPropertyOf collection) (Some left)

            collection_free : Nobody c.ident collection.identifier.0
            collection_free = rr.free c met.right (begun_extends.sound sound)

            collection_made : collection.identifier.0 < key_id
            collection_made = rr.made

            collection_late : length s2.env.identifiers ≤ collection.identifier.0
            collection_late = rr.fresh

            -- The rounds over the keys of this object.
            Q : Value → OfPoints
            Q v source1 store1 notes1 answers1 =
                IsKeyRound c R store notes answers f i collection.identifier.0 v source1 store1 notes1 answers1

            keeps : (v : Value)
                → IsKept c (Q v) R store notes answers (between s0 s2) (between sn s5) (between finished finished)
                (values.NextPropertyOf collection) key_id i f (next_key v)
            keeps v = record {
              since = λ source1 store1 notes1 answers1 q. q.since;
              body = λ source1 store1 notes1 answers1 q source2 store2 notes2 answers2 u.
                  key_round_then q body_inside u collection_free (inr collection_late) (inl (omega arith)) (inl (omega arith));
              head = λ source1 store1 notes1 answers1 q source2 store2 notes2 answers2 u.
                  key_round_then q head_inside u collection_free (inl (omega (arith, collection_made, key_made))) (inl below_i) (inl below_f);
              answer = λ source1 store1 notes1 answers1 q source2 store2 notes2 answers2 u.
                  key_round_then q whole_inside u collection_free
                  (inl (omega (arith, collection_made, key_made, gp.identifiers)))
                  (inl (omega (arith, below_i, gp.blocks))) (inl (omega (arith, below_f, gp.blocks)));
              takes = λ source1 store1 notes1 answers1 q y. record {
                since = since_set key_id y key_free (omega (arith, right_side.identifiers))
                    (omega (arith, key_made, gp.identifiers)) q.since;
                has_collection = (let ne : collection.identifier.0 ≡ key_id → ⊥ = λ e. omega (arith, e, collection_made) in set_other store1 key_id collection.identifier.0 y ne) ∙ q.has_collection;
                at_init = q.at_init;
                at_behind = q.at_behind;
              };
              asks = λ source1 store1 notes1 answers1 q. ap (λ (w : Value). Steps (next_key w) key_id) q.has_collection;
              exits = λ source1 store1 notes1 answers1 q. ap exit_at q.at_init;
              straight = λ source1 store1 notes1 answers1 q. ap choice_at q.at_behind;
            }
              where
                below_i : i < sn.env.next_block
                below_i = omega (arith, gb.blocks, gr.blocks, step_extends.blocks)

                below_f : f < sn.env.next_block
                below_f = omega (arith, gb.blocks, gr.blocks, step_extends.blocks)

                whole_inside : Inside R (between finished finished)
                whole_inside = record {
                  identifier = omega (arith, right_side.identifiers, step_extends.identifiers, gp.identifiers);
                  identifiers = omega arith;
                  block = omega (arith, right_side.blocks, step_extends.blocks, gp.blocks);
                  blocks = omega arith;
                }

            -- At most n rounds, from the init.
            again : (v : Value) (n : ℕ) (source6 store6 : Store) (notes6 : Notes) (answers6 : List Answer)
                → Q v source6 store6 notes6 answers6 → length answers6 < n
                → TracesAt c i 0 store6 notes6 answers6 (rounds world n label (next_key v) dp db ways normal source6 answers6)
            again v =
                rounds_again s s2 si s5 l label (values.NextPropertyOf collection) test span left part (omega arith) gb right_side
                (extends_then gr opened_extends) gp world dp db rb rp c cover sound shares ways normal store notes answers throws jumps
                onward (next_key v) (Q v) (keeps v) (λ n next. next)

            begins : (v : Value) (source1 store1 : Store) (notes1 : Notes) (answers1 : List Answer)
                → Since c R store notes answers source1 store1 notes1 answers1 → store1 collection.identifier.0 ≡ v
                → Q v source1 store1 (noted (noted notes1 (block_id i) X) (block_id f) X) answers1
            begins v source1 store1 notes1 answers1 t1 is = record {
              since =
                  since_noted (block_id f) X (omega arith) (omega (arith, right_side.blocks, gb.blocks, gr.blocks, step_extends.blocks, gp.blocks))
                  (since_noted (block_id i) X (omega arith) (omega (arith, gb.blocks, gr.blocks, step_extends.blocks, gp.blocks)) t1);
              has_collection = is;
              at_init =
                  let ne : i ≡ f → ⊥ = λ e. omega (arith, e) in
                  noted_other (noted notes1 (block_id i) X) (block_id f) i X ne ∙ noted_same notes1 (block_id i) X;
              at_behind = noted_same (noted notes1 (block_id i) X) (block_id f) X;
            }
