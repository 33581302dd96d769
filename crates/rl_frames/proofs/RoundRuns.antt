-- The rounds of a loop over keys or values, as its graph runs them: from the step that asks for the next one.
use Rattle.std.proofs.Common.{◌≡◌, ℕ, zero, suc, ◌+◌, ◌-◌, ◌<◌, ◌≤◌, List, length, take, Option, Some, refl, sym, ◌∙◌, subst, arith}
use Rattle.rl_builder.specs.Builder.{innermost, new_block, with_temporary}
use Rattle.rl_builder.specs.Temporaries.{temporary, unordered, with_value}
use Rattle.rl_frames.proofs.Common.{BlockId, Code, Extends, IsContainedIn, Label, Place, Span, State}
use Rattle.rl_frames.proofs.RoundStates.{numbered_extends, rounds_begun, rounds_branch}
use Rattle.rl_frames.specs.Meanings.{rounds}
use Rattle.rl_frames.specs.Parts.{rounds_body, rounds_finished}
use Rattle.rl_hir.specs.declared.function.BlockKind.TheVariants as block
use Rattle.rl_hir.specs.declared.instruction.Instruction.{Instruction}
use Rattle.rl_hir.specs.declared.instruction.InstructionValue.{InstructionValue}
use Rattle.rl_hir.specs.declared.terminal.GotoVariant.TheVariants as gotos
use Rattle.rl_machine.specs.Acts.{Act, Steps, act}
use Rattle.rl_machine.specs.declared.trace.Answer.{Answer}
use Rattle.rl_machine.specs.declared.trace.Event.{Event}
use Rattle.rl_machine.specs.declared.trace.Value.{Value}
use Rattle.rl_machine.specs.Ends.{Choice, Notes, Straight}
use Rattle.rl_machine.specs.Machine.{Ends, Runs, branched, caught, choice_at, executed, exit_at, step_to}
use Rattle.rl_machine.specs.Traces.{Cont, Store, World, set, waiting}
use Rattle.rl_model.specs.Actions.{Action, Ways}
use Rattle.rl_runs.proofs.Events.{steps_come}
use Rattle.rl_runs.proofs.Holes.{contained_hole, contained_stacked, hole_goes, same_throws, use_statement}
use Rattle.rl_runs.proofs.Jumping.{jumps_in_loop}
use Rattle.rl_runs.proofs.Moves.{catches, contained_before, extends_completed, extends_value, goes_behind, instruction_met}
use Rattle.rl_runs.proofs.Moves.{terminal_met, thrown_comes, value_free, value_made}
use Rattle.rl_runs.proofs.Steps.{follows_then, inside_refl, jumps_then, set_same, since_start, since_then, steps_on, throws_then}
use Rattle.rl_runs.specs.Continuations.{Eventually, Follows, Inside, IsBehind, Jumps, Range, SharesVariables, Since, Throws}
use Rattle.rl_runs.specs.Continuations.{TracesAt, TracesFrom, between}
use Rattle.rl_runs.specs.Exits.{loop_ways, switch_ways}
use Rattle.rl_runs.specs.Facts.{HasSoundNames}
use Rattle.rl_runs.specs.Moves.{block_id, without_scope}
use Rattle.rl_runs.specs.Simulation.{RunsPattern, RunsStatement}

-- A property of points of a run.
abbrev pub OfPoints : Type 1
OfPoints = Store → Store → Notes → List Answer → Type 0

-- The property holds at the begin of each round: the step asks for the event, its end leads behind the loop, and the branch goes straight
-- on. The body, the assignment and answers keep it.
pub record IsKept (c : Code) (q : OfPoints) (r : Range) (store : Store) (notes : Notes) (answers : List Answer)
    (in_body in_head whole : Range) (value : InstructionValue) (result at behind : ℕ) (event : Event) : Type 0 where
  pub since : (source1 store1 : Store) (notes1 : Notes) (answers1 : List Answer) → q source1 store1 notes1 answers1
      → Since c r store notes answers source1 store1 notes1 answers1
  pub body : (source1 store1 : Store) (notes1 : Notes) (answers1 : List Answer) → q source1 store1 notes1 answers1
      → (source2 store2 : Store) (notes2 : Notes) (answers2 : List Answer)
      → Since c in_body store1 notes1 answers1 source2 store2 notes2 answers2 → q source2 store2 notes2 answers2
  pub head : (source1 store1 : Store) (notes1 : Notes) (answers1 : List Answer) → q source1 store1 notes1 answers1
      → (source2 store2 : Store) (notes2 : Notes) (answers2 : List Answer)
      → Since c in_head store1 notes1 answers1 source2 store2 notes2 answers2 → q source2 store2 notes2 answers2
  pub answer : (source1 store1 : Store) (notes1 : Notes) (answers1 : List Answer) → q source1 store1 notes1 answers1
      → (source2 store2 : Store) (notes2 : Notes) (answers2 : List Answer)
      → Since c whole store1 notes1 answers1 source2 store2 notes2 answers2 → q source2 store2 notes2 answers2
  pub takes : (source1 store1 : Store) (notes1 : Notes) (answers1 : List Answer) → q source1 store1 notes1 answers1 → (v : Value)
      → q source1 (set store1 result v) notes1 answers1
  pub asks : (source1 store1 : Store) (notes1 : Notes) (answers1 : List Answer) → q source1 store1 notes1 answers1
      → act result value store1 ≡ Steps event result
  pub exits : (source1 store1 : Store) (notes1 : Notes) (answers1 : List Answer) → q source1 store1 notes1 answers1
      → exit_at (notes1 at) ≡ Some (block_id behind)
  pub straight : (source1 store1 : Store) (notes1 : Notes) (answers1 : List Answer) → q source1 store1 notes1 answers1
      → choice_at (notes1 behind) ≡ Straight

-- The body has the block `l` and ends at `s2`. The step is the instruction behind `x`, and the assignment ends at `s5`.
module _ (s s2 x s5 : State) (l : ℕ) (label : Label) (value : InstructionValue) (test : Place) (span left part : Span)
    (low : s.env.next_block + 1 + 1 ≤ l) (gb : Extends (rounds_begun s l label) s2)
    (gs : Extends s x) (gx : Extends (rounds_body s2 s.env.next_block s.current part) x)
    (gp : Extends (with_value x value (Some left)) s5) where
  abbrev pub h : ℕ
  h = s.env.next_block

  abbrev pub begun : State
  begun = rounds_begun s l label

  abbrev pub shut : State
  shut = rounds_body s2 h s.current part

  abbrev pub sn : State
  sn = with_value x value (Some left)

  abbrev pub finished : State
  finished = rounds_finished s5 h l span test

  abbrev pub R : Range
  R = between s finished

  abbrev pub next_id : ℕ
  next_id = length x.env.identifiers

  abbrev pub place : ℕ
  place = length x.current.instructions

  abbrev pub steps : Instruction
  steps = unordered (temporary x (Some left)) value (Some left)

  next_extends : Extends x sn
  next_extends = extends_value x value (Some left)

  last_extends : Extends s5 finished
  last_extends = extends_completed s5 (rounds_branch h l test span) (new_block h block.Block) (λ none. refl)

  pub round_body_part : Inside (between s (rounds_finished s5 s.env.next_block l span test)) (between (rounds_begun s l label) s2)
  round_body_part = record {
    identifier = omega arith;
    identifiers = omega (arith, gx.identifiers, next_extends.identifiers, gp.identifiers);
    block = omega (arith, low);
    blocks = omega (arith, gx.blocks, next_extends.blocks, gp.blocks);
  }

  pub round_head_part : Inside (between s (rounds_finished s5 s.env.next_block l span test)) (between (with_value x value (Some left)) s5)
  round_head_part = record {
    identifier = omega (arith, gs.identifiers, next_extends.identifiers);
    identifiers = omega arith;
    block = omega (arith, gs.blocks, next_extends.blocks);
    blocks = omega arith;
  }

  -- A run of the loop begins at `source`, in code that contains it; the property `q` holds at the begin of each round.
  module _ (world : World) (dp : Value → Action (Unit {0})) (db : Action (Unit {0}))
      (rb : RunsStatement world db (rounds_begun s l label) s2)
      (rp : RunsPattern world dp (with_value x value (Some left)) s5 (length x.env.identifiers))
      (c : Code) (cover : IsContainedIn (rounds_finished s5 s.env.next_block l span test) c) (sound : HasSoundNames s)
      (shares : SharesVariables c.ident world c.world) (ways : Ways) (normal : Cont) (store : Store) (notes : Notes)
      (answers : List Answer)
      (throws : Throws c (between s (rounds_finished s5 s.env.next_block l span test)) store notes answers (innermost s.handlers)
      ways.throws)
      (jumps : Jumps c (between s (rounds_finished s5 s.env.next_block l span test)) store notes answers s.scopes ways.breaks
      ways.continues)
      (onward : Follows c (between s (rounds_finished s5 s.env.next_block l span test)) store notes answers s.env.next_block 0 normal)
      (event : Event) (q : OfPoints)
      (kept : IsKept c q (between s (rounds_finished s5 s.env.next_block l span test)) store notes answers
      (between (rounds_begun s l label) s2)
      (between (with_value x value (Some left)) s5)
      (between (rounds_finished s5 s.env.next_block l span test) (rounds_finished s5 s.env.next_block l span test)) value
      (length x.env.identifiers) x.current.id.0 s.env.next_block event) where
    cover5 : IsContainedIn s5 c
    cover5 = contained_before last_extends cover

    cover_n : IsContainedIn sn c
    cover_n = contained_before gp cover5

    cover_s : IsContainedIn shut c
    cover_s = contained_before gx (contained_before next_extends cover_n)

    cover2 : IsContainedIn s2 c
    cover2 =
        contained_stacked s2 (take (length s2.scopes - 1) s2.scopes) s2.handlers c (λ none. none)
        (contained_hole (without_scope s2) (h + 1) gotos.Continue part s.current c cover_s)

    abbrev pub left_rounds : ℕ → Cont
    left_rounds n = rounds world n label event dp db ways normal

    abbrev pub in_turn : ℕ → Ways
    in_turn n = loop_ways label (left_rounds n) normal ways

    -- The ways that the loop leaves to the assignment.
    abbrev pub in_assignment : Ways
    in_assignment = switch_ways label normal (λ after rest. waiting) ways

    -- With fewer than `n` answers, the run from index `at` of a block has the traces of at most `n` rounds.
    abbrev pub Comes : (id at n : ℕ) → Type 0
    Comes id at n =
        (source1 store1 : Store) (notes1 : Notes) (answers1 : List Answer) → q source1 store1 notes1 answers1 → length answers1 < n
        → TracesAt c id at store1 notes1 answers1 (left_rounds n source1 answers1)

    -- The body, and the rounds behind it.
    round : (n : ℕ) → Comes (s.env.next_block + 1) 0 n → (source1 store1 : Store) (notes1 : Notes) (answers1 : List Answer)
        → q source1 store1 notes1 answers1 → length answers1 < n
        → TracesAt c l 0 store1 notes1 answers1 (db (in_turn n) (λ end. left_rounds n) source1 answers1)
    round n next source1 store1 notes1 answers1 at less =
        use_statement (in_turn n) (left_rounds n) rb cover2
        ((numbered_extends s l (omega (arith, low))).sound sound) shares (inside_refl (between begun s2))
        (throws_then (innermost s.handlers) ways.throws round_body_part (kept.since source1 store1 notes1 answers1 at).later throws) jumps2
        (since_start (kept.since source1 store1 notes1 answers1 at).agrees)
        (λ source2 store2 notes2 answers2 u w. hole_goes
        (without_scope s2) (h + 1) gotos.Continue part s.current c store2 notes2 answers2 _ cover_s
        (next source2 store2 notes2 answers2 (kept.body source1 store1 notes1 answers1 at source2 store2 notes2 answers2 u)
        (omega (arith, u.later.fewer, less))))
      where
        jumps2 : Jumps c (between begun s2) store1 notes1 answers1 begun.scopes (in_turn n).breaks (in_turn n).continues
        jumps2 =
            jumps_in_loop label (block_id (h + 1)) (block_id h) (left_rounds n) normal ways s.scopes
            (record {
              goes = λ source2 store2 notes2 answers2 u. next source2 store2 notes2 answers2
                  (kept.body source1 store1 notes1 answers1 at source2 store2 notes2 answers2 u)
                  (omega (arith, u.later.fewer, less));
            })
            (follows_then round_body_part (kept.since source1 store1 notes1 answers1 at).later onward)
            (jumps_then round_body_part (kept.since source1 store1 notes1 answers1 at).later jumps)

    -- The assignment of the next value, and the body.
    taken : (n : ℕ) → Comes (s.env.next_block + 1) 0 n → (y : Value) (source1 store1 : Store) (notes1 : Notes) (answers1 : List Answer)
        → q source1 store1 notes1 answers1 → length answers1 < n
        → TracesFrom c (with_value x value (Some left)) (set store1 (length x.env.identifiers) y) notes1 answers1
        (dp y in_assignment (λ end. db (in_turn n) (λ end. left_rounds n)) source1 answers1)
    taken n next y source1 store1 notes1 answers1 at less =
        rp.runs c cover5 (next_extends.sound (gs.sound sound)) shares (value_free x value (Some left) c cover_n (gs.sound sound))
        (value_made x value (Some left)) in_assignment (db (in_turn n) (λ end. left_rounds n)) y source1
        (set store1 next_id y) notes1 answers1 (kept.since source1 (set store1 next_id y) notes1 answers1 now).agrees
        (set_same store1 next_id y)
        (throws_then (innermost sn.handlers) ways.throws round_head_part
        (kept.since source1 (set store1 next_id y) notes1 answers1 now).later
        (same_throws c R store notes answers s sn ways.throws (next_extends.handlers ∙ gs.handlers) throws))
        (record {
          goes = λ source2 store2 notes2 answers2 u.
              let then_at : q source2 store2 notes2 answers2 = kept.head source1 (set store1 next_id y) notes1 answers1 now source2 store2 notes2 answers2 u in
              steps_on c s5.current.id.0 (length s5.current.instructions) store2 notes2 answers2
              (Ends (rounds_branch h l test span)) _ (terminal_met s5 (rounds_branch h l test span) (new_block h block.Block) c cover)
              (subst (λ (k : Choice). Eventually c
              (λ stuck next1. branched stuck c k test.identifier.0 (block_id l) (block_id h) next1 next1 notes2 store2 answers2)
              (db (in_turn n) (λ end. left_rounds n) source2 answers2)) (sym (kept.straight source2 store2 notes2 answers2 then_at))
              (round n next source2 store2 notes2 answers2 then_at (omega (arith, u.later.fewer, less))));
        })
      where
        now : q source1 (set store1 next_id y) notes1 answers1
        now = kept.takes source1 store1 notes1 answers1 at y

    -- At most `n` rounds, from the step, if those from the init go there.
    pub rounds_again : ((n : ℕ) → Comes x.current.id.0 (length x.current.instructions) n → Comes (s.env.next_block + 1) 0 n) → (n : ℕ)
        → Comes x.current.id.0 (length x.current.instructions) n
    rounds_again onto zero source1 store1 notes1 answers1 at less = absurd (omega (arith, less))
    rounds_again onto (suc n) source1 store1 notes1 answers1 at less =
        steps_on c x.current.id.0 place store1 notes1 answers1 (Runs steps) _ (instruction_met (with_temporary x (Some left)) steps c cover_n)
        (subst (λ (a : Act). Eventually c
        (λ stuck next. executed stuck c a next next x.current.id.0 place store1 notes1 answers1)
        (left_rounds (suc n) source1 answers1)) (sym (kept.asks source1 store1 notes1 answers1 at))
        (subst (λ (o : Option BlockId). Eventually c
        (λ stuck next. step_to stuck c o event next_id next x.current.id.0 place store1 notes1 answers1)
        (left_rounds (suc n) source1 answers1)) (sym (kept.exits source1 store1 notes1 answers1 at))
        (steps_come c world cover.names.one shares event answers1
        (λ next y later rest. next x.current.id.0 (place + 1) (set later next_id y) notes1 rest)
        (λ next later rest. next h 0 later notes1 rest)
        (λ stuck next. caught stuck (c.catcher x.current.id.0) notes1 next)
        (λ y. dp y in_assignment (λ end. db (in_turn n) (λ end. left_rounds n))) normal ways.throws
        (kept.since source1 store1 notes1 answers1 at).agrees
        (λ y source2 store2 rest after. goes_behind (innermost x.handlers) (with_temporary x (Some left)) steps c
        (set store2 next_id y) notes1 rest _ refl cover_n
        (taken n (onto n (rounds_again onto n)) y source2 store2 notes1 rest (behind source2 store2 rest after) (omega (arith, after.fewer, less))))
        (λ source2 store2 rest after. onward.goes source2 store2 notes1 rest (since2 source2 store2 rest after))
        (λ w source2 store2 rest after. subst
        (λ (o : Option ℕ). Eventually c (λ stuck next. caught stuck o notes1 next w store2 rest) (ways.throws w source2 rest))
        (sym (catches (innermost x.handlers) (with_temporary x (Some left)) steps c refl cover_n))
        (thrown_comes (innermost x.handlers) c R store notes answers ways.throws w source2 store2 notes1 rest
        (same_throws c R store notes answers s x ways.throws gs.handlers throws) (since2 source2 store2 rest after))))))
      where
        since2 : (source2 store2 : Store) (rest : List Answer) → IsBehind c store1 notes1 answers1 source2 store2 rest
            → Since c R store notes answers source2 store2 notes1 rest
        since2 source2 store2 rest after =
            since_then (inside_refl R) (kept.since source1 store1 notes1 answers1 at).later (after.since R)

        -- Behind the answer.
        behind : (source2 store2 : Store) (rest : List Answer) → IsBehind c store1 notes1 answers1 source2 store2 rest
            → q source2 store2 notes1 rest
        behind source2 store2 rest after =
            kept.answer source1 store1 notes1 answers1 at source2 store2 notes1 rest (after.since (between finished finished))
