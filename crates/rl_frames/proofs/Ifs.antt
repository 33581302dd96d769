-- The runs of an `if` statement.
use Rattle.std.proofs.Common.{◌≡◌, ℕ, ◌+◌, ◌<◌, ◌≤◌, List, length, refl, sym, subst, arith}
use Rattle.rl_builder.specs.Builder.{innermost, new_block, reserved}
use Rattle.rl_builder.specs.declared.blocks.WipBlock.{WipBlock}
use Rattle.rl_frames.proofs.Common.{Code, Extends, IsContainedIn, Place, Span, State}
use Rattle.rl_frames.specs.Meanings.{chosen}
use Rattle.rl_frames.specs.Parts.{if_begun, if_end, if_finished}
use Rattle.rl_hir.specs.declared.function.BlockKind.TheVariants as block
use Rattle.rl_hir.specs.declared.terminal.GotoVariant.TheVariants as gotos
use Rattle.rl_machine.specs.declared.trace.Answer.{Answer}
use Rattle.rl_machine.specs.declared.trace.Value.{Value}
use Rattle.rl_machine.specs.Ends.{Notes, Passes, noted}
use Rattle.rl_machine.specs.Machine.{Ends, at, changer}
use Rattle.rl_machine.specs.Traces.{Cont, Store, World, set_open, tested, truthy}
use Rattle.rl_model.specs.Actions.{Action, Ways, done}
use Rattle.rl_runs.proofs.Events.{tests_come}
use Rattle.rl_runs.proofs.Holes.{aside, contained_hole, hole_goes, same_jumps, same_throws, use_expression, use_statement}
use Rattle.rl_runs.proofs.Moves.{contained_before, extends_completed, extends_reserved, extends_then, inside, terminal_met}
use Rattle.rl_runs.proofs.Steps.{inside_refl, since_noted, since_start, since_then, steps_on}
use Rattle.rl_runs.specs.Continuations.{Agrees, Eventually, Follows, Jumps, SharesVariables, Since, Throws, TracesAt, TracesFrom}
use Rattle.rl_runs.specs.Continuations.{between}
use Rattle.rl_runs.specs.Facts.{HasSoundNames}
use Rattle.rl_runs.specs.Moves.{block_id, goto, last_hole, next_hole}
use Rattle.rl_runs.specs.Simulation.{RunsExpression, RunsStatement}

-- The test, its two ends, and the blocks behind them.
module _ (world : World) (s s4 : State) (dt : Action Value) (dc da : Action (Unit {0})) (behind consequent alternate : ℕ) (test : Place)
    (span : Span) (closed : State)
    (g : Extends s closed) (gt : Extends closed s4) (position : closed.current ≡ s.current)
    (rt : RunsExpression world dt closed s4 test.identifier.0) (fresh : s.env.next_block ≤ behind)
    (made : behind < closed.env.next_block) where
  abbrev pub last : State
  last = if_finished s4 behind consequent alternate test span

  pub if_last : Extends s4 last
  if_last = extends_completed s4 (if_end behind consequent alternate test span) (new_block behind block.Block) (λ none. refl)

  -- The runs of each branch from its block.
  abbrev pub Branches : Code → ℕ → Action (Unit {0}) → Type 0
  Branches c id d =
      (ways : Ways) (normal : Cont) (source store : Store) (notes : Notes) (answers : List Answer) (source1 store1 : Store)
      (notes1 : Notes) (answers1 : List Answer)
      → Throws c (between s last) store notes answers (innermost s.handlers) ways.throws
      → Jumps c (between s last) store notes answers s.scopes ways.breaks ways.continues
      → Follows c (between s last) store notes answers behind 0 normal
      → Since c (between s last) store notes answers source1 store1 notes1 answers1
      → TracesAt c id 0 store1 notes1 answers1 (d ways (λ end. normal) source1 answers1)

  pub if_tests : ((c : Code) → IsContainedIn last c → HasSoundNames s → SharesVariables c.ident world c.world → Branches c consequent dc)
      → ((c : Code) → IsContainedIn last c → HasSoundNames s → SharesVariables c.ident world c.world → Branches c alternate da)
      → RunsStatement world (chosen world dt dc da) s last
  if_tests first second = record { runs = run_it }
    where
      run_it : (c : Code) → IsContainedIn last c → HasSoundNames s → SharesVariables c.ident world c.world
          → (ways : Ways) (normal : Cont) (source store : Store) (notes : Notes) (answers : List Answer) → Agrees c.ident source store
          → Throws c (between s last) store notes answers (innermost s.handlers) ways.throws
          → Jumps c (between s last) store notes answers s.scopes ways.breaks ways.continues
          → Follows c (between s last) store notes answers behind 0 normal
          → TracesFrom c s store notes answers (chosen world dt dc da ways (λ end. normal) source answers)
      run_it c cover sound shares ways normal source store notes answers a throws jumps onward =
          subst (λ (w : WipBlock). TracesAt c w.id.0 (length w.instructions) store notes answers
          (chosen world dt dc da ways (λ end. normal) source answers)) position
          (use_expression ways (λ v after rest. tested (set_open world.opens) (truthy v) after rest (dc ways (λ end. normal))
          (da ways (λ end. normal))) rt (contained_before if_last cover) (g.sound sound) shares (inside g if_last)
          (same_throws c (between s last) store notes answers s closed ways.throws g.handlers throws) (since_start a)
          (λ v source1 store1 notes1 answers1 t u is.
          steps_on c s4.current.id.0 (length s4.current.instructions) store1 notes1 answers1
          (Ends (if_end behind consequent alternate test span)) _
          (terminal_met s4 (if_end behind consequent alternate test span) (new_block behind block.Block) c cover)
          (subst (λ (w : Value). Eventually c
          (λ stuck next. tested (changer c) (truthy w) store1 answers1
          (at next (block_id consequent) (noted notes1 (block_id behind) Passes))
          (at next (block_id alternate) (noted notes1 (block_id behind) Passes)))
          (tested (set_open world.opens) (truthy v) source1 answers1 (dc ways (λ end. normal)) (da ways (λ end. normal)))) (sym is)
          (tests_come c world cover.names.one shares (truthy v) answers1
          (λ next. at next (block_id consequent) (noted notes1 (block_id behind) Passes))
          (λ next. at next (block_id alternate) (noted notes1 (block_id behind) Passes)) (dc ways (λ end. normal))
          (da ways (λ end. normal)) t.agrees
          (λ source2 store2 rest after. first c cover sound shares ways normal source store notes answers source2 store2 _ rest throws jumps onward (since_noted (block_id behind) Passes fresh (omega (arith, made, gt.blocks)) (since_then (inside_refl (between s last)) t.later (after.since (between s last)))))
          (λ source2 store2 rest after. second c cover sound shares ways normal source store notes answers source2 store2 _ rest throws jumps onward (since_noted (block_id behind) Passes fresh (omega (arith, made, gt.blocks)) (since_then (inside_refl (between s last)) t.later (after.since (between s last)))))))))

-- Two branches.
module _ (s s2 s3 s4 : State) (test : Place) (span part other : Span) where
  abbrev pub n : ℕ
  n = s.env.next_block

  abbrev pub opened : State
  opened = next_hole s2 n gotos.Break part block.Block

  abbrev pub closed : State
  closed = last_hole s3 n gotos.Break other s.current

  abbrev pub finished : State
  finished = if_finished s4 n (n + 1) s2.env.next_block test span

  module _ (gc : Extends (if_begun s) s2) (ga : Extends opened s3) (gt : Extends closed s4) where
    pub open_extends : Extends s2 opened
    open_extends =
        extends_then (extends_reserved s2)
        (extends_completed (reserved s2) (goto n gotos.Break part) (new_block s2.env.next_block block.Block) (λ none. refl))

    pub close_extends : Extends s closed
    close_extends =
        extends_then (extends_then (extends_reserved s) (extends_reserved (reserved s)))
        (aside (reserved (reserved s)) s3 (new_block (n + 1) block.Block) s.scopes s3.scopes s.handlers s3.handlers
        (goto n gotos.Break other) within.scopes within.handlers within)
      where
        within : Extends (if_begun s) s3
        within = extends_then gc (extends_then open_extends ga)

    pub if_extends : Extends s finished
    if_extends =
        extends_then close_extends
        (extends_then gt (extends_completed s4 (if_end n (n + 1) s2.env.next_block test span) (new_block n block.Block) (λ none. refl)))

    pub if_runs : (world : World) (dt : Action Value) (dc da : Action (Unit {0})) → RunsStatement world dc (if_begun s) s2
        → RunsStatement world da opened s3 → RunsExpression world dt closed s4 test.identifier.0
        → RunsStatement world (chosen world dt dc da) s finished
    if_runs world dt dc da rc ra rt =
        if_tests world s s4 dt dc da n (n + 1) s2.env.next_block test span closed close_extends gt refl rt (omega arith)
        (omega (arith, gc.blocks, ga.blocks)) consequent alternate
      where
        open_handlers : opened.handlers ≡ s.handlers
        open_handlers = gc.handlers

        open_scopes : opened.scopes ≡ s.scopes
        open_scopes = gc.scopes

        contained_closed : (c : Code) → IsContainedIn finished c → IsContainedIn closed c
        contained_closed c cover =
            contained_before gt
            (contained_before (extends_completed s4 (if_end n (n + 1) s2.env.next_block test span) (new_block n block.Block)
            (λ none. refl)) cover)

        contained_third : (c : Code) → IsContainedIn finished c → IsContainedIn s3 c
        contained_third c cover = contained_hole s3 n gotos.Break other s.current c (contained_closed c cover)

        contained_opened : (c : Code) → IsContainedIn finished c → IsContainedIn opened c
        contained_opened c cover = contained_before ga (contained_third c cover)

        consequent : (c : Code) → IsContainedIn finished c → HasSoundNames s → SharesVariables c.ident world c.world
            → (ways : Ways) (normal : Cont) (source store : Store) (notes : Notes) (answers : List Answer) (source1 store1 : Store)
            (notes1 : Notes) (answers1 : List Answer)
            → Throws c (between s finished) store notes answers (innermost s.handlers) ways.throws
            → Jumps c (between s finished) store notes answers s.scopes ways.breaks ways.continues
            → Follows c (between s finished) store notes answers n 0 normal
            → Since c (between s finished) store notes answers source1 store1 notes1 answers1
            → TracesAt c (n + 1) 0 store1 notes1 answers1 (dc ways (λ end. normal) source1 answers1)
        consequent c cover sound shares ways normal source store notes answers source1 store1 notes1 answers1 throws jumps onward t =
            use_statement ways normal rc (contained_before open_extends (contained_opened c cover)) sound shares
            (record {
              identifier = omega arith;
              identifiers = omega
                  (arith, ga.identifiers, gt.identifiers);
              block = omega arith;
              blocks = omega (arith, ga.blocks, gt.blocks);
            }) throws jumps t
            (λ source2 store2 notes2 answers2 t2 u2. hole_goes (reserved s2) n gotos.Break part
            (new_block s2.env.next_block block.Block) c store2 notes2 answers2 _ (contained_opened c cover)
            (onward.goes source2 store2 notes2 answers2 t2))

        alternate : (c : Code) → IsContainedIn finished c → HasSoundNames s → SharesVariables c.ident world c.world
            → (ways : Ways) (normal : Cont) (source store : Store) (notes : Notes) (answers : List Answer) (source1 store1 : Store)
            (notes1 : Notes) (answers1 : List Answer)
            → Throws c (between s finished) store notes answers (innermost s.handlers) ways.throws
            → Jumps c (between s finished) store notes answers s.scopes ways.breaks ways.continues
            → Follows c (between s finished) store notes answers n 0 normal
            → Since c (between s finished) store notes answers source1 store1 notes1 answers1
            → TracesAt c s2.env.next_block 0 store1 notes1 answers1 (da ways (λ end. normal) source1 answers1)
        alternate c cover sound shares ways normal source store notes answers source1 store1 notes1 answers1 throws jumps onward t =
            use_statement ways normal ra (contained_third c cover) (open_extends.sound (gc.sound sound)) shares
            (record {
              identifier = omega (arith, gc.identifiers);
              identifiers = omega (arith, gt.identifiers);
              block = omega
                  (arith, gc.blocks);
              blocks = omega (arith, gt.blocks);
            })
            (same_throws c (between s finished) store notes answers s opened ways.throws open_handlers throws)
            (same_jumps c (between s finished) store notes answers s opened ways.breaks ways.continues open_scopes jumps) t
            (λ source2 store2 notes2 answers2 t2 u2. hole_goes s3 n gotos.Break other s.current c store2 notes2 answers2 _
            (contained_closed c cover) (onward.goes source2 store2 notes2 answers2 t2))

-- A single branch: the block behind the statement stands for the other.
module _ (s s2 s4 : State) (test : Place) (span part : Span) where
  abbrev pub m : ℕ
  m = s.env.next_block

  abbrev pub shut : State
  shut = last_hole s2 m gotos.Break part s.current

  abbrev pub ended : State
  ended = if_finished s4 m (m + 1) m test span

  module _ (gc : Extends (if_begun s) s2) (gt : Extends shut s4) where
    shut_extends : Extends s shut
    shut_extends =
        extends_then (extends_then (extends_reserved s) (extends_reserved (reserved s)))
        (aside (reserved (reserved s)) s2 (new_block (m + 1) block.Block) s.scopes s2.scopes s.handlers s2.handlers
        (goto m gotos.Break part) gc.scopes gc.handlers gc)

    pub if_then_extends : Extends s ended
    if_then_extends =
        extends_then shut_extends
        (extends_then gt (extends_completed s4 (if_end m (m + 1) m test span) (new_block m block.Block) (λ none. refl)))

    pub if_then_runs : (world : World) (dt : Action Value) (dc : Action (Unit {0})) → RunsStatement world dc (if_begun s) s2
        → RunsExpression world dt shut s4 test.identifier.0 → RunsStatement world (chosen world dt dc done) s ended
    if_then_runs world dt dc rc rt =
        if_tests world s s4 dt dc done m (m + 1) m test span shut shut_extends gt refl rt (omega arith)
        (omega (arith, gc.blocks)) consequent
        (λ c cover sound shares ways normal source store notes answers source1 store1 notes1 answers1 throws jumps onward t. onward.goes source1 store1 notes1 answers1 t)
      where
        contained_shut : (c : Code) → IsContainedIn ended c → IsContainedIn shut c
        contained_shut c cover =
            contained_before gt
            (contained_before (extends_completed s4 (if_end m (m + 1) m test span) (new_block m block.Block) (λ none. refl)) cover)

        consequent : (c : Code) → IsContainedIn ended c → HasSoundNames s → SharesVariables c.ident world c.world
            → (ways : Ways) (normal : Cont) (source store : Store) (notes : Notes) (answers : List Answer) (source1 store1 : Store)
            (notes1 : Notes) (answers1 : List Answer)
            → Throws c (between s ended) store notes answers (innermost s.handlers) ways.throws
            → Jumps c (between s ended) store notes answers s.scopes ways.breaks ways.continues
            → Follows c (between s ended) store notes answers m 0 normal
            → Since c (between s ended) store notes answers source1 store1 notes1 answers1
            → TracesAt c (m + 1) 0 store1 notes1 answers1 (dc ways (λ end. normal) source1 answers1)
        consequent c cover sound shares ways normal source store notes answers source1 store1 notes1 answers1 throws jumps onward t =
            use_statement ways normal rc (contained_hole s2 m gotos.Break part s.current c (contained_shut c cover)) sound shares
            (record {
              identifier = omega arith;
              identifiers = omega (arith, gt.identifiers);
              block = omega arith;
              blocks = omega
                  (arith, gt.blocks);
            }) throws jumps t
            (λ source2 store2 notes2 answers2 t2 u2. hole_goes s2 m gotos.Break part s.current c store2 notes2 answers2 _
            (contained_shut c cover) (onward.goes source2 store2 notes2 answers2 t2))
