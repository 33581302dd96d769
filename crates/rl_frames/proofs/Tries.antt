-- The runs of a `try` statement.
use Rattle.std.proofs.Common.{◌≡◌, ℕ, ◌-◌, ◌<◌, inl, List, [], ◌∷◌, length, take, Option, Some, None, refl}
use Rattle.std.proofs.Common.{sym, ap, ◌∙◌, subst, arith}
use Rattle.rl_builder.specs.Builder.{innermost, new_block, reserved}
use Rattle.rl_builder.specs.declared.blocks.WipBlock.{WipBlock}
use Rattle.rl_frames.proofs.Common.{BlockId, Code, Extends, IsContainedIn, Place, Span, State}
use Rattle.rl_frames.specs.Parts.{IsFreshBinding, try_begun, try_bound, try_end, try_finished, try_handler}
use Rattle.rl_hir.specs.declared.function.BlockKind.TheVariants as block
use Rattle.rl_hir.specs.declared.function.Pair.{Pair}
use Rattle.rl_hir.specs.declared.instruction.InstructionKind.TheVariants as variables
use Rattle.rl_hir.specs.declared.instruction.InstructionValue.TheVariants as values
use Rattle.rl_hir.specs.declared.terminal.GotoVariant.TheVariants as gotos
use Rattle.rl_machine.specs.declared.trace.Answer.{Answer}
use Rattle.rl_machine.specs.declared.trace.Trace.{Trace}
use Rattle.rl_machine.specs.declared.trace.Value.{Value}
use Rattle.rl_machine.specs.declared.trace.Value.TheVariants.{Undefined}
use Rattle.rl_machine.specs.Ends.{Catches, Notes, bound, noted}
use Rattle.rl_machine.specs.Machine.{set_where}
use Rattle.rl_machine.specs.Traces.{Cont, Store, ValueCont, World}
use Rattle.rl_model.specs.Actions.{Action, Ways, catching}
use Rattle.rl_runs.proofs.FinalNames.{nobody_fresh}
use Rattle.rl_runs.proofs.Holes.{aside, computes_on, contained_hole, contained_stacked, front_added, hole_goes, last_added, same_jumps}
use Rattle.rl_runs.proofs.Holes.{same_throws, use_statement}
use Rattle.rl_runs.proofs.Moves.{contained_before, extends_completed, extends_refl, extends_reserved, extends_then, extends_value}
use Rattle.rl_runs.proofs.Moves.{goes_on}
use Rattle.rl_runs.proofs.Steps.{inside_refl, jumps_then, noted_other, noted_same, set_same, since_noted, since_set, since_start}
use Rattle.rl_runs.proofs.Steps.{since_then, throws_then}
use Rattle.rl_runs.specs.Continuations.{Agrees, Catching, Follows, Holds, Inside, Jumps, SharesVariables, Since, Throws, TracesAt}
use Rattle.rl_runs.specs.Continuations.{TracesFrom, between}
use Rattle.rl_runs.specs.Facts.{CoversNames, HasSoundNames}
use Rattle.rl_runs.specs.Moves.{block_id, goto, last_hole, without_handler}
use Rattle.rl_runs.specs.Simulation.{RunsHandler, RunsStatement}

-- The declaration of the place does nothing.
bound_extends : (x : State) (binding : Option Place) → Extends x (try_bound x binding)
bound_extends x None = extends_refl x
bound_extends x (Some place) = extends_value x (values.DeclareLocal variables.Catch place) place.span

bound_runs : (x : State) (binding : Option Place) (c : Code) (store : Store) (notes : Notes) (answers : List Answer)
    (t : Trace) → IsContainedIn (try_bound x binding) c
    → TracesFrom c (try_bound x binding) store notes answers t → TracesFrom c x store notes answers t
bound_runs x None c store notes answers t cover rest = rest
bound_runs x (Some place) c store notes answers t cover rest =
    computes_on x (values.DeclareLocal variables.Catch place) place.span c store notes answers t Undefined [] refl cover rest

module _ (z s s2 s4 : State) (binding : Option Place) (span part other : Span) where
  abbrev pub f : ℕ
  f = s.env.next_block

  abbrev pub s1 : State
  s1 = try_bound (reserved s) binding

  abbrev pub hd : ℕ
  hd = s1.env.next_block

  -- In the handler, and behind it.
  abbrev pub s0 : State
  s0 = try_begun s1

  abbrev pub sa : State
  sa = last_hole s2 f gotos.Break part s1.current

  abbrev pub body : ℕ
  body = s2.env.next_block

  -- In the block, and behind it.
  abbrev pub s3 : State
  s3 = try_handler s2 f hd part

  abbrev pub s5 : State
  s5 = last_hole (without_handler s4) f gotos.Try other s1.current

  abbrev pub finished : State
  finished = try_finished s4 f hd body binding span s1.current other

  module _ (gz : Extends z s) (gh : Extends (try_begun (try_bound (reserved s) binding)) s2) (gb : Extends (try_handler s2 s.env.next_block (try_bound (reserved s) binding).env.next_block part) s4) where
    pub one_extends : Extends s s1
    one_extends = extends_then (extends_reserved s) (bound_extends (reserved s) binding)

    handler_extends : Extends (reserved s1) sa
    handler_extends =
        aside (reserved s1) s2 (new_block hd block.Catch) s1.scopes s2.scopes s1.handlers s2.handlers (goto f gotos.Break part)
        gh.scopes gh.handlers gh

    pub first_extends : Extends s1 (reserved sa)
    first_extends = extends_then (extends_reserved s1) (extends_then handler_extends (extends_reserved sa))

    handlers_left : take (length s4.handlers - 1) s4.handlers ≡ sa.handlers
    handlers_left = ap (λ (x : List BlockId). take (length x - 1) x) gb.handlers ∙ front_added sa.handlers (block_id hd)

    pub block_extends : Extends (reserved sa) s5
    block_extends =
        aside (reserved sa) s4 (new_block body block.Block) sa.scopes s4.scopes s3.handlers (take (length s4.handlers - 1) s4.handlers)
        (goto f gotos.Try other) gb.scopes handlers_left gb

    last_extends : Extends s5 finished
    last_extends = extends_completed s5 (try_end f hd body binding span) (new_block f block.Block) (λ none. refl)

    within_extends : Extends z (reserved sa)
    within_extends = extends_then gz (extends_then one_extends first_extends)

    pub try_extends : Extends z finished
    try_extends = extends_then within_extends (extends_then block_extends last_extends)

    pub try_runs : s.current ≡ z.current → s.env.pairs ≡ z.env.pairs → IsFreshBinding binding z s
        → (world : World) (db : Action (Unit {0})) (dh : Value → Action (Unit {0}))
        → RunsHandler world dh (try_begun (try_bound (reserved s) binding)) s2 (bound binding)
        → RunsStatement world db (try_handler s2 s.env.next_block (try_bound (reserved s) binding).env.next_block part) s4
        → RunsStatement world (catching db dh) z finished
    try_runs position pairs fresh world db dh rh rb = record { runs = run_it }
      where
        run_it : (c : Code) → IsContainedIn finished c → HasSoundNames z → SharesVariables c.ident world c.world
            → (ways : Ways) (normal : Cont) (source store : Store) (notes : Notes) (answers : List Answer) → Agrees c.ident source store
            → Throws c (between z finished) store notes answers (innermost z.handlers) ways.throws
            → Jumps c (between z finished) store notes answers z.scopes ways.breaks ways.continues
            → Follows c (between z finished) store notes answers f 0 normal
            → TracesFrom c z store notes answers (catching db dh ways (λ end. normal) source answers)
        run_it c cover sound shares ways normal source store notes answers a throws jumps onward =
            subst (λ (w : WipBlock). TracesAt c w.id.0 (length w.instructions) store notes answers
            (catching db dh ways (λ end. normal) source answers)) position
            (bound_runs (reserved s) binding c store notes answers _ cover1
            (goes_on s5 (try_end f hd body binding span) (new_block f block.Block) c (block_id body)
            ((block_id hd, Catches (bound binding)) ∷ (block_id f, Catches (bound binding)) ∷ []) store notes answers _ refl cover
            (use_statement (record ways { throws = handled }) normal rb cover4 (gh.sound sound0) shares
            (inside_refl (between s3 s4)) throws3 jumps3 (since_start a)
            (λ source2 store2 notes2 answers2 t2 u2. hole_goes
            (without_handler s4) f gotos.Try other s1.current c store2 notes2 answers2 _ cover5
            (onward.goes source2 store2 notes2 answers2 (before t2))))))
          where
            handled : ValueCont
            handled = λ v. dh v ways (λ end. normal)

            notes1 : Notes
            notes1 = noted (noted notes (block_id hd) (Catches (bound binding))) (block_id f) (Catches (bound binding))

            cover5 : IsContainedIn s5 c
            cover5 = contained_before last_extends cover

            top : innermost s4.handlers ≡ Some (block_id hd)
            top = ap (λ (l : List BlockId). innermost l) gb.handlers ∙ last_added sa.handlers (block_id hd)

            cover4 : IsContainedIn s4 c
            cover4 =
                contained_stacked s4 s4.scopes (take (length s4.handlers - 1) s4.handlers) c
                (λ none. let never : None ≡ Some (block_id hd) = sym none ∙ top in absurd (cc))
                (contained_hole (without_handler s4) f gotos.Try other s1.current c cover5)

            cover_a : IsContainedIn sa c
            cover_a = contained_before (extends_reserved sa) (contained_before block_extends cover5)

            cover2 : IsContainedIn s2 c
            cover2 = contained_hole s2 f gotos.Break part s1.current c cover_a

            cover1 : IsContainedIn s1 c
            cover1 = contained_before first_extends (contained_before block_extends cover5)

            cover_s : IsContainedIn s c
            cover_s = contained_before one_extends cover1

            sound0 : HasSoundNames s0
            sound0 = one_extends.sound (gz.sound sound)

            f_below : f < hd
            f_below = omega (arith, (bound_extends (reserved s) binding).blocks)

            less : Inside (between z finished) (between s3 s4)
            less = record {
              identifier = omega (arith, within_extends.identifiers);
              identifiers = omega (arith, block_extends.identifiers);
              block = omega (arith, within_extends.blocks);
              blocks = omega (arith, block_extends.blocks);
            }

            start : Since c (between z finished) store notes answers source store notes1 answers
            start =
                since_noted (block_id f) (Catches (bound binding)) (omega (arith, gz.blocks))
                (omega (arith, f_below, first_extends.blocks, block_extends.blocks))
                (since_noted (block_id hd) (Catches (bound binding)) (omega (arith, gz.blocks, f_below))
                (omega (arith, gh.blocks, block_extends.blocks)) (since_start a))

            before : {source2 store2 : Store} {notes2 : Notes} {answers2 : List Answer}
                → Since c (between s3 s4) store notes1 answers source2 store2 notes2 answers2
                → Since c (between z finished) store notes answers source2 store2 notes2 answers2
            before u = since_then less start.later u

            jumps3 : Jumps c (between s3 s4) store notes1 answers s3.scopes ways.breaks ways.continues
            jumps3 =
                same_jumps c (between s3 s4) store notes1 answers z s3 ways.breaks ways.continues within_extends.scopes
                (jumps_then less start.later jumps)

            -- The handler takes the value of a throw.
            taken : (b : Option Place) → IsFreshBinding b z s
                → (v : Value) (source2 store2 : Store) (notes2 : Notes) (answers2 : List Answer)
                → Since c (between z finished) store notes answers source2 store2 notes2 answers2
                → Since c (between z finished) store notes answers source2 (set_where (bound b) store2 v) notes2 answers2 × Holds (bound b)
                (set_where (bound b) store2 v) v
            taken None made v source2 store2 notes2 answers2 t = (t, tt)
            taken (Some place) made v source2 store2 notes2 answers2 t = (
              since_set place.identifier.0 v
                  (nobody_fresh z (length s.env.identifiers) c.ident place.identifier.0 sound names made.0 made.1) made.0
                  (omega (arith, made.1, one_extends.identifiers, first_extends.identifiers, block_extends.identifiers)) t,
              set_same store2 place.identifier.0 v,
            )
              where
                names : CoversNames z.env.pairs (length s.env.identifiers) c.ident
                names = subst (λ (l : List Pair). CoversNames l (length s.env.identifiers) c.ident) pairs cover_s.names

            catching_it : Catching c (between s3 s4) store notes1 answers hd handled
            catching_it = record {
              binding = bound binding;
              noted =
                  let ne : hd ≡ f → ⊥ = λ e. omega (arith, e, f_below) in
                  noted_other (noted notes (block_id hd) (Catches (bound binding))) (block_id f) hd (Catches (bound binding)) ne
                  ∙ noted_same notes (block_id hd) (Catches (bound binding));
              outside = inl (omega (arith, gh.blocks));
              goes = λ v source2 store2 notes2 answers2 t2.
                  let at = taken binding fresh v source2 store2 notes2 answers2 (before t2) in
                  rh.runs c cover2 sound0 shares ways normal v source2 (set_where (bound binding) store2 v) notes2 answers2 at.0.agrees at.1
                  (throws_then (innermost s0.handlers) ways.throws less0 at.0.later
                  (same_throws c (between z finished) store notes answers z s0 ways.throws same0.handlers throws))
                  (jumps_then less0 at.0.later
                  (same_jumps c (between z finished) store notes answers z s0 ways.breaks ways.continues same0.scopes jumps))
                  (record { goes = λ source4 store4 notes4 answers4 u. hole_goes s2 f gotos.Break part s1.current c store4 notes4 answers4 _ cover_a (onward.goes source4 store4 notes4 answers4 (since_then less0 at.0.later u)) });
            }
              where
                same0 : Extends z s1
                same0 = extends_then gz one_extends

                less0 : Inside (between z finished) (between s0 s2)
                less0 = record {
                  identifier = omega (arith, same0.identifiers);
                  identifiers = omega (arith, block_extends.identifiers);
                  block = omega (arith, same0.blocks);
                  blocks = omega (arith, block_extends.blocks);
                }

            throws3 : Throws c (between s3 s4) store notes1 answers (innermost s3.handlers) handled
            throws3 =
                subst (λ (o : Option BlockId). Throws c (between s3 s4) store notes1 answers o handled)
                (sym (last_added sa.handlers (block_id hd))) catching_it
