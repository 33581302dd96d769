-- The run of the outermost link of an optional chain.
use Rattle.std.proofs.Common.{◌≡◌, ◌+◌, ◌<◌, ◌≤◌, List, [], ◌∷◌, length, length-append, Some, refl}
use Rattle.std.proofs.Common.{subst, arith}
use Rattle.rl_builder.specs.Builder.{entered, innermost, new_block, reserved, with_temporary}
use Rattle.rl_builder.specs.declared.blocks.WipBlock.{WipBlock}
use Rattle.rl_builder.specs.Temporaries.{temporary, unordered}
use Rattle.rl_frames.proofs.Common.{Code, Extends, IsContainedIn, Span, State}
use Rattle.rl_frames.specs.Parts.{chain_begun, chain_ended, chain_reserved, chain_undefined}
use Rattle.rl_hir.specs.declared.function.BlockKind.TheVariants as block
use Rattle.rl_hir.specs.declared.instruction.InstructionKind.TheVariants as variables
use Rattle.rl_hir.specs.declared.instruction.InstructionValue.TheVariants as values
use Rattle.rl_hir.specs.declared.instruction.PrimitiveValue.TheVariants as primitives
use Rattle.rl_hir.specs.declared.terminal.GotoVariant.TheVariants as gotos
use Rattle.rl_machine.specs.declared.trace.Answer.{Answer}
use Rattle.rl_machine.specs.declared.trace.Value.{Value}
use Rattle.rl_machine.specs.declared.trace.Value.TheVariants.{Undefined}
use Rattle.rl_machine.specs.Ends.{Notes}
use Rattle.rl_machine.specs.Traces.{Store, ValueCont, World}
use Rattle.rl_model.specs.Actions.{Action, Ways, chained}
use Rattle.rl_runs.proofs.Holes.{computes_on, contained_hole, hole_goes}
use Rattle.rl_runs.proofs.Links.{stores_on}
use Rattle.rl_runs.proofs.Moves.{contained_before, extends_pushed, extends_reserved, extends_temporary, extends_then}
use Rattle.rl_runs.proofs.Moves.{extends_value, value_free}
use Rattle.rl_runs.proofs.Steps.{set_same, since_set}
use Rattle.rl_runs.specs.Continuations.{Agrees, Continues, SharesVariables, Since, Throws, TracesAt}
use Rattle.rl_runs.specs.Continuations.{TracesFrom, between}
use Rattle.rl_runs.specs.Facts.{HasSoundNames, Nobody}
use Rattle.rl_runs.specs.Simulation.{RunsExpression, RunsLink}

-- The outermost link: a chain that ends early has the value undefined.
module _ (s finished : State) (span : Span) (g : Extends (chain_begun s span) finished) where
  abbrev pub y : State
  y = chain_reserved s span

  abbrev pub sa : State
  sa = entered (reserved y) (new_block (s.env.next_block + 1 + 1) block.Value)

  value_extends : Extends sa (chain_undefined s span)
  value_extends = extends_value sa (values.Primitive primitives.Undefined) (Some span)

  moved_extends : Extends (chain_undefined s span) (chain_ended s span)
  moved_extends =
      extends_value (chain_undefined s span) (values.StoreLocal variables.Const (temporary s (Some span)) (temporary y (Some span)))
      (Some span)

  first_extends : Extends s y
  first_extends =
      extends_then (extends_reserved s)
      (extends_then (extends_reserved (reserved s)) (extends_temporary (reserved (reserved s)) (Some span)))

  made_y : length y.env.identifiers ≡ length s.env.identifiers + 1
  made_y = simp length-append (omega arith)

  made_value : length (with_temporary sa (Some span)).env.identifiers ≡ length s.env.identifiers + 2
  made_value = simp length-append (omega arith)

  made_store : length (with_temporary (chain_undefined s span) (Some span)).env.identifiers ≡ length
      (chain_undefined s span).env.identifiers + 1
  made_store = simp length-append (omega arith)

  value_fits : length s.env.identifiers + 2 ≤ length (chain_undefined s span).env.identifiers
  value_fits =
      omega (
        arith,
        made_value,
        (extends_pushed (with_temporary sa (Some span))
            (unordered (temporary sa (Some span)) (values.Primitive primitives.Undefined) (Some span))).identifiers,
      )

  moved_fits : length (chain_undefined s span).env.identifiers < length finished.env.identifiers
  moved_fits =
      omega (
        arith,
        made_store,
        (extends_pushed (with_temporary (chain_undefined s span) (Some span))
            (unordered (temporary (chain_undefined s span) (Some span))
            (values.StoreLocal variables.Const (temporary s (Some span)) (temporary y (Some span))) (Some span))).identifiers,
        g.identifiers,
      )

  pub chain_runs : (world : World) (d : Action Value) → finished.current ≡ new_block s.env.next_block finished.current.kind
      → RunsLink world d s finished (s.env.next_block + 1 + 1) (length s.env.identifiers)
      → RunsExpression world (chained Undefined d) s finished (length s.env.identifiers)
  chain_runs world d position r = record { fresh = r.fresh; made = r.made; free = r.free; runs = run_it }
    where
      run_it : (c : Code) → IsContainedIn finished c → HasSoundNames s → SharesVariables c.ident world c.world
          → (ways : Ways) (k : ValueCont) (source store : Store) (notes : Notes) (answers : List Answer) → Agrees c.ident source store
          → Throws c (between s finished) store notes answers (innermost s.handlers) ways.throws
          → Continues c (between s finished) store notes answers finished.current.id.0 (length finished.current.instructions)
          (length s.env.identifiers) k
          → TracesFrom c s store notes answers (chained Undefined d ways k source answers)
      run_it c cover sound shares ways k source store notes answers a0 throws onward =
          r.runs c cover sound shares (record ways { short = k Undefined }) k source store notes answers a0 throws
          (record { goes = ends }) onward
        where
          cover_begun : IsContainedIn (chain_begun s span) c
          cover_begun = contained_before g cover

          cover_ended : IsContainedIn (chain_ended s span) c
          cover_ended = contained_hole (chain_ended s span) s.env.next_block gotos.Break span s.current c cover_begun

          cover_value : IsContainedIn (chain_undefined s span) c
          cover_value = contained_before moved_extends cover_ended

          sound_sa : HasSoundNames sa
          sound_sa = first_extends.sound sound

          place_free : Nobody c.ident (length s.env.identifiers)
          place_free = r.free c cover sound

          there : Continues c (between s finished) store notes answers s.env.next_block 0 (length s.env.identifiers) k
          there = subst (λ (w : WipBlock). Continues c (between s finished) store notes answers w.id.0 (length w.instructions)
              (length s.env.identifiers) k) position onward

          ends : (source1 store1 : Store) (left : Notes) (rest : List Answer)
              → Since c (between s finished) store notes answers source1 store1 left rest
              → TracesAt c (s.env.next_block + 1 + 1) 0 store1 left rest (k Undefined source1 rest)
          ends source1 store1 left rest t =
              computes_on sa (values.Primitive primitives.Undefined) (Some span) c store1 left rest (k Undefined source1 rest) Undefined
              (length y.env.identifiers ∷ []) refl cover_value
              (stores_on (chain_undefined s span) (temporary s (Some span))
              (temporary y (Some span)) span s.env.next_block Undefined k cover_ended (value_extends.sound sound_sa) place_free
              (omega arith) (omega (arith, value_fits)) moved_fits
              (λ store2 trace rest1. hole_goes
              (chain_ended s span) s.env.next_block gotos.Break span s.current c store2 left rest trace cover_begun rest1) there
              (since_set (length y.env.identifiers) Undefined
              (value_free sa (values.Primitive primitives.Undefined) (Some span) c cover_value sound_sa) (omega (arith, made_y))
              (omega (arith, made_y, value_fits, moved_fits)) t) (set_same store1 (length y.env.identifiers) Undefined))
