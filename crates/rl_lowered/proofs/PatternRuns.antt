-- Lowered binding patterns have the runs of the source, where nothing of them was refused.
use Rattle.std.proofs.Common.{◌≡◌, ℕ, Bool, true, false, List, [], length, Option, Some, sym, ap, ◌∙◌, subst}
use Rattle.rl_builder.specs.Builder.{innermost}
use Rattle.rl_hir.specs.Pairs.{identifier_of}
use Rattle.rl_hir.specs.declared.instruction.InstructionKind.{InstructionKind}
use Rattle.rl_lowered.proofs.ApartRuns.{binding_run}
use Rattle.rl_lowered.proofs.Blocks.{bound_blocks, moved_blocks, pattern_blocks}
use Rattle.rl_lowered.proofs.BoundSlots.{AreClean, bound_slots}
use Rattle.rl_lowered.proofs.Common.{End, Names, Node, Place, Span, State, SymbolId, Syntax, Then}
use Rattle.rl_lowered.proofs.ItemBlocks.{bound_stays, stays_met}
use Rattle.rl_lowered.proofs.Runs.{moved_runs}
use Rattle.rl_lowered.proofs.SlotRuns.{NextRun, NoneRun, RunsLater, on_dropped}
use Rattle.rl_lowered.proofs.TargetForms.{binding_clean, default_clean}
use Rattle.rl_lowered.proofs.TargetMoves.{pattern_same, variable_pattern}
use Rattle.rl_lowered.specs.Items.{Later, met, variable_at}
use Rattle.rl_lowered.specs.Lowered.{BoundDefault, BoundName, BoundPattern, LoweredBound, LoweredPattern, NextBound, NothingBound}
use Rattle.rl_lowered.specs.Named.{IsFound}
use Rattle.rl_lowered.specs.Params.{TakesEarly}
use Rattle.rl_machine.specs.Traces.{World}
use Rattle.rl_machine.specs.declared.trace.Value.{Value}
use Rattle.rl_model.specs.Actions.{◌>>=◌, Action}
use Rattle.rl_model.specs.Expressions.{eval}
use Rattle.rl_model.specs.Patterns.{bind, declare}
use Rattle.rl_model.specs.Scene.{Scene}
use Rattle.rl_optional_frames.proofs.DefaultBlocks.{default_blocks}
use Rattle.rl_optional_frames.proofs.DefaultRuns.{default_runs}
use Rattle.rl_optional_frames.proofs.Meant.{pattern_meant}
use Rattle.rl_optional_frames.proofs.Taken.{pattern_runs}
use Rattle.rl_optional_frames.specs.Frames.{default_at, default_ended}
use Rattle.rl_optional_frames.specs.Meanings.{defaulted}
use Rattle.rl_promises.specs.Rows.{refusals}
use Rattle.rl_runs.proofs.Holes.{same_throws, use_expression}
use Rattle.rl_runs.proofs.Moves.{contained_before, extends_refl, inside}
use Rattle.rl_runs.proofs.Steps.{follows_then, since_start, throws_then}
use Rattle.rl_runs.specs.Continuations.{between}
use Rattle.rl_runs.specs.Facts.{Extends}
use Rattle.rl_runs.specs.Simulation.{RunsExpression, RunsJumpless, RunsPattern}
use Rattle.rl_syntax.specs.Syntax.{Listed}

met_bound : (again : Bool) (names : Names) (s : State) (symbol : SymbolId) (at : Span) (identifier : ℕ)
    → IsFound names s symbol at identifier
    → identifier_of (met again names s symbol identifier at).bindings symbol.0 ≡ Some identifier
met_bound true names s symbol at identifier f = f.bound
met_bound false names s symbol at identifier f = f.bound

mutual
  pub binding_runs : {names : Names} {again : Bool} {k : InstructionKind} {at : Span} {value : Place} {e : Syntax} {s t : State} {p : Place}
      → LoweredPattern names again k at value e s t p → refusals names e ≡ [] → (scene : Scene) → scene.names ≡ names
      → scene.ported ≡ true → TakesEarly scene → (everywhere : Bool)
      → RunsPattern scene.world (bind scene everywhere e) s t value.identifier.0
  binding_runs {names} {again} {k} {at} {value} (BoundName bind_at name type symbol identifier s annotated is f) none scene same ported takes
      everywhere =
      let here = stays_met again names s symbol bind_at.span identifier f in
      pattern_same scene.world s _ value.identifier.0
      (λ v ways onward source answers. sym (ap (λ (o : Option SymbolId). declare o v ways (λ end. onward) source answers)
      (ap (λ (n : Names). n.declared bind_at.id.0) same ∙ is)))
      (variable_pattern scene.world s (met again names s symbol identifier bind_at.span) symbol.0 k (variable_at identifier at) value (Some at)
      here.blocks.extends here.current (met_bound again names s symbol bind_at.span identifier f))
  binding_runs {names} {value} (BoundDefault there pattern default s t u q p d dt) none scene same ported takes everywhere =
      let clean = default_clean names default (refusals names pattern) none in
      pattern_same scene.world s u value.identifier.0
      (λ v ways onward source answers. sym (pattern_meant scene everywhere there pattern default v ways onward source answers))
      (pattern_runs scene.world s (default_ended (default_at s there.span value) t q) u (defaulted scene.world (eval scene default))
      (bind scene everywhere pattern) value.identifier.0 (length s.env.identifiers)
      (default_blocks s t q value there.span (moved_blocks d)).extends (pattern_blocks dt).extends
      (default_runs s t q value there.span (moved_blocks d).extends scene.world (eval scene default)
      (moved_runs d clean.0 clean.1 scene same ported))
      (binding_runs dt clean.2 scene same ported takes everywhere))
  binding_runs {names} {k} {at} {value} (BoundPattern there w of_object items rest pattern pieces later s u v is bound are l) none scene same
      ported takes everywhere =
      let clean = binding_clean is there none in
      let r = bound_slots bound clean.ahead clean.behind clean.last clean.plain scene same takes everywhere in
      on_dropped scene.world s v (bind scene everywhere (Node there w (Then (Listed items) (Then rest End)))) value.identifier.0
      (length u.env.identifiers)
      (binding_run scene everywhere there v k pattern value at is (bound_stays bound) r clean.plain are (bound_blocks l).extends
      (bound_runs l (subst (λ (n : Names). AreClean (refusals n) later) same r.clean) scene same ported takes everywhere))

  pub bound_runs : {names : Names} {again : Bool} {k : InstructionKind} {later : List Later} {s t : State}
      → LoweredBound names again k later s t → AreClean (refusals names) later → (scene : Scene) → scene.names ≡ names
      → scene.ported ≡ true → TakesEarly scene → (everywhere : Bool) → RunsLater scene.world (bind scene everywhere) later s t
  bound_runs (NothingBound s) clean scene same ported takes everywhere = NoneRun s
  bound_runs (NextBound value part later s t u p d ds) clean scene same ported takes everywhere =
      NextRun (record { value = value; part = part }) later s t u (pattern_blocks d).extends (bound_blocks ds).extends
      (binding_runs d clean.0 scene same ported takes everywhere) (bound_runs ds clean.1 scene same ported takes everywhere)

-- A pattern takes the value of an expression.
pub taken_jumpless : (world : World) (s t u : State) (d : Action Value) (o : Value → Action (Unit {0})) (given : ℕ) → Extends s t
    → Extends t u → RunsExpression world d s t given → RunsPattern world o t u given → RunsJumpless world (d >>= o) s u
taken_jumpless world s t u d o given g1 g2 rd ro = record {
  runs = λ c cover sound shares ways normal source store notes answers a throws onward.
      use_expression ways (λ v. o v ways (λ end. normal)) rd (contained_before g2 cover) sound shares (inside (extends_refl s) g2) throws
      (since_start a)
      (λ v source1 store1 notes1 answers1 t1 own is.
      ro.runs c cover (g1.sound sound) shares (rd.free c (contained_before g2 cover) sound) rd.made ways normal v source1 store1 notes1
      answers1 t1.agrees is
      (throws_then (innermost t.handlers) ways.throws (inside g1 (extends_refl u)) t1.later
      (same_throws c (between s u) store notes answers s t ways.throws g1.handlers throws))
      (follows_then (inside g1 (extends_refl u)) t1.later onward));
}
