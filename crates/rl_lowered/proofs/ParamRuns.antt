-- Lowered parameters have the runs of the source, where nothing of them was refused: each takes its argument in its turn.
use Rattle.std.proofs.Common.{◌≡◌, ℕ, ◌<◌, ◌≤◌, ◌++◌, inr, Bool, true, false, true≢false, not, if◌then◌else◌, List, [], ◌∷◌}
use Rattle.std.proofs.Common.{length, length-append, Some, refl, sym, ap, ◌∙◌, subst, arith}
use Rattle.rl_builder.specs.Builder.{innermost, with_temporary}
use Rattle.rl_hir.specs.declared.function.Param.{Param}
use Rattle.rl_hir.specs.declared.function.Param.TheVariants as params
use Rattle.rl_lowered.proofs.Blocks.{moved_blocks, params_blocks, pattern_blocks}
use Rattle.rl_lowered.proofs.BoundSlots.{promoted_free}
use Rattle.rl_lowered.proofs.Catches.{extends_promoted, length_promoted}
use Rattle.rl_lowered.proofs.Clean.{first_none, param_clean}
use Rattle.rl_lowered.proofs.Common.{At, End, Names, Node, Pieces, Place, Said, Span, State, Syntax, Then}
use Rattle.rl_lowered.proofs.ItemBlocks.{blocks_found}
use Rattle.rl_lowered.proofs.PatternRuns.{binding_runs}
use Rattle.rl_lowered.proofs.Plain.{lowered_plain, operand_there}
use Rattle.rl_lowered.proofs.Runs.{moved_runs}
use Rattle.rl_lowered.proofs.TargetForms.{default_clean}
use Rattle.rl_lowered.proofs.TargetMoves.{pattern_same}
use Rattle.rl_lowered.specs.Items.{caught, promoted}
use Rattle.rl_lowered.specs.Lowered.{DefaultParam, LoweredMoved, LoweredParams, Moved, NoParam, PatternParam, PlainParam, RestParam, Stays}
use Rattle.rl_lowered.specs.Params.{HaveArguments, RunsParams, TakesEarly, take_others}
use Rattle.rl_machine.specs.Machine.{Code}
use Rattle.rl_machine.specs.Traces.{Cont, Store}
use Rattle.rl_machine.specs.declared.trace.Answer.{Answer}
use Rattle.rl_machine.specs.declared.trace.Trace.{Trace}
use Rattle.rl_machine.specs.declared.trace.Value.{Value}
use Rattle.rl_model.specs.Actions.{Ways, done}
use Rattle.rl_model.specs.Expressions.{eval, first_piece, later_pieces}
use Rattle.rl_model.specs.Functions.{is_plain, take_argument}
use Rattle.rl_model.specs.Patterns.{bind}
use Rattle.rl_model.specs.Scene.{Scene}
use Rattle.rl_model.specs.Shapes.{is_absent}
use Rattle.rl_optional_frames.proofs.DefaultBlocks.{default_blocks}
use Rattle.rl_optional_frames.proofs.DefaultRuns.{default_runs}
use Rattle.rl_optional_frames.proofs.Taken.{pattern_runs}
use Rattle.rl_optional_frames.specs.Frames.{default_at, default_ended}
use Rattle.rl_optional_frames.specs.Meanings.{defaulted}
use Rattle.rl_promises.specs.Lowerable.{Where}
use Rattle.rl_promises.specs.Patterns.{takes_apart}
use Rattle.rl_promises.specs.Rows.{refusals, refusals_in}
use Rattle.rl_runs.proofs.FinalNames.{nobody_fresh}
use Rattle.rl_runs.proofs.Holes.{same_throws}
use Rattle.rl_runs.proofs.Moves.{contained_before, extends_refl, extends_temporary, extends_then, inside}
use Rattle.rl_runs.proofs.Steps.{follows_then, later_refl, since_start, since_then, throws_then}
use Rattle.rl_runs.specs.Continuations.{Since, TracesFrom, between}
use Rattle.rl_runs.specs.Facts.{Extends, HasSoundNames, IsContainedIn, Nobody}
use Rattle.rl_runs.specs.Simulation.{RunsPattern}
use Rattle.rl_syntax.specs.declared.word.Word.TheVariants as word
use Rattle.rl_syntax.specs.Syntax.{Absent}

-- A fact that is asked for where a test holds.

where_holds : {X : Type 0} (b : Bool) → b ≡ true → Where b X → X
where_holds true is x = x
where_holds false is x = absurd (true≢false (sym is))

where_other : {X Y : Type 0} (b : Bool) → (X → Y) → Where b X → Where b Y
where_other true f x = f x
where_other false f x = x

temporary_free : (s : State) (span : Span) (c : Code) → IsContainedIn (with_temporary s (Some span)) c → HasSoundNames s
    → Nobody c.ident (length s.env.identifiers)
temporary_free s span c cover sound =
    nobody_fresh s (length (with_temporary s (Some span)).env.identifiers) c.ident (length s.env.identifiers) sound cover.names
    (omega arith) (simp length-append (omega arith))

temporary_within : (s : State) (span : Span) → length s.env.identifiers < length (with_temporary s (Some span)).env.identifiers
temporary_within s span = simp length-append (omega arith)

-- The places of parameters keep their arguments where identifiers that are numbered behind do.
have_arguments : {names : Names} {es : Pieces} {rest : Syntax} {s t : State} {ps : List Param} → LoweredParams names es rest s t ps
    → (c : Code) → IsContainedIn t c → HasSoundNames s → (arguments : List Value) (x y : Store)
    → ((id : ℕ) → Nobody c.ident id → length s.env.identifiers ≤ id → y id ≡ x id) → HaveArguments x es ps arguments
    → HaveArguments y es ps arguments
have_arguments (NoParam s) c cover sound arguments x y keeps have = tt
have_arguments (RestParam there pattern s t p d) c cover sound arguments x y keeps have =
    keeps (length s.env.identifiers) (temporary_free s there.span c (contained_before (pattern_blocks d).extends cover) sound) (omega arith)
    ∙ have
have_arguments {names} (PlainParam there bind_at name type rest more symbol identifier s t ps annotated is f ds) c cover sound arguments x y
    keeps have =
    let g = (blocks_found names s symbol bind_at.span identifier f).extends in (
      have.0,
      have_arguments ds c cover (g.sound sound) (later_pieces arguments) x y
          (λ id nobody above. keeps id nobody (omega (arith, above, g.identifiers))) have.1,
    )
have_arguments (PatternParam there pattern rest more s t u p ps is d ds) c cover sound arguments x y keeps have =
    let g1 = extends_promoted s there.span in
    let g2 = (pattern_blocks d).extends in
    let g3 = (params_blocks ds).extends in (
      where_other (not (is_plain (Node there word.Param (Then pattern (Then Absent End)))))
          (λ same. keeps (length s.env.identifiers)
          (promoted_free s there.span c (contained_before (extends_then g2 g3) cover) sound) (omega arith) ∙ same) have.0,
      have_arguments ds c cover (g2.sound (g1.sound sound)) (later_pieces arguments) x y
          (λ id nobody above. keeps id nobody (omega (arith, above, g1.identifiers, g2.identifiers))) have.1,
    )
have_arguments (DefaultParam there pattern default rest more s t u v q p ps d dt ds) c cover sound arguments x y keeps have =
    let g1 = extends_promoted s there.span in
    let g2 = extends_then (default_blocks (promoted s there.span) t q (caught s there.span) there.span (moved_blocks d)).extends
    (pattern_blocks dt).extends in
    let g3 = (params_blocks ds).extends in (
      where_other (not (is_plain (Node there word.Param (Then pattern (Then default End)))))
          (λ same. keeps (length s.env.identifiers)
          (promoted_free s there.span c (contained_before (extends_then g2 g3) cover) sound) (omega arith) ∙ same) have.0,
      have_arguments ds c cover (g2.sound (g1.sound sound)) (later_pieces arguments) x y
          (λ id nobody above. keeps id nobody (omega (arith, above, g1.identifiers, g2.identifiers))) have.1,
    )

-- A parameter that is no plain name takes its argument from a temporary, and then the others take theirs.
next_param : {names : Names} (scene : Scene) (param : Syntax) (more : Pieces) (rest : Syntax) (span : Span) (s t u : State)
    (ps : List Param)
    → is_plain param ≡ false → Extends (promoted s span) t → RunsPattern scene.world (take_argument scene param) (promoted s span) t
    (length s.env.identifiers) → LoweredParams names more rest t u ps → RunsParams scene more rest ps t u
    → RunsParams scene (Then param more) rest (params.Place (caught s span) ∷ ps) s u
next_param scene param more rest span s t u ps plain g2 r ds rs = record {
  runs = λ c cover sound shares ways normal arguments source store notes answers a have throws onward.
      let g1 = extends_promoted s span in
      let g3 = (params_blocks ds).extends in
      let g = extends_then g1 g2 in
      subst (λ (tr : Trace). TracesFrom c s store notes answers tr)
      (sym (ap (λ (b : Bool). (if not b then take_argument scene param (first_piece arguments) else done) ways
      (λ end. take_others scene more rest (later_pieces arguments) ways (λ last. normal)) source answers) plain))
      (r.runs c (contained_before g3 cover) (g1.sound sound) shares
      (promoted_free s span c (contained_before (extends_then g2 g3) cover) sound) (omega (arith, length_promoted s span)) ways
      (take_others scene more rest (later_pieces arguments) ways (λ last. normal)) (first_piece arguments) source store notes answers a
      (where_holds (not (is_plain param)) (ap not plain) have.0)
      (throws_then (innermost s.handlers) ways.throws (inside g1 g3) (later_refl c (between s u) store notes answers) throws)
      (record {
        goes = λ source1 store1 notes1 answers1 t1.
            let t2 : Since c (between s u) store notes answers source1 store1 notes1 answers1 =
            since_then (inside g1 g3) (later_refl c (between s u) store notes answers) t1 in
            rs.runs c cover (g.sound sound) shares ways normal (later_pieces arguments) source1 store1 notes1 answers1 t1.agrees
            (have_arguments ds c cover (g.sound sound) (later_pieces arguments) store store1
            (λ id nobody above. t1.later.temporaries id nobody (inr above)) have.1)
            (throws_then (innermost t.handlers) ways.throws (inside g (extends_refl u)) t2.later
            (same_throws c (between s u) store notes answers s t ways.throws g.handlers throws))
            (follows_then (inside g (extends_refl u)) t2.later onward);
      }));
}

-- Which parameters are plain.

pub apart_unplain : (there : At) (pattern : Syntax) → takes_apart pattern ≡ true
    → is_plain (Node there word.Param (Then pattern (Then Absent End))) ≡ false
apart_unplain there (Node at word.Arraypat parts) is = refl
apart_unplain there (Node at word.Objectpat parts) is = refl
apart_unplain there _ is = absurd (true≢false (sym is))

pub default_unplain : (there : At) (pattern default : Syntax) → is_absent default ≡ false
    → is_plain (Node there word.Param (Then pattern (Then default End))) ≡ false
default_unplain there pattern Absent is = absurd (true≢false is)
default_unplain there (Node at word.Bind parts) _ is = refl
default_unplain there _ _ is = refl

pub moved_there : {names : Names} {e : Syntax} {s t : State} {p : Place} → LoweredMoved names e s t p → is_absent e ≡ false
moved_there (Stays e s t p is d) = operand_there e (lowered_plain d).node
moved_there (Moved at w fields s t p is d) = refl

argument_means : (scene : Scene) (there : At) (pattern default : Syntax) → is_absent default ≡ false → (v : Value) (ways : Ways) (k : Cont)
    (source : Store) (answers : List Answer)
    → defaulted scene.world (eval scene default) v ways (λ w. bind scene true pattern w ways (λ end. k)) source answers
    ≡ take_argument scene (Node there word.Param (Then pattern (Then default End))) v ways (λ end. k) source answers
argument_means scene there pattern Absent is v ways k source answers = absurd (true≢false is)
argument_means scene there pattern _ is v ways k source answers = refl

pub params_runs : {names : Names} {es : Pieces} {rest : Syntax} {s t : State} {ps : List Param} → LoweredParams names es rest s t ps
    → refusals_in names es ++ refusals names rest ≡ [] → (scene : Scene) → scene.names ≡ names → scene.ported ≡ true → TakesEarly scene
    → RunsParams scene es rest ps s t
params_runs (NoParam s) none scene same ported takes = record {
  runs = λ c cover sound shares ways normal arguments source store notes answers a have throws onward.
      onward.goes source store notes answers (since_start a);
}
params_runs {names} (RestParam there pattern s t p d) none scene same ported takes = record {
  runs = λ c cover sound shares ways normal arguments source store notes answers a have throws onward.
      let g1 = extends_temporary s (Some there.span) in
      let g2 = (pattern_blocks d).extends in
      let r = binding_runs d (first_none (refusals names pattern) [] none) scene same ported takes true in
      r.runs c cover (g1.sound sound) shares (temporary_free s there.span c (contained_before g2 cover) sound)
      (temporary_within s there.span) ways normal (first_piece arguments) source store notes answers a have
      (throws_then (innermost s.handlers) ways.throws (inside g1 (extends_refl t)) (later_refl c (between s t) store notes answers) throws)
      (follows_then (inside g1 (extends_refl t)) (later_refl c (between s t) store notes answers) onward);
}
params_runs {names} (PlainParam there bind_at name type rest more symbol identifier s t ps annotated is f ds) none scene same ported takes =
    let param : Syntax = Node there word.Param (Then (Node bind_at word.Bind (Then (Said name) (Then type End))) (Then Absent End)) in
    let r = params_runs ds (param_clean names param more rest none).others scene same ported takes in record {
      runs = λ c cover sound shares ways normal arguments source store notes answers a have throws onward.
          let g = (blocks_found names s symbol bind_at.span identifier f).extends in
          r.runs c cover (g.sound sound) shares ways normal (later_pieces arguments) source store notes answers a have.1
          (throws_then (innermost s.handlers) ways.throws (inside g (extends_refl t))
          (later_refl c (between s t) store notes answers) throws)
          (follows_then (inside g (extends_refl t)) (later_refl c (between s t) store notes answers) onward);
    }
params_runs {names} (PatternParam there pattern rest more s t u p ps is d ds) none scene same ported takes =
    let param : Syntax = Node there word.Param (Then pattern (Then Absent End)) in
    let whole = param_clean names param more rest none in
    next_param scene param more rest there.span s t u ps (apart_unplain there pattern is) (pattern_blocks d).extends
    (binding_runs d whole.own scene same ported takes true) ds
    (params_runs ds whole.others scene same ported takes)
params_runs {names} (DefaultParam there pattern default rest more s t u v q p ps d dt ds) none scene same ported takes =
    let param : Syntax = Node there word.Param (Then pattern (Then default End)) in
    let whole = param_clean names param more rest none in
    let clean = default_clean names default (refusals names pattern) whole.own in
    let x : State = promoted s there.span in
    let g = (default_blocks x t q (caught s there.span) there.span (moved_blocks d)).extends in
    next_param scene param more rest there.span s u v ps (default_unplain there pattern default (moved_there d))
    (extends_then g (pattern_blocks dt).extends)
    (pattern_same scene.world x u (length s.env.identifiers)
    (λ w ways k source answers. argument_means scene there pattern default (moved_there d) w ways k source answers)
    (pattern_runs scene.world x (default_ended (default_at x there.span (caught s there.span)) t q) u
    (defaulted scene.world (eval scene default)) (bind scene true pattern) (length s.env.identifiers) (length x.env.identifiers) g
    (pattern_blocks dt).extends
    (default_runs x t q (caught s there.span) there.span (moved_blocks d).extends scene.world (eval scene default)
    (moved_runs d clean.0 clean.1 scene same ported))
    (binding_runs dt clean.2 scene same ported takes true))) ds
    (params_runs ds whole.others scene same ported takes)
