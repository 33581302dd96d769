-- The runs of the handler of a `try` statement, and of the cases of a `switch`, from those of their parts.
use Rattle.std.proofs.Common.{◌≡◌, ℕ, ◌<◌, ◌++◌, true, false, List, [], length, is_some, Option, Some, None, refl, sym, ap, ◌∙◌}
use Rattle.std.proofs.Common.{subst, arith, codes, inl, inr}
use Rattle.std.specs.Fmt.{decimal}
use Rattle.rl_builder.specs.Builder.{innermost, pushed_under, reserved, with_temporary}
use Rattle.rl_builder.specs.Temporaries.{temporary, unordered}
use Rattle.rl_frames.proofs.SwitchMeant.{CaseParts, case_meanings, case_pieces, test_meaning}
use Rattle.rl_frames.specs.SwitchCases.{RunsCases, RunsTest}
use Rattle.rl_hir.specs.declared.function.Identifier.{Identifier}
use Rattle.rl_hir.specs.declared.function.IdentifierName.{IdentifierName}
use Rattle.rl_hir.specs.declared.function.IdentifierName.TheVariants as identifiers
use Rattle.rl_hir.specs.declared.instruction.Instruction.{Instruction}
use Rattle.rl_hir.specs.declared.instruction.InstructionKind.TheVariants as kinds
use Rattle.rl_hir.specs.declared.terminal.Case.{Case}
use Rattle.rl_lowered.proofs.Catches.{declares_caught, length_promoted}
use Rattle.rl_lowered.proofs.Clean.{moved_never}
use Rattle.rl_lowered.proofs.Common.{At, BlockId, End, Names, Node, Pieces, Place, Said, Span, State, SymbolId, Syntax, Then}
use Rattle.rl_lowered.proofs.TargetMoves.{variable_pattern}
use Rattle.rl_lowered.proofs.Plain.{is_operand, lowered_plain}
use Rattle.rl_lowered.proofs.Runs.{expression_runs}
use Rattle.rl_lowered.specs.Items.{caught, promoted, promoted_identifier}
use Rattle.rl_lowered.specs.Lowered.{CaseMoved, CaseTested, LoweredCaseTest, NoCaseTest, catch_begun, catch_bound}
use Rattle.rl_lowered.specs.Lowered.{throwing, throwing_under}
use Rattle.rl_lowered.specs.Named.{IsFound, found}
use Rattle.rl_machine.specs.declared.trace.Value.{Value}
use Rattle.rl_machine.specs.Machine.{Code}
use Rattle.rl_machine.specs.Traces.{World}
use Rattle.rl_model.specs.Actions.{◌>>◌, Action, assign}
use Rattle.rl_model.specs.Expressions.{eval}
use Rattle.rl_model.specs.Patterns.{bind, declare}
use Rattle.rl_model.specs.Scene.{Scene}
use Rattle.rl_model.specs.Statements.{exec}
use Rattle.rl_promises.specs.Moved.{said_of_moved}
use Rattle.rl_promises.specs.Rows.{refusals}
use Rattle.rl_runs.proofs.Holes.{same_jumps, same_throws, use_statement}
use Rattle.rl_runs.proofs.Moves.{contained_before, extends_refl, extends_resolved, extends_value, inside}
use Rattle.rl_runs.proofs.Steps.{since_start, since_then, throws_then}
use Rattle.rl_runs.specs.Continuations.{Since, between}
use Rattle.rl_runs.specs.Facts.{Extends, HasSoundNames, IsContainedIn, Nobody}
use Rattle.rl_runs.specs.Simulation.{RunsHandler, RunsPattern, RunsStatement}
use Rattle.rl_syntax.specs.declared.word.Word.TheVariants as word
use Rattle.rl_syntax.specs.Syntax.{Absent}
use Rattle.rl_used_names.proofs.NameLaws.{name_of-append, name_of-last}
use Rattle.rl_used_names.specs.IdentifierNames.{name_of}

-- A `throw` under no handler is not refused.

pub no_handler : (o : Option BlockId) → is_some o ≡ false → o ≡ None
no_handler None is = refl
no_handler (Some handler) is = let never : true ≡ false = is in absurd (cc)

pub unthrown : (t : State) (at : Span) → innermost t.handlers ≡ None → throwing t at ≡ t
unthrown t at none = ap (λ (o : Option BlockId). throwing_under o t at) none

-- The meaning of a handler: its parameter takes the value, and its body runs.
abbrev pub caught_meaning : Scene → (param body : Syntax) → Value → Action (Unit {0})
caught_meaning scene param body v = do
  bind scene true param v
  exec scene None body

-- A handler without a parameter.
pub plain_handler : (world : World) (old new : State) (d : Action (Unit {0})) → RunsStatement world d old new
    → RunsHandler world (λ v. d) old new None
plain_handler world old new d r = record {
  runs = λ c cover sound shares ways normal v source store notes answers a holds throws jumps onward.
      r.runs c cover sound shares ways normal source store notes answers a throws jumps onward;
}

-- A handler whose parameter takes the value of a place that was made for it, in front of its body.
pub handler_from : (world : World) (begun stored new : State) (d : Value → Action (Unit {0})) (e : Action (Unit {0})) (identifier : ℕ)
    → Extends begun stored → Extends stored new
    → ((c : Code) → IsContainedIn begun c → HasSoundNames begun → Nobody c.ident identifier)
    → identifier < length begun.env.identifiers → RunsPattern world d begun stored identifier → RunsStatement world e stored new
    → RunsHandler world (λ v ways onward. d v ways (λ end. e ways onward)) begun new (Some identifier)
handler_from world begun stored new d e identifier g after nobody within pattern body = record {
  runs = λ c cover sound shares ways normal v source store notes answers a holds throws jumps onward.
      let start : Since c (between begun new) store notes answers source store notes answers = since_start a in
      pattern.runs c (contained_before after cover) sound shares
      (nobody c (contained_before g (contained_before after cover)) sound) within ways (e ways (λ end. normal)) v source store notes
      answers a holds
      (throws_then (innermost begun.handlers) ways.throws (inside (extends_refl begun) after) start.later throws)
      (record {
        goes = λ source1 store1 notes1 answers1 t.
            use_statement ways normal body cover (g.sound sound) shares (inside g (extends_refl new))
            (same_throws c (between begun new) store notes answers begun stored ways.throws g.handlers throws)
            (same_jumps c (between begun new) store notes answers begun stored ways.breaks ways.continues g.scopes jumps)
            (since_then (inside (extends_refl begun) after) start.later t)
            (λ source2 store2 notes2 answers2 t2 u2. onward.goes source2 store2 notes2 answers2 t2);
      });
}

-- The place that takes the caught value is no symbol's.

under_identifiers : (o : Option BlockId) (s : State) (i : Instruction) → (pushed_under o s i).env.identifiers ≡ s.env.identifiers
under_identifiers None s i = refl
under_identifiers (Some handler) s i = refl

abbrev promoted_name : State → IdentifierName
promoted_name s = identifiers.Promoted (codes "#t" ++ decimal (length s.env.identifiers))

caught_name : (s : State) (param : Span)
    → name_of (catch_begun s param).env.identifiers (length s.env.identifiers) ≡ Some (promoted_name s)
caught_name s param =
    let made : State = promoted s param in
    let numbered : State = reserved made in
    let named : State = with_temporary numbered (Some param) in
    ap (λ (l : List Identifier). name_of l (length s.env.identifiers))
    (under_identifiers (innermost s.handlers) named
    (unordered (temporary numbered (Some param)) (declares_caught s param) (Some param)))
    ∙ name_of-append made.env.identifiers _ (length s.env.identifiers) (promoted_name s)
    (name_of-last s.env.identifiers (promoted_identifier (length s.env.identifiers) s.env.next_type param))

caught_within : (s : State) (param : Span) → length s.env.identifiers < length (catch_begun s param).env.identifiers
caught_within s param =
    omega (
      arith,
      length_promoted s param,
      (extends_value (reserved (promoted s param)) (declares_caught s param) (Some param)).identifiers,
    )

caught_nobody : (s : State) (param : Span) (c : Code) → IsContainedIn (catch_begun s param) c → HasSoundNames (catch_begun s param)
    → Nobody c.ident (length s.env.identifiers)
caught_nobody s param c cover sound symbol is = elim (cover.names.fresh symbol (length s.env.identifiers) is) [
  | inl known ↦ (
      let own = sound.agree.named symbol (length s.env.identifiers) (sound.same symbol ∙ known) in
      let never : Some (promoted_name s) ≡ Some (identifiers.Named own.name) = sym (caught_name s param) ∙ own.named in
      absurd (cc)
      )
  | inr beyond ↦ absurd (omega (arith, beyond, caught_within s param))
]

-- A handler whose parameter is a variable.
pub caught_runs : {names : Names} (scene : Scene) (s new : State) (bind : At) (name : List ℕ) (type body : Syntax) (symbol : SymbolId)
    (identifier : ℕ) → IsFound names (catch_begun s bind.span) symbol bind.span identifier
    → scene.names.declared bind.id.0 ≡ Some symbol
    → Extends (catch_begun s bind.span) (catch_bound names s symbol identifier bind.span)
    → Extends (catch_bound names s symbol identifier bind.span) new
    → RunsStatement scene.world (exec scene None body) (catch_bound names s symbol identifier bind.span) new
    → RunsHandler scene.world (caught_meaning scene (Node bind word.Bind (Then (Said name) (Then type End))) body)
    (catch_begun s bind.span) new (Some (length s.env.identifiers))
caught_runs {names} scene s new bind name type body symbol identifier f is g after r =
    let begun : State = catch_begun s bind.span in
    subst (λ (o : Option SymbolId). RunsHandler scene.world (λ v ways onward. declare o v ways (λ end. exec scene None body ways onward))
    begun new (Some (length s.env.identifiers))) (sym is)
    (handler_from scene.world begun (catch_bound names s symbol identifier bind.span) new (λ v. assign symbol.0 v) (exec scene None body)
    (length s.env.identifiers) g after (λ c cover sound. caught_nobody s bind.span c cover sound) (caught_within s bind.span)
    (variable_pattern scene.world begun (found names begun symbol bind.span) symbol.0 kinds.Catch
    (record { identifier = record { 0 = identifier }; span = Some bind.span }) (caught s bind.span) (Some bind.span)
    (extends_resolved begun (names.name symbol.0) symbol.0 (Some bind.span) f.agree) refl f.bound) r)

-- The cases of a `switch`, as parts, and their runs.
pub record CasesRun (scene : Scene) (s : State) (es : Pieces) (cases : List Case) (t : State) : Type 0 where
  pub parts : List CaseParts
  pub are : case_pieces parts ≡ es
  pub runs : RunsCases scene.world None s cases t (case_meanings scene parts)

tests_as : (scene : Scene) (e : Syntax) → is_operand e ≡ true → test_meaning scene e ≡ Some (eval scene e)
tests_as scene Absent is = absurd (cc)
tests_as scene _ is = refl

pub case_test_runs : {names : Names} {e : Syntax} {s t : State} {p : Option Place} → LoweredCaseTest names e s t p
    → said_of_moved names e ≡ [] → refusals names e ≡ [] → (scene : Scene) → scene.names ≡ names → scene.ported ≡ true
    → RunsTest scene.world (test_meaning scene e) s t p
case_test_runs (NoCaseTest s) unsaid none scene same ported = refl
case_test_runs (CaseTested e s t p is d) unsaid none scene same ported =
    subst (λ (o : Option (Action Value)). RunsTest scene.world o s t (Some p)) (sym (tests_as scene e (lowered_plain d).node))
    (expression_runs d none scene same ported)
case_test_runs {names} (CaseMoved at w fields s t p is d) unsaid none scene same ported = absurd (moved_never names at w fields is unsaid)
