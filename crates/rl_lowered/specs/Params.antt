-- Runs of the parameters of a function: in the graph each has its argument when the run begins, and patterns, defaults and the rest are
-- bound behind that, in order.
use Rattle.std.specs.Prelude.{◌≡◌, ℕ, Bool, true, not, List, [], ◌∷◌, length}
use Rattle.rl_builder.specs.Builder.{State, innermost}
use Rattle.rl_hir.specs.declared.function.Param.{Param}
use Rattle.rl_machine.specs.Ends.{Notes}
use Rattle.rl_machine.specs.Machine.{Code}
use Rattle.rl_machine.specs.Traces.{Cont, Store}
use Rattle.rl_machine.specs.declared.trace.Answer.{Answer}
use Rattle.rl_machine.specs.declared.trace.Value.{Value}
use Rattle.rl_model.specs.Actions.{Action, Ways, ◌>>=◌}
use Rattle.rl_model.specs.Expressions.{first_piece, later_pieces}
use Rattle.rl_model.specs.Functions.{is_plain, take_arguments}
use Rattle.rl_model.specs.Patterns.{bind}
use Rattle.rl_model.specs.Runs.{param_identifier}
use Rattle.rl_model.specs.Scene.{Scene}
use Rattle.rl_promises.specs.Lowerable.{Where}
use Rattle.rl_runs.specs.Continuations.{Agrees, Follows, SharesVariables, Throws, TracesFrom, between}
use Rattle.rl_runs.specs.Facts.{HasSoundNames, IsContainedIn}
use Rattle.rl_syntax.specs.Syntax.{Syntax, Pieces, End, Then}

-- In a scene of a function without inner ones each name in a binding pattern takes its piece before all other parts of the pattern.
pub record TakesEarly (scene : Scene) : Type 0 where
  pub early : (everywhere : Bool) (bind : ℕ) → scene.takes_early everywhere bind ≡ true

-- In the port's run the parameters that are no plain names take their arguments behind those that are.
abbrev pub take_others : Scene → (params : Pieces) → (rest : Syntax) → (arguments : List Value) → Action (Unit {0})
take_others scene params rest arguments = do
  left ← take_arguments scene (λ param. not (is_plain param)) params arguments
  bind scene true rest (first_piece left)

-- The places of parameters that are no plain names, and of the rest, have their arguments.
abbrev pub HaveArguments : Store → (params : Pieces) → List Param → (arguments : List Value) → Type 0
HaveArguments store params [] arguments = Unit {0}
HaveArguments store End (p ∷ ps) arguments = store (param_identifier p) ≡ first_piece arguments
HaveArguments store (Then param params) (p ∷ ps) arguments =
    Where (not (is_plain param)) (store (param_identifier p) ≡ first_piece arguments)
    × HaveArguments store params ps (later_pieces arguments)

-- The graph that is built from `old` to `new` goes on as parameters do that are no plain names, where the plain ones have their arguments
-- and the places of the others do.
pub record RunsParams (scene : Scene) (params : Pieces) (rest : Syntax) (places : List Param) (old new : State) : Type 0 where
  pub runs : (c : Code) → IsContainedIn new c → HasSoundNames old → SharesVariables c.ident scene.world c.world
      → (ways : Ways) (normal : Cont) (arguments : List Value) (source store : Store) (notes : Notes) (answers : List Answer)
      → Agrees c.ident source store → HaveArguments store params places arguments
      → Throws c (between old new) store notes answers (innermost old.handlers) ways.throws
      → Follows c (between old new) store notes answers new.current.id.0 (length new.current.instructions) normal
      → TracesFrom c old store notes answers (take_others scene params rest arguments ways (λ end. normal) source answers)
