-- The run of a function (ECMA-262, 10.2).
use Rattle.std.specs.Prelude.{Bool, true, false, not, if◌then◌else◌, List, [], ◌∷◌}
use Rattle.rl_hir.specs.declared.terminal.ReturnVariant.TheVariants as returns
use Rattle.rl_machine.specs.Traces.{Store, set, threw, unset, waiting}
use Rattle.rl_machine.specs.declared.trace.Answer.{Answer}
use Rattle.rl_machine.specs.declared.trace.Assignment.{Assignment}
use Rattle.rl_machine.specs.declared.trace.Trace.{Trace}
use Rattle.rl_machine.specs.declared.trace.Value.{Value}
use Rattle.rl_machine.specs.declared.trace.Value.TheVariants as value
use Rattle.rl_names.specs.Functions.{body_in, params_in}
use Rattle.rl_model.specs.Actions.{◌>>=◌, ◌>>◌, Action, Ways, done, give, return_with}
use Rattle.rl_model.specs.Expressions.{eval, first_piece, later_pieces, or_default}
use Rattle.rl_model.specs.Patterns.{bind}
use Rattle.rl_model.specs.Scene.{Scene}
use Rattle.rl_model.specs.Statements.{exec_all}
use Rattle.rl_syntax.specs.Syntax.{Syntax, Node, Listed, Absent, Pieces, End, Then}
use Rattle.rl_syntax.specs.declared.word.Word.TheVariants as word

-- True of a parameter that is a name without a default.
abbrev pub is_plain : Syntax → Bool
is_plain (Node at word.Param (Then (Node there word.Bind parts) (Then Absent End))) = true
is_plain _ = false

-- A parameter takes its argument, or its default where that is undefined.
abbrev pub take_argument : Scene → Syntax → Value → Action (Unit {0})
take_argument scene (Node at word.Param (Then pattern (Then Absent End))) v = bind scene true pattern v
take_argument scene (Node at word.Param (Then pattern (Then default End))) v = do
  w ← or_default scene v (eval scene default)
  bind scene true pattern w
take_argument scene _ v = done

-- The parameters of the round take their arguments from left to right, Undefined where there is none; the arguments that are left.
abbrev pub take_arguments : Scene → (round : Syntax → Bool) → Pieces → List Value → Action (List Value)
take_arguments scene round End arguments = give arguments
take_arguments scene round (Then param params) arguments = do
  if round param then take_argument scene param (first_piece arguments) else done
  take_arguments scene round params (later_pieces arguments)

-- Each parameter takes its argument; the rest takes the one at its own place. In the port's run the plain ones come first.
abbrev pub take_params : Scene → Syntax → List Value → Action (Unit {0})
take_params scene (Node at word.Params (Then (Listed params) (Then rest End))) arguments =
    if scene.ported then (do
      take_arguments scene is_plain params arguments
      left ← take_arguments scene (λ param. not (is_plain param)) params arguments
      bind scene true rest (first_piece left))
    else (do
      left ← take_arguments scene (λ param. true) params arguments
      bind scene true rest (first_piece left))
take_params scene _ arguments = done

-- Runs a body: statements, whose end returns Undefined, or an expression, whose value is returned.
abbrev pub run_body : Scene → Syntax → Action (Unit {0})
run_body scene (Node at word.Body (Then directives (Then (Listed statements) End))) = do
  exec_all scene statements
  return_with scene returns.Void value.Undefined
run_body scene expression = do
  v ← eval scene expression
  return_with scene returns.Implicit v

-- Applies assignments to a store, in order.
abbrev pub set_all : List Assignment → Store → Store
set_all [] store = store
set_all (a ∷ assignments) store = set_all assignments (set store a.symbol.0 a.value)

-- Outside all statements: a jump has no target (rows S6 and S7), and a throw ends the run.
abbrev pub outside : Ways
outside = record {
  breaks = λ label store answers. waiting;
  continues = λ label store answers. waiting;
  throws = λ v store answers. threw v;
  short = λ store answers. waiting;
}

-- The trace of a function: the start store, the parameters, and then the body.
abbrev pub run_function : Scene → Syntax → List Assignment → List Value → List Answer → Trace
run_function scene function start arguments answers =
    (do
      take_params scene (params_in function) arguments
      run_body scene (body_in function))
    outside (λ end store answers. waiting) (set_all start unset) answers
