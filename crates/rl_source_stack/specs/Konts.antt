-- The continuations of a part, by its completion.
use Rattle.std.specs.Prelude.{List}
use Rattle.rl_machine.specs.Traces.{Cont, ValueCont, waiting}
use Rattle.rl_machine.specs.declared.trace.Value.{Value}
use Rattle.rl_model.specs.Actions.{Ways}
use Rattle.rl_model.specs.Functions.{outside}

-- By a way of an abrupt completion, with a value, with a function behind the object that lends itself to it, with the pieces of a value, or
-- behind a statement.
pub record Konts : Type 0 where
  pub ways : Ways
  pub value : ValueCont
  pub pair : (object function : Value) → Cont
  pub pieces : List Value → Cont
  pub normal : Cont

-- Behind all frames the run ends.
abbrev pub outermost : Konts
outermost = record {
  ways = outside;
  value = λ v store answers. waiting;
  pair = λ object f store answers. waiting;
  pieces = λ vs store answers. waiting;
  normal = λ store answers. waiting;
}
