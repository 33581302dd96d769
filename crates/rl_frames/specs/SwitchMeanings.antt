-- The meaning of a `switch` statement, of those of its cases and of its value.
use Rattle.std.specs.Prelude.{Option, Some, None, List, [], ◌∷◌}
use Rattle.rl_machine.specs.declared.trace.Value.{Value}
use Rattle.rl_machine.specs.Traces.{Cont, World, set_open, waiting}
use Rattle.rl_frames.specs.Meanings.{front_ways}
use Rattle.rl_model.specs.Actions.{◌>>=◌, ◌>>◌, Action, Label, Ways, done, give}
use Rattle.rl_model.specs.Statements.{first_test, later_tests}
use Rattle.rl_runs.specs.Exits.{switch_ways, switched}

-- A case: its test, unless it is the default, and its statements.
pub record CaseMeaning : Type 0 where
  pub test : Option (Action Value)
  pub body : Action (Unit {0})

-- The value of a test, if there is one.
abbrev pub test_value : Option (Action Value) → Action (Option Value)
test_value None = give None
test_value (Some test) = do
  v ← test
  give (Some v)

-- The values of the tests of cases, which run from the last to the first.
abbrev pub test_values : List CaseMeaning → Action (List (Option Value))
test_values [] = give []
test_values (k ∷ ks) = do
  vs ← test_values ks
  v ← test_value k.test
  give (v ∷ vs)

-- The statements of cases, of which each falls through to the next.
abbrev pub in_turn : List CaseMeaning → Action (Unit {0})
in_turn [] = done
in_turn (k ∷ ks) = do
  k.body
  in_turn ks

abbrev pub default_or : Option (Action Value) → (here behind : Action (Unit {0})) → Action (Unit {0})
default_or None here behind = here
default_or (Some test) here behind = behind

-- From the first case without a test on.
abbrev pub from_default : List CaseMeaning → Action (Unit {0})
from_default [] = done
from_default (k ∷ ks) = default_or k.test (in_turn (k ∷ ks)) (from_default ks)

-- The value of each case's test, and the run from the case on.
abbrev pub case_runs : List CaseMeaning → List (Option Value) → Ways → (behind : Cont) → List (Option Value × Cont)
case_runs [] vs ways behind = []
case_runs (k ∷ ks) vs ways behind =
    (first_test vs, in_turn (k ∷ ks) ways (λ end. behind)) ∷ case_runs ks (later_tests vs) ways behind

-- The ways in the statements of a `switch` under a label, or without one.
abbrev pub case_ways : Label → (behind : Cont) → Ways → Ways
case_ways own behind ways = switch_ways own behind (λ source answers. waiting) ways

-- A `switch` as the port runs it: the tests from the last case to the first, then the value, which is compared with theirs in order.
abbrev pub selecting : World → Label → List CaseMeaning → Action Value → Action (Unit {0})
selecting world own ks value ways onward =
    test_values ks (front_ways own (onward (tt {0})) ways)
    (λ vs. value (front_ways own (onward (tt {0})) ways)
    (λ v. switched (set_open world.opens) (case_runs ks vs (case_ways own (onward (tt {0})) ways) (onward (tt {0})))
    (from_default ks (case_ways own (onward (tt {0})) ways) (λ end. onward (tt {0}))) v))
