-- The meaning of statements (ECMA-262, 14).
use Rattle.std.specs.Prelude.{ℕ, Bool, true, false, ◌||◌, if◌then◌else◌, Option, Some, None, List, [], ◌∷◌, codes}
use Rattle.std.specs.Str.{bytes_eq}
use Rattle.rl_hir.specs.declared.terminal.ReturnVariant.TheVariants as returns
use Rattle.rl_machine.specs.Traces.{matches, truthy}
use Rattle.rl_machine.specs.declared.trace.Value.{Value}
use Rattle.rl_machine.specs.declared.trace.Value.TheVariants as value
use Rattle.rl_model.specs.Actions.{◌>>=◌, ◌>>◌, Action, Label, ask, body_of_loop, break_to, breakable, catching, continue_to}
use Rattle.rl_model.specs.Actions.{done, give, labeled, loop, next, no_meaning, raise, return_with, test}
use Rattle.rl_model.specs.Events.{event, function, get_iterator, next_key, next_of}
use Rattle.rl_model.specs.Expressions.{assign_to, eval}
use Rattle.rl_model.specs.Patterns.{bind, declare}
use Rattle.rl_model.specs.Scene.{Scene}
use Rattle.rl_model.specs.Shapes as shapes
use Rattle.rl_syntax.specs.Syntax.{Syntax, Node, Listed, Said, Flag, Absent, Pieces, End, Then}
use Rattle.rl_syntax.specs.declared.word.Word.TheVariants as word

-- The test of an `if` or of a loop.
abbrev pub holds : Scene → Syntax → Action Bool
holds scene condition = do
  v ← eval scene condition
  test scene (truthy v)

-- An expression whose value is not used; it may be absent.
abbrev pub eval_optional : Scene → Syntax → Action (Unit {0})
eval_optional scene expression = if shapes.is_absent expression then done else (do
  eval scene expression
  done)

-- `using` and `await using` have no meaning.
abbrev pub is_using : (kind : List ℕ) → Bool
is_using kind = bytes_eq kind (codes "using") || bytes_eq kind (codes "await using")

-- A declarator without an initializer declares a name, with Undefined.
abbrev pub declare_one : Scene → Syntax → Action (Unit {0})
declare_one scene (Node at word.Declarator (Then pattern (Then Absent End))) = bind scene false pattern value.Undefined
declare_one scene (Node at word.Declarator (Then pattern (Then init End))) = do
  v ← eval scene init
  bind scene false pattern v
declare_one scene _ = no_meaning

abbrev pub declare_all : Scene → Pieces → Action (Unit {0})
declare_all scene End = done
declare_all scene (Then declarator declarators) = do
  declare_one scene declarator
  declare_all scene declarators

-- The head of a `for`-`in` or `for`-`of` loop takes a value. A target under a wrapper has no meaning there (row F45): `assign_to` has no
-- clause for it.
abbrev pub take_head : Scene → Syntax → Value → Action (Unit {0})
take_head scene (Node at word.Var (Then (Said kind) (Then (Listed (Then (Node there word.Declarator (Then pattern parts)) End)) End))) v =
    if is_using kind then no_meaning else bind scene true pattern v
take_head scene target v = assign_to scene target v

-- True of a `for` loop with a test, and with a declaration in front or nothing (rows F31 and F32).
abbrev pub has_meaning : (init condition : Syntax) → Bool
has_meaning init Absent = false
has_meaning Absent condition = true
has_meaning (Node at word.Var parts) condition = true
has_meaning init condition = false

-- A turn of a loop with its test in front.
abbrev pub turn_while : (condition : Action Bool) → (body : Action (Unit {0})) → Action Bool
turn_while condition body = do
  met ← condition
  if met then (do body; give true) else give false

-- A turn of a `for`-`in` or `for`-`of` loop: its next value, or the end.
abbrev pub turn_with : Option Value → (body : Value → Action (Unit {0})) → Action Bool
turn_with None body = give false
turn_with (Some v) body = do
  body v
  give true

abbrev pub first_test : List (Option Value) → Option Value
first_test [] = None
first_test (v ∷ vs) = v

abbrev pub later_tests : List (Option Value) → List (Option Value)
later_tests [] = []
later_tests (v ∷ vs) = vs

-- The port evaluates the tests of all cases beforehand, from the last to the first; None of a `default`.
abbrev pub eval_tests : Scene → Pieces → Action (List (Option Value))
eval_tests scene (Then (Node at word.Case (Then Absent parts)) cases) = do
  vs ← eval_tests scene cases
  give (None ∷ vs)
eval_tests scene (Then (Node at word.Case (Then condition parts)) cases) = do
  vs ← eval_tests scene cases
  v ← eval scene condition
  give (Some v ∷ vs)
eval_tests scene _ = give []

-- The value of a case's test: one that was evaluated beforehand, or the test is evaluated now.
abbrev pub known_or : Option Value → (now : Action Value) → Action Value
known_or (Some v) now = give v
known_or None now = now

abbrev mutual
  -- The meaning of a statement, with the label right in front of it.
  pub exec : Scene → Label → Syntax → Action (Unit {0})
  exec scene own Absent = done
  exec scene own (Node at word.Empty End) = done
  exec scene own (Node at word.Typealias parts) = done
  exec scene own (Node at word.Interface parts) = done
  exec scene own (Node at word.Namespace parts) = done
  exec scene own (Node at word.Debugger End) = do
    ask scene (event (codes "debugger") [] [])
    done
  exec scene own (Node at word.Expr (Then expression End)) = do
    eval scene expression
    done
  exec scene own (Node at word.Var (Then (Said kind) (Then (Listed declarators) End))) =
      if is_using kind then no_meaning else declare_all scene declarators
  exec scene own (Node at word.Fundecl (Then marked (Then is_async (Then generator (Then name (Then params (Then Absent End))))))) = done
  exec scene own
      (Node at word.Fundecl
      (Then marked (Then is_async (Then generator (Then (Node there word.Bind parts) (Then params (Then body End))))))) = do
        v ← ask scene (function at.id.0)
        declare (scene.stored there.id.0) v
  exec scene own (Node at word.Return (Then Absent End)) = return_with scene returns.Explicit value.Undefined
  exec scene own (Node at word.Return (Then expression End)) = do
    v ← eval scene expression
    return_with scene returns.Explicit v
  exec scene own (Node at word.Throw (Then expression End)) = do
    v ← eval scene expression
    raise v
  exec scene own (Node at word.Block (Then (Listed statements) End)) = exec_all scene statements
  exec scene own (Node at word.If (Then condition (Then consequent (Then alternate End)))) = do
    met ← holds scene condition
    if met then exec scene None consequent else exec scene None alternate
  exec scene own (Node at word.While (Then condition (Then body End))) =
      breakable (loop (turn_while (holds scene condition) (body_of_loop own (exec scene None body))))
  exec scene own (Node at word.Dowhile (Then body (Then condition End))) = breakable (loop (do
    body_of_loop own (exec scene None body)
    holds scene condition))
  exec scene own (Node at word.For (Then init (Then condition (Then update (Then body End))))) =
      if has_meaning init condition then (do
        exec scene None init
        breakable (loop (turn_while (holds scene condition) (do
          body_of_loop own (exec scene None body)
          eval_optional scene update))))
      else no_meaning
  exec scene own (Node at word.Forin (Then head (Then right (Then body End)))) = do
    collection ← eval scene right
    breakable (loop (do
      v ← next scene (next_key collection)
      turn_with v (λ key. do
        take_head scene head key
        body_of_loop own (exec scene None body))))
  exec scene own (Node at word.Forof (Then (Flag false) (Then head (Then right (Then body End))))) = do
    collection ← eval scene right
    iterator ← ask scene (get_iterator collection)
    breakable (loop (do
      v ← next scene (next_of iterator collection)
      turn_with v (λ item. do
        take_head scene head item
        body_of_loop own (exec scene None body))))
  exec scene own (Node at word.Switch (Then discriminant (Then (Listed cases) End))) =
      if scene.ported then (do
        vs ← eval_tests scene cases
        v ← eval scene discriminant
        breakable (try_cases scene cases v vs (exec_default scene cases)))
      else (do
        v ← eval scene discriminant
        breakable (try_cases scene cases v [] (exec_default scene cases)))
  exec scene own (Node at word.Try (Then block (Then (Node there word.Catch (Then param (Then body End))) (Then finalizer End)))) =
      if shapes.is_absent finalizer then catching (exec scene None block) (λ v. do
        bind scene true param v
        exec scene None body)
      else no_meaning
  exec scene own (Node at word.Break (Then Absent End)) = break_to None
  exec scene own (Node at word.Break (Then (Said label) End)) = break_to (Some label)
  exec scene own (Node at word.Continue (Then Absent End)) = continue_to None
  exec scene own (Node at word.Continue (Then (Said label) End)) = continue_to (Some label)
  exec scene own (Node at word.Labeled (Then (Said label) (Then body End))) = labeled label (exec scene (Some label) body)
  -- the others have no meaning (rows F33 to F38, and an `enum`)
  exec scene own _ = no_meaning

  -- Statements in a row.
  pub exec_all : Scene → Pieces → Action (Unit {0})
  exec_all scene End = done
  exec_all scene (Then statement statements) = do
    exec scene None statement
    exec_all scene statements

  -- The statements of a case and of all behind it.
  pub exec_cases : Scene → Pieces → Action (Unit {0})
  exec_cases scene (Then (Node at word.Case (Then condition (Then (Listed statements) End))) cases) = do
    exec_all scene statements
    exec_cases scene cases
  exec_cases scene _ = done

  -- From the case without a test on.
  pub exec_default : Scene → Pieces → Action (Unit {0})
  exec_default scene (Then (Node at word.Case (Then Absent (Then (Listed statements) End))) cases) = do
    exec_all scene statements
    exec_cases scene cases
  exec_default scene (Then part cases) = exec_default scene cases
  exec_default scene End = done

  -- Compares a value with the tests of the cases in order, and goes on from the first that matches; `other` if none does. `known` are
  -- the values of tests that were evaluated beforehand.
  pub try_cases : Scene → Pieces → Value → (known : List (Option Value)) → (other : Action (Unit {0})) → Action (Unit {0})
  try_cases scene (Then (Node at word.Case (Then Absent parts)) cases) v known other = try_cases scene cases v (later_tests known) other
  try_cases scene (Then (Node at word.Case (Then condition (Then (Listed statements) End))) cases) v known other = do
    w ← known_or (first_test known) (eval scene condition)
    same ← test scene (matches v w)
    if same then (do exec_all scene statements; exec_cases scene cases) else try_cases scene cases v (later_tests known) other
  try_cases scene _ v known other = other
