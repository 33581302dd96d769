-- Loops that are under way.
use Rattle.std.specs.Prelude.{Bool, true, if◌then◌else◌, None}
use Rattle.rl_grammar.specs.Fields.{maybe}
use Rattle.rl_machine.specs.declared.trace.Value.{Value}
use Rattle.rl_model.specs.Actions.{Action, Label, ◌>>=◌, ◌>>◌, body_of_loop, done, give, next, turns}
use Rattle.rl_model.specs.Events.{next_key, next_of}
use Rattle.rl_model.specs.Scene.{Scene}
use Rattle.rl_model.specs.Statements.{eval_optional, exec, holds, take_head, turn_while, turn_with}
use Rattle.rl_syntax.specs.Syntax.{Syntax, syntax}
use Rattle.rl_source_stack.specs.Parts.{label_of}
use Rattle.rl_trace.specs.Values.{shown}
use Rattle.rl_source_stack.specs.declared.behind.Loop.{Loop}
use Rattle.rl_source_stack.specs.declared.behind.Loop.TheVariants as loops
use Rattle.rl_source_stack.specs.declared.behind.Turns.{Turns}

-- A turn with a key or an item that is there.
abbrev pub turn_taking : Scene → Label → (head body : Syntax) → Value → Action (Unit {0})
turn_taking scene own head body v = do
  take_head scene head v
  body_of_loop own (exec scene None body)

abbrev pub turn_in : Scene → Label → (head : Syntax) → (collection : Value) → (body : Syntax) → Action Bool
turn_in scene own head collection body = do
  v ← next scene (next_key collection)
  turn_with v (turn_taking scene own head body)

abbrev pub turn_of : Scene → Label → (head : Syntax) → (iterator collection : Value) → (body : Syntax) → Action Bool
turn_of scene own head iterator collection body = do
  v ← next scene (next_of iterator collection)
  turn_with v (turn_taking scene own head body)

abbrev pub turn_for : Scene → Label → (condition update body : Syntax) → Action Bool
turn_for scene own condition update body = turn_while (holds scene condition) (do
  body_of_loop own (exec scene None body)
  eval_optional scene update)

abbrev pub body_in : Loop → Syntax
body_in (loops.While condition body) = syntax body.tree.now
body_in (loops.DoWhile body condition) = syntax body.tree.now
body_in (loops.For condition update body) = syntax body.tree.now
body_in (loops.ForIn head collection body) = syntax body.tree.now
body_in (loops.ForOf head iterator collection body) = syntax body.tree.now

-- A turn of a loop: true if another one is to be made.
abbrev pub turn : Scene → Label → Loop → Action Bool
turn scene own (loops.While condition body) =
    turn_while (holds scene (syntax condition.tree.now)) (body_of_loop own (exec scene None (syntax body.tree.now)))
turn scene own (loops.DoWhile body condition) = do
  body_of_loop own (exec scene None (syntax body.tree.now))
  holds scene (syntax condition.tree.now)
turn scene own (loops.For condition update body) =
    turn_for scene own (syntax condition.tree.now) (maybe update (λ t. syntax t.tree.now)) (syntax body.tree.now)
turn scene own (loops.ForIn head collection body) = turn_in scene own (syntax head.tree.now) (shown collection) (syntax body.tree.now)
turn scene own (loops.ForOf head iterator collection body) =
    turn_of scene own (syntax head.tree.now) (shown iterator) (shown collection) (syntax body.tree.now)

-- The turns that are left.
abbrev pub turns_left : Scene → Turns → Action (Unit {0})
turns_left scene t = turns t.most (turn scene (label_of t.own) t.parts)

-- The end of a turn, and the turns behind it.
abbrev pub turns_behind : Scene → Turns → (goes_on : Bool) → Action (Unit {0})
turns_behind scene t goes_on = if goes_on then turns_left scene t else done

-- The end of a turn, behind the body of the loop: true if another turn is to be made.
abbrev pub behind_body : Scene → Loop → Action Bool
behind_body scene (loops.While condition body) = give true
behind_body scene (loops.DoWhile body condition) = holds scene (syntax condition.tree.now)
behind_body scene (loops.For condition update body) = do
  eval_optional scene (maybe update (λ t. syntax t.tree.now))
  give true
behind_body scene (loops.ForIn head collection body) = give true
behind_body scene (loops.ForOf head iterator collection body) = give true

-- The rest of a loop, behind the body of a turn.
abbrev pub rest_of_loop : Scene → Turns → Action (Unit {0})
rest_of_loop scene t = do
  goes_on ← behind_body scene t.parts
  turns_behind scene t goes_on

-- The body of a turn, and the rest of the loop.
abbrev pub body_and_rest : Scene → Turns → Action (Unit {0})
body_and_rest scene t = do
  body_of_loop (label_of t.own) (exec scene None (body_in t.parts))
  rest_of_loop scene t

-- The head of a loop that takes its next value.
abbrev pub take_next : Scene → Loop → Value → Action (Unit {0})
take_next scene (loops.ForIn head collection body) v = take_head scene (syntax head.tree.now) v
take_next scene (loops.ForOf head iterator collection body) v = take_head scene (syntax head.tree.now) v
take_next scene _ v = done

-- The continuation of a loop whose test is met: its body, or the next turn where the test stands behind the body.
abbrev pub on_yes : Scene → Turns → Loop → Action (Unit {0})
on_yes scene t (loops.DoWhile body condition) = turns_left scene t
on_yes scene t _ = body_and_rest scene t
