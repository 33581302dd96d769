-- The meanings of statements of the source are those of constructs.
use Rattle.std.proofs.Common.{◌≡◌, codes, ℕ, zero, suc, Bool, true, false, if◌then◌else◌, length, Some, None, refl, ap, ◌∙◌, List}
use Rattle.rl_base.specs.declared.operator.LogicalOperator.TheVariants as logical
use Rattle.rl_frames.specs.Meanings.{again_tested, chosen, connected, do_looped, do_while_turns, enumerated, front_ways, iterated, linked}
use Rattle.rl_frames.specs.Meanings.{for_looped, for_repeated, for_turns, looped, rounds, selected, updated, while_turns}
use Rattle.rl_machine.specs.declared.trace.Answer.{Answer}
use Rattle.rl_machine.specs.declared.trace.Event.{Event}
use Rattle.rl_machine.specs.declared.trace.Value.TheVariants.{Text, Undefined}
use Rattle.rl_machine.specs.Traces.{Cont, Store, ValueCont, fired, set_open, stepped, tested, truthy, waiting}
use Rattle.rl_model.specs.Actions.{◌>>=◌, ◌>>◌, Action, Label, Ways, ask, body_of_loop, breakable, catching, chained, labeled, loop, next}
use Rattle.rl_model.specs.Actions.{done, no_meaning, turns}
use Rattle.rl_model.specs.Events.{fixed_key, get_iterator, load, next_key, next_of}
use Rattle.rl_model.specs.Expressions.{eval}
use Rattle.rl_model.specs.Patterns.{bind}
use Rattle.rl_model.specs.Scene.{Scene}
use Rattle.rl_model.specs.Shapes.{is_absent}
use Rattle.rl_model.specs.Statements.{eval_optional, exec, has_meaning, holds, take_head, turn_while, turn_with}
use Rattle.rl_runs.proofs.Labels.{labeled_breakable, loop_body}
use Rattle.rl_runs.specs.Exits.{labeled_by, switch_ways}
use Rattle.rl_syntax.specs.declared.numbered.At.{At}
use Rattle.rl_syntax.specs.declared.word.Word.TheVariants as word
use Rattle.rl_syntax.specs.Syntax.{Syntax, Node, Said, Flag, Absent, Pieces, End, Then}

pub if_meant : (scene : Scene) (own : Label) (at : At) (condition consequent alternate : Syntax) (ways : Ways) (normal : Cont)
    (source : Store) (answers : List Answer)
    → exec scene own (Node at word.If (Then condition (Then consequent (Then alternate End)))) ways (λ end. normal) source answers
    ≡ chosen scene.world (eval scene condition) (exec scene None consequent) (exec scene None alternate) ways (λ end. normal) source answers
if_meant scene own at condition consequent alternate ways normal source answers = refl

-- Turns with their test in front, in the ways that the loop leaves to its body.
module _ (scene : Scene) (own : Label) (condition : Syntax) (body : Action (Unit {0})) (behind : Cont) (ways : Ways) where
  abbrev astray : Cont
  astray source answers = waiting

  turns_meant : (n : ℕ) → turns n (turn_while (holds scene condition) (body_of_loop own body)) (switch_ways own behind astray ways)
      (λ end. behind)
      ≡ while_turns scene.world n own (eval scene condition) body ways behind
  turns_meant zero = refl
  turns_meant (suc n) =
      ap (λ (again : Cont). eval scene condition (switch_ways own behind astray ways)
      (λ v source answers. tested (set_open scene.world.opens) (truthy v) source answers
      (body_of_loop own body (switch_ways own behind astray ways) (λ end. again)) behind))
      (turns_meant n)
      ∙ ap (λ (k : Cont). eval scene condition (switch_ways own behind astray ways)
      (λ v source answers. tested (set_open scene.world.opens) (truthy v) source answers k behind))
      (loop_body own body behind astray (while_turns scene.world n own (eval scene condition) body ways behind) ways)

-- A `while` loop under a label, or without one.
pub while_meant : (scene : Scene) (own : Label) (at : At) (condition body : Syntax) (ways : Ways) (normal : Cont) (source : Store)
    (answers : List Answer)
    → labeled_by own (exec scene own (Node at word.While (Then condition (Then body End)))) ways (λ end. normal) source answers
    ≡ looped scene.world own (eval scene condition) (exec scene None body) ways (λ end. normal) source answers
while_meant scene own at condition body ways normal source answers =
    ap (λ (k : Cont). k source answers)
    (labeled_breakable own (loop (turn_while (holds scene condition) (body_of_loop own (exec scene None body)))) ways (λ end. normal))
    ∙ ap (λ (k : Cont). k source answers) (turns_meant scene own condition (exec scene None body) normal ways (suc (length answers)))

-- Turns with their test behind the body.
module _ (scene : Scene) (own : Label) (condition : Syntax) (body : Action (Unit {0})) (behind : Cont) (ways : Ways) where
  abbrev nowhere : Cont
  nowhere source answers = waiting

  abbrev do_turn : Action Bool
  do_turn = do
    body_of_loop own body
    holds scene condition

  -- The test, with a continuation for the next turn.
  abbrev then_tests : Cont → Cont
  then_tests k = again_tested scene.world own (eval scene condition) ways k behind

  do_turns_meant : (n : ℕ) → turns n do_turn (switch_ways own behind nowhere ways) (λ end. behind)
      ≡ do_while_turns scene.world n own (eval scene condition) body ways behind
  do_turns_meant zero = refl
  do_turns_meant (suc n) =
      ap (λ (again : Cont). body_of_loop own body (switch_ways own behind nowhere ways) (λ end. then_tests again)) (do_turns_meant n)
      ∙ loop_body own body behind nowhere (then_tests (do_while_turns scene.world n own (eval scene condition) body ways behind)) ways

-- A `do`-`while` loop under a label, or without one.
pub do_while_meant : (scene : Scene) (own : Label) (at : At) (condition body : Syntax) (ways : Ways) (normal : Cont) (source : Store)
    (answers : List Answer)
    → labeled_by own (exec scene own (Node at word.Dowhile (Then body (Then condition End)))) ways (λ end. normal) source answers
    ≡ do_looped scene.world own (eval scene condition) (exec scene None body) ways (λ end. normal) source answers
do_while_meant scene own at condition body ways normal source answers =
    ap (λ (k : Cont). k source answers)
    (labeled_breakable own (loop (do_turn scene own condition (exec scene None body) normal ways)) ways (λ end. normal))
    ∙ ap (λ (k : Cont). k source answers) (do_turns_meant scene own condition (exec scene None body) normal ways (suc (length answers)))

-- Turns of a `for` loop, in the ways that the loop leaves to its body: the update follows the body.
module _ (scene : Scene) (own : Label) (condition : Syntax) (update body : Action (Unit {0})) (behind : Cont) (ways : Ways) where
  abbrev lost : Cont
  lost source answers = waiting

  abbrev inside_loop : Ways
  inside_loop = switch_ways own behind lost ways

  abbrev for_turn : Action Bool
  for_turn = turn_while (holds scene condition) (do
    body_of_loop own body
    update)

  for_turns_meant : (n : ℕ) → turns n for_turn inside_loop (λ end. behind)
      ≡ for_turns scene.world n own (eval scene condition) update body ways behind
  for_turns_meant zero = refl
  for_turns_meant (suc n) =
      ap (λ (again : Cont). eval scene condition inside_loop
      (λ v source answers. tested (set_open scene.world.opens) (truthy v) source answers
      (body_of_loop own body inside_loop (λ end. update inside_loop (λ end. again))) behind))
      (for_turns_meant n)
      ∙ ap (λ (k : Cont). eval scene condition inside_loop
      (λ v source answers. tested (set_open scene.world.opens) (truthy v) source answers k behind))
      (loop_body own body behind lost
      (updated own update ways (for_turns scene.world n own (eval scene condition) update body ways behind) behind) ways)

  for_loop_meant : (source : Store) (answers : List Answer)
      → labeled_by own (breakable (loop for_turn)) ways (λ end. behind) source answers
      ≡ for_repeated scene.world own (eval scene condition) update body ways behind source answers
  for_loop_meant source answers =
      ap (λ (k : Cont). k source answers) (labeled_breakable own (loop for_turn) ways (λ end. behind))
      ∙ ap (λ (k : Cont). k source answers) (for_turns_meant (suc (length answers)))

-- A `for` loop with a meaning, under a label or without one.
pub for_meant : (scene : Scene) (own : Label) (at : At) (init condition update body : Syntax) → has_meaning init condition ≡ true
    → (ways : Ways) (normal : Cont) (source : Store) (answers : List Answer)
    → labeled_by own (exec scene own (Node at word.For (Then init (Then condition (Then update (Then body End)))))) ways (λ end. normal)
    source answers
    ≡ for_looped scene.world own (exec scene None init) (eval scene condition) (eval_optional scene update) (exec scene None body) ways
    (λ end. normal) source answers
for_meant scene None at init condition update body meant ways normal source answers =
    ap (λ (b : Bool). (if b then (do
      exec scene None init
      breakable (loop (for_turn scene None condition (eval_optional scene update) (exec scene None body) normal ways))) else no_meaning)
    ways
    (λ end. normal) source answers) meant
    ∙ (λ i. exec scene None init ways
    (λ a after rest. for_loop_meant scene None condition (eval_optional scene update) (exec scene None body) normal ways after rest i)
    source answers)
for_meant scene (Some label) at init condition update body meant ways normal source answers =
    ap (λ (b : Bool). (if b then (do
      exec scene None init
      breakable (loop (for_turn scene (Some label) condition (eval_optional scene update) (exec scene None body) normal ways)))
    else no_meaning) (front_ways (Some label) normal ways) (λ end. normal) source answers) meant
    ∙ (λ i. exec scene None init (front_ways (Some label) normal ways)
    (λ a after rest. for_loop_meant scene (Some label) condition (eval_optional scene update) (exec scene None body) normal ways after
    rest i)
    source answers)

-- A loop has a meaning if its test is there, and a declaration in front or nothing.

pub meaning_absent : (condition : Syntax) → is_absent condition ≡ false → has_meaning Absent condition ≡ true
meaning_absent Absent is = let never : true ≡ false = is in absurd (cc)
meaning_absent _ is = refl

pub meaning_declared : (there : At) (parts : Pieces) (condition : Syntax) → is_absent condition ≡ false
    → has_meaning (Node there word.Var parts) condition ≡ true
meaning_declared there parts Absent is = let never : true ≡ false = is in absurd (cc)
meaning_declared there parts _ is = refl

-- An update that is there: its value is dropped.
pub update_meant : (scene : Scene) (expression : Syntax) → is_absent expression ≡ false
    → eval_optional scene expression ≡ (λ ways onward. eval scene expression ways (λ v. onward (tt {0})))
update_meant scene expression is =
    ap (λ (b : Bool). if b then done else (do
      eval scene expression
      done)) is

-- Rounds, in the ways that the loop leaves to its body.
module _ (scene : Scene) (own : Label) (head : Syntax) (body : Action (Unit {0})) (behind : Cont) (ways : Ways) (event : Event) where
  abbrev unknown : Cont
  unknown source answers = waiting

  abbrev within : Ways
  within = switch_ways own behind unknown ways

  -- A round: the next value, or the end.
  abbrev round : Action Bool
  round = do
    y ← next scene event
    turn_with y (λ item. do
      take_head scene head item
      body_of_loop own body)

  -- A step to the next value.
  abbrev before : ValueCont → Cont
  before k source answers = stepped (set_open scene.world.opens) event source answers k behind ways.throws

  rounds_meant : (n : ℕ) → turns n round within (λ end. behind) ≡ rounds scene.world n own event (take_head scene head) body ways behind
  rounds_meant zero = refl
  rounds_meant (suc n) =
      ap (λ (again : Cont). before (λ y. take_head scene head y within (λ end. body_of_loop own body within (λ end. again))))
      (rounds_meant n)
      ∙ ap (λ (k : Cont). before (λ y. take_head scene head y within (λ end. k)))
      (loop_body own body behind unknown (rounds scene.world n own event (take_head scene head) body ways behind) ways)

  loop_meant : (source : Store) (answers : List Answer) → labeled_by own (breakable (loop round)) ways (λ end. behind) source answers
      ≡ rounds scene.world (suc (length answers)) own event (take_head scene head) body ways behind source answers
  loop_meant source answers =
      ap (λ (k : Cont). k source answers) (labeled_breakable own (loop round) ways (λ end. behind))
      ∙ ap (λ (k : Cont). k source answers) (rounds_meant (suc (length answers)))

-- A `for`-`of` loop under a label, or without one.
pub forof_meant : (scene : Scene) (own : Label) (at : At) (head right body : Syntax) (ways : Ways) (normal : Cont) (source : Store)
    (answers : List Answer)
    → labeled_by own (exec scene own (Node at word.Forof (Then (Flag false) (Then head (Then right (Then body End)))))) ways
    (λ end. normal) source answers
    ≡ iterated scene.world own (eval scene right) (take_head scene head) (exec scene None body) ways (λ end. normal) source answers
forof_meant scene None at head right body ways normal source answers = λ i.
    eval scene right ways
    (λ v before those. fired (set_open scene.world.opens) (get_iterator v) before those
    (λ a after rest. loop_meant scene None head (exec scene None body) normal ways (next_of a.value v) after rest i) ways.throws)
    source answers
forof_meant scene (Some label) at head right body ways normal source answers = λ i.
    eval scene right (front_ways (Some label) normal ways)
    (λ v before those. fired (set_open scene.world.opens) (get_iterator v) before those
    (λ a after rest. loop_meant scene (Some label) head (exec scene None body) normal ways (next_of a.value v) after rest i) ways.throws)
    source answers

-- A `for`-`in` loop under a label, or without one.
pub forin_meant : (scene : Scene) (own : Label) (at : At) (head right body : Syntax) (ways : Ways) (normal : Cont) (source : Store)
    (answers : List Answer)
    → labeled_by own (exec scene own (Node at word.Forin (Then head (Then right (Then body End))))) ways (λ end. normal) source answers
    ≡ enumerated scene.world own (eval scene right) (take_head scene head) (exec scene None body) ways (λ end. normal) source answers
forin_meant scene None at head right body ways normal source answers = λ i.
    eval scene right ways
    (λ v after rest. loop_meant scene None head (exec scene None body) normal ways (next_key v) after rest i)
    source answers
forin_meant scene (Some label) at head right body ways normal source answers = λ i.
    eval scene right (front_ways (Some label) normal ways)
    (λ v after rest. loop_meant scene (Some label) head (exec scene None body) normal ways (next_key v) after rest i)
    source answers

-- A labelled statement that is no loop.
pub label_meant : (scene : Scene) (own : Label) (at : At) (label : List ℕ) (body : Syntax) (ways : Ways) (normal : Cont)
    (source : Store) (answers : List Answer)
    → exec scene own (Node at word.Labeled (Then (Said label) (Then body End))) ways (λ end. normal) source answers
    ≡ labeled label (exec scene (Some label) body) ways (λ end. normal) source answers
label_meant scene own at label body ways normal source answers = refl

-- A `try` statement without a `finally`.
pub try_meant : (scene : Scene) (own : Label) (at there : At) (block param body : Syntax) (ways : Ways) (normal : Cont) (source : Store)
    (answers : List Answer)
    → exec scene own (Node at word.Try (Then block (Then (Node there word.Catch (Then param (Then body End))) (Then Absent End)))) ways
    (λ end. normal) source answers
    ≡ catching (exec scene None block) (λ v. do bind scene true param v; exec scene None body) ways (λ end. normal) source answers
try_meant scene own at there block param body ways normal source answers = refl

-- Logical expressions, one operator a lemma.

pub and_meant : (scene : Scene) (at : At) (left right : Syntax) (ways : Ways) (k : ValueCont) (source : Store) (answers : List Answer)
    → eval scene (Node at word.Logical (Then (Said (codes "&&")) (Then left (Then right End)))) ways k source answers
    ≡ connected scene.world logical.And (eval scene left) (eval scene right) ways k source answers
and_meant scene at left right ways k source answers = refl

pub or_meant : (scene : Scene) (at : At) (left right : Syntax) (ways : Ways) (k : ValueCont) (source : Store) (answers : List Answer)
    → eval scene (Node at word.Logical (Then (Said (codes "||")) (Then left (Then right End)))) ways k source answers
    ≡ connected scene.world logical.Or (eval scene left) (eval scene right) ways k source answers
or_meant scene at left right ways k source answers = refl

pub coalesce_meant : (scene : Scene) (at : At) (left right : Syntax) (ways : Ways) (k : ValueCont) (source : Store)
    (answers : List Answer)
    → eval scene (Node at word.Logical (Then (Said (codes "??")) (Then left (Then right End)))) ways k source answers
    ≡ connected scene.world logical.Coalesce (eval scene left) (eval scene right) ways k source answers
coalesce_meant scene at left right ways k source answers = refl

-- A conditional expression.
pub cond_meant : (scene : Scene) (at : At) (condition consequent alternate : Syntax) (ways : Ways) (k : ValueCont) (source : Store)
    (answers : List Answer)
    → eval scene (Node at word.Cond (Then condition (Then consequent (Then alternate End)))) ways k source answers
    ≡ selected scene.world (eval scene condition) (eval scene consequent) (eval scene alternate) ways k source answers
cond_meant scene at condition consequent alternate ways k source answers = refl

-- Links of chains, and chains.

pub member_meant : (scene : Scene) (at : At) (optional : Bool) (object : Syntax) (name : List ℕ) (ways : Ways) (k : ValueCont)
    (source : Store) (answers : List Answer)
    → eval scene (Node at word.Member (Then (Flag optional) (Then object (Then (Said name) End)))) ways k source answers
    ≡ linked scene.world optional (eval scene object) (λ v. ask scene (load v (fixed_key (Text name)))) ways k source answers
member_meant scene at true object name ways k source answers = refl
member_meant scene at false object name ways k source answers = refl

pub chain_meant : (scene : Scene) (at : At) (expression : Syntax) (ways : Ways) (k : ValueCont) (source : Store) (answers : List Answer)
    → eval scene (Node at word.Chain (Then expression End)) ways k source answers
    ≡ chained Undefined (eval scene expression) ways k source answers
chain_meant scene at expression ways k source answers = refl
