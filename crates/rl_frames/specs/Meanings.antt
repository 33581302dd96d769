-- The meanings of constructs, of those of their parts.
use Rattle.std.specs.Prelude.{if◌then◌else◌, Bool, true, false, ℕ, zero, suc, List, length}
use Rattle.rl_base.specs.declared.operator.LogicalOperator.{LogicalOperator}
use Rattle.rl_base.specs.declared.operator.LogicalOperator.TheVariants as logical
use Rattle.rl_machine.specs.declared.trace.Answer.{Answer}
use Rattle.rl_machine.specs.declared.trace.Event.{Event}
use Rattle.rl_machine.specs.declared.trace.Trace.{Trace}
use Rattle.rl_machine.specs.declared.trace.Value.{Value}
use Rattle.rl_machine.specs.Traces.{Changer, Cont, Store, World, fired, nullish, set_open, stepped, tested, truthy, waiting}
use Rattle.rl_model.specs.Actions.{Action, Label, Ways}
use Rattle.rl_model.specs.Events.{get_iterator, next_key, next_of}
use Rattle.rl_runs.specs.Exits.{is_named, loop_ways, switch_ways}

-- An `if` statement.
abbrev pub chosen : World → Action Value → Action (Unit {0}) → Action (Unit {0}) → Action (Unit {0})
chosen world test consequent alternate ways onward =
    test ways
    (λ v source answers. tested (set_open world.opens) (truthy v) source answers (consequent ways onward) (alternate ways onward))

-- At most so many turns of a `while` loop under a label, or without one. Each turn takes an answer.
abbrev pub while_turns : World → ℕ → Label → Action Value → Action (Unit {0}) → Ways → (behind : Cont) → Cont
while_turns world zero own test body ways behind = λ source answers. waiting
while_turns world (suc n) own test body ways behind =
    test (switch_ways own behind (λ source answers. waiting) ways)
    (λ v source answers. tested (set_open world.opens) (truthy v) source answers
    (body (loop_ways own (while_turns world n own test body ways behind) behind ways)
    (λ end. while_turns world n own test body ways behind)) behind)

-- A `while` loop.
abbrev pub looped : World → Label → Action Value → Action (Unit {0}) → Action (Unit {0})
looped world own test body ways onward source answers =
    while_turns world (suc (length answers)) own test body ways (onward (tt {0})) source answers

-- The test of a loop under a label, or without one: after a yes the run goes on as `again`.
abbrev pub again_tested : World → Label → Action Value → Ways → (again behind : Cont) → Cont
again_tested world own test ways again behind =
    test (switch_ways own behind (λ source answers. waiting) ways)
    (λ v source answers. tested (set_open world.opens) (truthy v) source answers again behind)

-- At most so many turns of a `do`-`while` loop: each takes an answer at its end.
abbrev pub do_while_turns : World → ℕ → Label → Action Value → Action (Unit {0}) → Ways → (behind : Cont) → Cont
do_while_turns world zero own test body ways behind = λ source answers. waiting
do_while_turns world (suc n) own test body ways behind =
    body (loop_ways own (again_tested world own test ways (do_while_turns world n own test body ways behind) behind) behind ways)
    (λ end. again_tested world own test ways (do_while_turns world n own test body ways behind) behind)

-- A `do`-`while` loop.
abbrev pub do_looped : World → Label → Action Value → Action (Unit {0}) → Action (Unit {0})
do_looped world own test body ways onward source answers =
    do_while_turns world (suc (length answers)) own test body ways (onward (tt {0})) source answers

-- The ways that a label leaves to what a loop under it runs once, in front.
abbrev pub front_ways : (own : Label) → (behind : Cont) → Ways → Ways
front_ways own behind ways = record ways {
  breaks = λ jump. if is_named own jump then behind else ways.breaks jump;
  continues = λ jump. if is_named own jump then (λ source answers. waiting) else ways.continues jump;
}

-- The update of a `for` loop under a label, or without one, in front of the next turn.
abbrev pub updated : Label → (update : Action (Unit {0})) → Ways → (again behind : Cont) → Cont
updated own update ways again behind = update (switch_ways own behind (λ source answers. waiting) ways) (λ end. again)

-- At most so many turns of a `for` loop: each takes an answer at its test. A `continue` goes on with the update.
abbrev pub for_turns : World → ℕ → Label → Action Value → (update body : Action (Unit {0})) → Ways → (behind : Cont) → Cont
for_turns world zero own test update body ways behind = λ source answers. waiting
for_turns world (suc n) own test update body ways behind =
    again_tested world own test ways
    (body (loop_ways own (updated own update ways (for_turns world n own test update body ways behind) behind) behind ways)
    (λ end. updated own update ways (for_turns world n own test update body ways behind) behind)) behind

-- A `for` loop, behind its init.
abbrev pub for_repeated : World → Label → Action Value → (update body : Action (Unit {0})) → Ways → (behind : Cont) → Cont
for_repeated world own test update body ways behind source answers =
    for_turns world (suc (length answers)) own test update body ways behind source answers

-- A `for` loop.
abbrev pub for_looped : World → Label → (init : Action (Unit {0})) → Action Value → (update body : Action (Unit {0})) → Action (Unit {0})
for_looped world own init test update body ways onward =
    init (front_ways own (onward (tt {0})) ways) (λ end. for_repeated world own test update body ways (onward (tt {0})))

-- The test of a logical expression: its value is that of the left part, or that of the right part.
abbrev pub decided : LogicalOperator → Changer → Value → Store → List Answer → (left right : Cont) → Trace
decided logical.And change v source answers left right = tested change (truthy v) source answers right left
decided logical.Or change v source answers left right = tested change (truthy v) source answers left right
decided logical.Coalesce change v source answers left right = tested change (nullish v) source answers right left

-- A logical expression.
abbrev pub connected : World → LogicalOperator → Action Value → Action Value → Action Value
connected world operator left right ways onward =
    left ways (λ v source answers. decided operator (set_open world.opens) v source answers (onward v) (right ways onward))

-- A conditional expression.
abbrev pub selected : World → Action Value → Action Value → Action Value → Action Value
selected world test consequent alternate ways onward =
    test ways
    (λ v source answers. tested (set_open world.opens) (truthy v) source answers (consequent ways onward) (alternate ways onward))

-- At most so many rounds of a loop over keys or values, under a label or without one. Each round asks the event, which takes an answer.
abbrev pub rounds : World → ℕ → Label → Event → (Value → Action (Unit {0})) → Action (Unit {0}) → Ways → (behind : Cont) → Cont
rounds world zero own event pattern body ways behind = λ source answers. waiting
rounds world (suc n) own event pattern body ways behind = λ source answers.
    stepped (set_open world.opens) event source answers
    (λ v. pattern v (switch_ways own behind (λ source answers. waiting) ways)
    (λ end. body (loop_ways own (rounds world n own event pattern body ways behind) behind ways)
    (λ end. rounds world n own event pattern body ways behind)))
    behind ways.throws

-- A `for`-`of` loop.
abbrev pub iterated : World → Label → Action Value → (Value → Action (Unit {0})) → Action (Unit {0}) → Action (Unit {0})
iterated world own right pattern body ways onward =
    right (front_ways own (onward (tt {0})) ways)
    (λ v source answers. fired (set_open world.opens) (get_iterator v) source answers
    (λ a after rest. rounds world (suc (length rest)) own (next_of a.value v) pattern body ways (onward (tt {0})) after rest) ways.throws)

-- A `for`-`in` loop.
abbrev pub enumerated : World → Label → Action Value → (Value → Action (Unit {0})) → Action (Unit {0}) → Action (Unit {0})
enumerated world own right pattern body ways onward =
    right (front_ways own (onward (tt {0})) ways)
    (λ v source answers. rounds world (suc (length answers)) own (next_key v) pattern body ways (onward (tt {0})) source answers)

-- The test in front of a link: in front of an optional one the chain ends early at null and undefined.
abbrev pub passed : Bool → Changer → Value → Store → List Answer → (onward early : Cont) → Trace
passed true change v source answers onward early = tested change (nullish v) source answers early onward
passed false change v source answers onward early = onward source answers

-- A link of a chain, behind its object or callee.
abbrev pub linked : World → (optional : Bool) → Action Value → (Value → Action Value) → Action Value
linked world optional object link ways onward =
    object ways (λ v source answers. passed optional (set_open world.opens) v source answers (link v ways onward) ways.short)
