-- The machine, tried on the graphs of loops.
use Rattle.std.proofs.Common.{◌≡◌, Some, [], ◌∷◌, codes, refl}
use Rattle.rl_hir.specs.declared.instruction.InstructionValue.TheVariants as values
use Rattle.rl_hir.specs.declared.terminal.TerminalKind.TheVariants as ends
use Rattle.rl_machine.proofs.ExampleGraphs.{answer, block, branches, given, gives, global, goes, goes_on, graph, instruction, lists, loads, place, returns_place, trace, trace_of}
use Rattle.rl_machine.specs.Machine.{Graph}
use Rattle.rl_machine.specs.Traces.{truthy}
use Rattle.rl_machine.specs.declared.trace.AnswerKind.TheVariants.{Yes, No, Throw}
use Rattle.rl_machine.specs.declared.trace.Ending.TheVariants as ending
use Rattle.rl_machine.specs.declared.trace.Event.{Event}

-- `while (p) f; return p`
abbrev while : Graph
while = graph
    (lists 0 [] (ends.While (block 1) (block 2) (block 3)) ∷ lists 1 [] (branches 0 2 3 3)
    ∷ lists 2 (0 ∷ []) (goes_on 1) ∷ lists 3 [] (returns_place 0) ∷ [])
    (loads 1 (codes "f") ∷ [])

while_turn : trace_of while (answer Yes 1 ∷ answer Yes 2 ∷ answer No 3 ∷ []) ≡ trace (truthy (given 9) ∷ global (codes "f") ∷ truthy (given 9) ∷ []) (gives 9)
while_turn = refl

-- A throw at the test of a loop is a no.
while_throw : trace_of while (answer Throw 1 ∷ []) ≡ trace (truthy (given 9) ∷ []) (gives 9)
while_throw = refl

-- `do f; while (p) return p`
abbrev do_while : Graph
do_while = graph
    (lists 0 [] (ends.DoWhile (block 1) (block 2) (block 3)) ∷ lists 1 (0 ∷ []) (goes_on 2)
    ∷ lists 2 [] (branches 0 1 3 3) ∷ lists 3 [] (returns_place 0) ∷ [])
    (loads 1 (codes "f") ∷ [])

do_while_turns : trace_of do_while (answer Yes 1 ∷ answer Yes 2 ∷ answer Yes 3 ∷ answer No 4 ∷ [])
    ≡ trace (global (codes "f") ∷ truthy (given 9) ∷ global (codes "f") ∷ truthy (given 9) ∷ []) (gives 9)
do_while_turns = refl

-- `for (f; p; g) h; return p`
abbrev for : Graph
for = graph
    (lists 0 [] (ends.For (block 1) (block 2) (Some (block 3)) (block 4) (block 5)) ∷ lists 1 (0 ∷ []) (goes 2)
    ∷ lists 2 [] (branches 0 4 5 5) ∷ lists 3 (1 ∷ []) (goes 2) ∷ lists 4 (2 ∷ []) (goes_on 3) ∷ lists 5 [] (returns_place 0) ∷ [])
    (loads 1 (codes "f") ∷ loads 2 (codes "g") ∷ loads 3 (codes "h") ∷ [])

for_turn : trace_of for (answer Yes 1 ∷ answer Yes 2 ∷ answer Yes 3 ∷ answer Yes 4 ∷ answer No 5 ∷ [])
    ≡ trace (global (codes "f") ∷ truthy (given 9) ∷ global (codes "h") ∷ global (codes "g") ∷ truthy (given 9) ∷ []) (gives 9)
for_turn = refl

-- `for (const x in p) f; return p`: its branch tests nothing, and a no to a step goes behind the loop.
abbrev for_in : Graph
for_in = graph
    (lists 0 [] (ends.ForIn (block 1) (block 2) (block 3)) ∷ lists 1 (0 ∷ []) (branches 1 2 3 3)
    ∷ lists 2 (1 ∷ []) (goes_on 1) ∷ lists 3 [] (returns_place 0) ∷ [])
    (instruction 1 (values.NextPropertyOf (place 0)) ∷ loads 2 (codes "f") ∷ [])

abbrev next_property : Event
next_property = record { kind = codes "nextpropertyof"; texts = []; operands = given 9 ∷ [] }

for_in_turn : trace_of for_in (answer Yes 1 ∷ answer Yes 2 ∷ answer No 3 ∷ []) ≡ trace (next_property ∷ global (codes "f") ∷ next_property ∷ []) (gives 9)
for_in_turn = refl

for_in_throw : trace_of for_in (answer Throw 5 ∷ []) ≡ trace (next_property ∷ []) (ending.Threw (given 5))
for_in_throw = refl

-- `for (const x of p) f; return p`: one iterator for the loop, a next value for each turn.
abbrev for_of : Graph
for_of = graph
    (lists 0 [] (ends.ForOf (block 1) (block 2) (block 3) (block 4)) ∷ lists 1 (0 ∷ []) (goes 2) ∷ lists 2 (1 ∷ []) (branches 2 3 4 4)
    ∷ lists 3 (2 ∷ []) (goes_on 1) ∷ lists 4 [] (returns_place 0) ∷ [])
    (instruction 1 (values.GetIterator (place 0)) ∷ instruction 2 (values.IteratorNext (place 1) (place 0)) ∷ loads 3 (codes "f") ∷ [])

abbrev iterator : Event
iterator = record { kind = codes "getiterator"; texts = []; operands = given 9 ∷ [] }

abbrev next : Event
next = record { kind = codes "next"; texts = []; operands = given 1 ∷ given 9 ∷ [] }

for_of_turn : trace_of for_of (answer Yes 1 ∷ answer Yes 2 ∷ answer Yes 3 ∷ answer No 4 ∷ []) ≡ trace (iterator ∷ next ∷ global (codes "f") ∷ next ∷ []) (gives 9)
for_of_turn = refl

-- Both events may throw.
iterator_throws : trace_of for_of (answer Throw 5 ∷ []) ≡ trace (iterator ∷ []) (ending.Threw (given 5))
iterator_throws = refl

next_throws : trace_of for_of (answer Yes 1 ∷ answer Throw 5 ∷ []) ≡ trace (iterator ∷ next ∷ []) (ending.Threw (given 5))
next_throws = refl

-- `try { for (const x of p) f } catch (e) { return e } return p`
abbrev guarded : Graph
guarded = graph
    (lists 0 [] (ends.Try (block 5) (Some (place 7)) (block 6) (block 9)) ∷ lists 5 [] (ends.ForOf (block 1) (block 2) (block 3) (block 4))
    ∷ lists 1 (0 ∷ []) (ends.MaybeThrow (block 2) (Some (block 6))) ∷ lists 2 (1 ∷ []) (ends.MaybeThrow (block 8) (Some (block 6))) ∷ lists 8 [] (branches 2 3 4 4)
    ∷ lists 3 (2 ∷ []) (ends.MaybeThrow (block 1) (Some (block 6))) ∷ lists 4 [] (goes 9) ∷ lists 6 [] (returns_place 7) ∷ lists 9 [] (returns_place 0) ∷ [])
    (instruction 1 (values.GetIterator (place 0)) ∷ instruction 2 (values.IteratorNext (place 1) (place 0)) ∷ loads 3 (codes "f") ∷ [])

iterator_caught : trace_of guarded (answer Throw 5 ∷ []) ≡ trace (iterator ∷ []) (gives 5)
iterator_caught = refl

next_caught : trace_of guarded (answer Yes 1 ∷ answer Throw 5 ∷ []) ≡ trace (iterator ∷ next ∷ []) (gives 5)
next_caught = refl

guarded_turn : trace_of guarded (answer Yes 1 ∷ answer Yes 2 ∷ answer Yes 3 ∷ answer No 4 ∷ []) ≡ trace (iterator ∷ next ∷ global (codes "f") ∷ next ∷ []) (gives 9)
guarded_turn = refl

-- `while (p) for (const x of p) f; return p`: a second run of the inner loop asks for an iterator of its own.
abbrev nested : Graph
nested = graph
    (lists 0 [] (ends.While (block 5) (block 6) (block 7)) ∷ lists 5 [] (branches 0 6 7 7) ∷ lists 6 [] (ends.ForOf (block 1) (block 2) (block 3) (block 4))
    ∷ lists 1 (0 ∷ []) (goes 2) ∷ lists 2 (1 ∷ []) (branches 2 3 4 4) ∷ lists 3 (2 ∷ []) (goes_on 1) ∷ lists 4 [] (goes_on 5) ∷ lists 7 [] (returns_place 0) ∷ [])
    (instruction 1 (values.GetIterator (place 0)) ∷ instruction 2 (values.IteratorNext (place 1) (place 0)) ∷ loads 3 (codes "f") ∷ [])

second_run : trace_of nested (answer Yes 3 ∷ answer Yes 1 ∷ answer No 3 ∷ answer Yes 3 ∷ answer Yes 1 ∷ answer No 3 ∷ answer No 3 ∷ [])
    ≡ trace (truthy (given 9) ∷ iterator ∷ next ∷ truthy (given 9) ∷ iterator ∷ next ∷ truthy (given 9) ∷ []) (gives 9)
second_run = refl
