-- Runs that cannot go on, whatever trace they have then.
use Rattle.std.proofs.Common.{◌≡◌, None, Some, List, [], ◌∷◌, codes, refl}
use Rattle.rl_hir.specs.declared.instruction.InstructionValue.TheVariants as values
use Rattle.rl_hir.specs.declared.terminal.TerminalKind.{TerminalKind}
use Rattle.rl_hir.specs.declared.terminal.TerminalKind.TheVariants as ends
use Rattle.rl_machine.proofs.ExampleGraphs.{alone, answer, block, branches, goes, graph, instruction, lists, place, returns_place}
use Rattle.rl_machine.specs.Machine.{Graph, graph_trace}
use Rattle.rl_machine.specs.Traces.{emit}
use Rattle.rl_machine.specs.declared.trace.Answer.{Answer}
use Rattle.rl_machine.specs.declared.trace.AnswerKind.TheVariants.{Yes, Throw}
use Rattle.rl_machine.specs.declared.trace.Trace.{Trace}
use Rattle.rl_machine.specs.declared.trace.Value.TheVariants.{Undefined}

-- The run of the graph with these answers is stuck.
abbrev IsStuck : Graph → List Answer → Type 0
IsStuck g answers = (stuck : Trace) → graph_trace stuck g (λ symbol. None) alone [] [] [] answers ≡ stuck

-- The entry is no block, or a block to which a run goes is none.
without_block : IsStuck (graph [] []) []
without_block stuck = refl

without_next : IsStuck (graph (lists 0 [] (goes 1) ∷ []) []) []
without_next stuck = refl

-- A block lists no index into the table.
without_entry : IsStuck (graph (lists 0 (0 ∷ []) (goes 0) ∷ []) []) []
without_entry stuck = refl

unreachable_end : IsStuck (graph (lists 0 [] ends.Unreachable ∷ []) []) []
unreachable_end stuck = refl

-- A branch finds no note at its fallthrough, or one of a construct that has no branch.
without_note : IsStuck (graph (lists 0 [] (branches 0 0 0 0) ∷ []) []) (answer Yes 1 ∷ [])
without_note stuck = refl

abbrev branch_behind : TerminalKind → Graph
branch_behind kind = graph (lists 0 [] kind ∷ lists 1 [] (branches 0 0 0 2) ∷ []) []

behind_sequence : IsStuck (branch_behind (ends.Sequence (block 1) (block 2))) (answer Yes 1 ∷ [])
behind_sequence stuck = refl

behind_try : IsStuck (branch_behind (ends.Try (block 1) None (block 3) (block 2))) (answer Yes 1 ∷ [])
behind_try stuck = refl

-- A step of a loop, or the question for an iterator, finds no loop at its block.
without_loop : IsStuck (graph (lists 0 (0 ∷ []) (returns_place 1) ∷ []) (instruction 1 (values.NextPropertyOf (place 0)) ∷ [])) (answer Yes 1 ∷ [])
without_loop stuck = refl

without_for_of : IsStuck (graph (lists 0 (0 ∷ []) (returns_place 1) ∷ []) (instruction 1 (values.GetIterator (place 0)) ∷ [])) (answer Yes 1 ∷ [])
without_for_of stuck = refl

-- A throw goes to a handler without its `try`.
without_try : (stuck : Trace) → graph_trace stuck (graph (lists 0 (0 ∷ []) (ends.MaybeThrow (block 1) (Some (block 1))) ∷ lists 1 [] (returns_place 0) ∷ []) (instruction 1 (values.Await (place 0)) ∷ [])) (λ symbol. None) alone [] [] [] (answer Throw 1 ∷ [])
    ≡ emit (record { kind = codes "await"; texts = []; operands = Undefined ∷ [] }) stuck
without_try stuck = refl

-- No case of a `switch` matches, and it has no default.
without_match : IsStuck (graph (lists 0 [] (ends.Switch (place 0) [] (block 0)) ∷ []) []) (answer Yes 1 ∷ [])
without_match stuck = refl

silent_cycle : IsStuck (graph (lists 0 [] (goes 0) ∷ []) []) (answer Yes 1 ∷ [])
silent_cycle stuck = refl
