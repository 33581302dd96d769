use Rattle.std.proofs.Common.{◌≡◌, drop}
use Rattle.rl_hir.specs.Pieces.{gathered, operands, element_pieces}
use Rattle.rl_machine.specs.Acts.{targets}
use Rattle.rl_graph_steps.specs.States.{state_of, takes, took}
use Rattle.rl_graph_steps.proofs.machine.Machine.take_elements.Given as goal

-- The items that are left take the pieces that are left as all of them take all pieces.
abbrev pub invariant-items : goal.invariant-items
invariant-items l =
    takes (targets (operands (gathered element_pieces (drop l.item-index l.items)))) (took l.left (state_of l.self l.run))
    ≡ takes (targets (operands (gathered element_pieces l.items))) (took l.pieces (state_of l.self l.initial.run))
