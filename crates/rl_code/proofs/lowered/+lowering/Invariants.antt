use Rattle.std.proofs.Common.{◌≡◌, ◌+◌, ◌*◌, ◌≤◌, ◌++◌, map, drop}
use Rattle.rl_model.specs.Code.{lowered_among}
use Rattle.rl_syntax.specs.Sizes.{size, size_of}
use Rattle.rl_syntax.specs.Syntax.{pieces_of, syntax}
use Rattle.rl_code.proofs.lowered.+lowering.Given as goal

abbrev pub decreases-push_lowered : goal.decreases-push_lowered
decreases-push_lowered l = 2 * size (syntax l.tree.now)

abbrev pub decreases-push_below : goal.decreases-push_below
decreases-push_below l = 2 * size_of (pieces_of (map syntax l.parts.now)) + 1

abbrev pub decreases-push_among : goal.decreases-push_among
decreases-push_among l = 2 * size_of (pieces_of (map syntax l.trees.now))

abbrev pub invariant-push_among-trees : goal.invariant-push_among-trees
invariant-push_among-trees l = record {
  walked : map (λ t. syntax t.now) l.out.items ++ lowered_among (pieces_of (map syntax (drop l.tree-index l.trees))) ≡ map
      (λ t. syntax t.now) l.initial.out.items ++ lowered_among (pieces_of (map syntax l.trees));
  fewer : size_of (pieces_of (map syntax (drop l.tree-index l.trees))) ≤ size_of (pieces_of (map syntax l.trees));
}
