use Rattle.std.proofs.Common.{◌≡◌, ◌+◌, ◌*◌, ◌≤◌, map, drop}
use Rattle.rl_bindings.proofs.Following.{behind_parts, behind_items}
use Rattle.rl_bindings.proofs.Walks.{IsLeft}
use Rattle.rl_syntax.specs.Sizes.{size, size_of}
use Rattle.rl_syntax.specs.Syntax.{pieces_of, syntax}
use Rattle.rl_bindings.proofs.walk.+walking.Given as goal

abbrev pub decreases-push_events : goal.decreases-push_events
decreases-push_events l = 2 * size (syntax l.tree.now)

abbrev pub decreases-push_node : goal.decreases-push_node
decreases-push_node l = 2 * size_of (pieces_of (map syntax l.parts.now)) + 1

abbrev pub decreases-push_parts : goal.decreases-push_parts
decreases-push_parts l = 2 * size_of (pieces_of (map syntax l.parts.now))

abbrev pub decreases-push_all : goal.decreases-push_all
decreases-push_all l = 2 * size_of (pieces_of (map syntax l.trees.now))

abbrev pub invariant-push_parts-parts : goal.invariant-push_parts-parts
invariant-push_parts-parts l = record {
  walked : IsLeft l.above l.initial.names l.initial.out.items l.parts l.names l.out.items (drop l.index l.parts);
  kept : behind_parts l.kept l.context l.word (l.start + l.index) (drop l.index l.parts) ≡ behind_parts l.initial.kept l.context l.word l.start l.parts;
  fewer : size_of (pieces_of (map syntax (drop l.index l.parts))) ≤ size_of (pieces_of (map syntax l.parts));
}

abbrev pub invariant-push_all-trees : goal.invariant-push_all-trees
invariant-push_all-trees l = record {
  walked : IsLeft l.above l.initial.names l.initial.out.items l.trees l.names l.out.items (drop l.tree-index l.trees);
  kept : behind_items l.kept l.context (drop l.tree-index l.trees) ≡ behind_items l.initial.kept l.context l.trees;
  fewer : size_of (pieces_of (map syntax (drop l.tree-index l.trees))) ≤ size_of (pieces_of (map syntax l.trees));
}
