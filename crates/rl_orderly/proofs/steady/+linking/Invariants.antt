use Rattle.std.proofs.Common.{◌+◌, ◌*◌, map}
use Rattle.rl_syntax.specs.Sizes.{size, size_of}
use Rattle.rl_syntax.specs.Syntax.{pieces_of, syntax}
use Rattle.rl_orderly.proofs.steady.+linking.Given as goal

abbrev pub decreases-is_link_inside : goal.decreases-is_link_inside
decreases-is_link_inside l = 2 * size (syntax l.tree.now)

abbrev pub decreases-is_link_node : goal.decreases-is_link_node
decreases-is_link_node l = 2 * size_of (pieces_of (map syntax l.parts.now)) + 1
