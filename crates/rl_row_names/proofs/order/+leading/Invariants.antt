use Rattle.std.proofs.Common.{◌+◌, ◌*◌, map}
use Rattle.rl_syntax.specs.Sizes.{size, size_of}
use Rattle.rl_syntax.specs.Syntax.{pieces_of, syntax}
use Rattle.rl_row_names.proofs.order.+leading.Given as goal

abbrev pub decreases-is_module_path : goal.decreases-is_module_path
decreases-is_module_path g l = 2 * size (syntax l.tree.now)

abbrev pub decreases-node_is_module_path : goal.decreases-node_is_module_path
decreases-node_is_module_path g l = 2 * size_of (pieces_of (map syntax l.parts.now)) + 1

abbrev pub decreases-object_is_module_path : goal.decreases-object_is_module_path
decreases-object_is_module_path g l = 2 * size_of (pieces_of (map syntax l.parts.now))
