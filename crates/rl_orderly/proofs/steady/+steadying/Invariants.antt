use Rattle.std.proofs.Common.{◌+◌, ◌*◌, map}
use Rattle.rl_syntax.specs.Sizes.{size, size_of}
use Rattle.rl_syntax.specs.Syntax.{pieces_of, syntax}
use Rattle.rl_orderly.proofs.steady.+steadying.Given as goal

abbrev pub decreases-is_steady : goal.decreases-is_steady
decreases-is_steady l = 2 * size (syntax l.tree.now)

abbrev pub decreases-is_steady_node : goal.decreases-is_steady_node
decreases-is_steady_node l = 2 * size_of (pieces_of (map syntax l.parts.now)) + 1
