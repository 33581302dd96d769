use Rattle.std.proofs.Common.{◌+◌, ◌*◌, map}
use Rattle.rl_syntax.specs.Sizes.{size, size_of}
use Rattle.rl_syntax.specs.Syntax.{pieces_of, syntax}
use Rattle.rl_row_names.proofs.chains.+breaking.Given as goal

abbrev pub decreases-is_unbroken : goal.decreases-is_unbroken
decreases-is_unbroken l = 3 * size (syntax l.tree.now)

abbrev pub decreases-spine_is_unbroken : goal.decreases-spine_is_unbroken
decreases-spine_is_unbroken l = 3 * size_of (pieces_of (map syntax l.parts.now)) + 2

abbrev pub decreases-nonnull_is_clear : goal.decreases-nonnull_is_clear
decreases-nonnull_is_clear l = 3 * size (syntax l.expression.now) + 1
