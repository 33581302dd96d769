use Rattle.std.proofs.Common.{◌+◌, ◌*◌, map}
use Rattle.rl_syntax.specs.Sizes.{size, size_of}
use Rattle.rl_syntax.specs.Syntax.{pieces_of, syntax}
use Rattle.rl_forms.proofs.outs.+deleting.Given as goal

abbrev pub decreases-deletes : goal.decreases-deletes
decreases-deletes l = 2 * size (syntax l.tree.now)

abbrev pub decreases-node_deletes : goal.decreases-node_deletes
decreases-node_deletes l = 2 * size_of (pieces_of (map syntax l.parts.now)) + 1

abbrev pub decreases-paren_deletes : goal.decreases-paren_deletes
decreases-paren_deletes l = 2 * size_of (pieces_of (map syntax l.parts.now))
