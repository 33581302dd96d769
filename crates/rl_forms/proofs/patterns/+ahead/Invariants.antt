use Rattle.std.proofs.Common.{◌+◌, ◌*◌, map}
use Rattle.rl_syntax.specs.Sizes.{size, size_of}
use Rattle.rl_syntax.specs.Syntax.{pieces_of, syntax}
use Rattle.rl_forms.proofs.patterns.+ahead.Given as goal

abbrev pub decreases-ahead_under : goal.decreases-ahead_under
decreases-ahead_under l = 3 * size_of (pieces_of (map syntax l.parts.now)) + 1

abbrev pub decreases-ahead_alone : goal.decreases-ahead_alone
decreases-ahead_alone l = 3 * size_of (pieces_of (map syntax l.parts.now)) + 1

abbrev pub decreases-node_ahead : goal.decreases-node_ahead
decreases-node_ahead l = 3 * size_of (pieces_of (map syntax l.parts.now)) + 2

abbrev pub decreases-is_ahead : goal.decreases-is_ahead
decreases-is_ahead l = 3 * size (syntax l.tree.now)
