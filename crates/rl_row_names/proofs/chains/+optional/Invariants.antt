use Rattle.std.proofs.Common.{◌+◌, ◌*◌, map}
use Rattle.rl_syntax.specs.Sizes.{size, size_of}
use Rattle.rl_syntax.specs.Syntax.{pieces_of, syntax}
use Rattle.rl_row_names.proofs.chains.+optional.Given as goal

abbrev pub decreases-has_optional : goal.decreases-has_optional
decreases-has_optional l = 4 * size (syntax l.tree.now)

abbrev pub decreases-spine_has_optional : goal.decreases-spine_has_optional
decreases-spine_has_optional l = 4 * size_of (pieces_of (map syntax l.parts.now)) + 3

abbrev pub decreases-flagged_has_optional : goal.decreases-flagged_has_optional
decreases-flagged_has_optional l = 4 * size (syntax l.object.now) + 1

abbrev pub decreases-link_has_optional : goal.decreases-link_has_optional
decreases-link_has_optional l = 4 * size_of (pieces_of (map syntax l.parts.now)) + 2
