use Rattle.std.proofs.Common.{map}
use Rattle.rl_syntax.specs.Sizes.{size, size_of}
use Rattle.rl_syntax.specs.Syntax.{pieces_of, syntax}
use Rattle.rl_lower_parts.proofs.shape.+optional.Given as goal

abbrev pub decreases-has_optional : goal.decreases-has_optional
decreases-has_optional l = size (syntax l.tree.now)

abbrev pub decreases-link_has_optional : goal.decreases-link_has_optional
decreases-link_has_optional l = size_of (pieces_of (map syntax l.parts.now))

abbrev pub decreases-assertion_has_optional : goal.decreases-assertion_has_optional
decreases-assertion_has_optional l = size_of (pieces_of (map syntax l.parts.now))

abbrev pub decreases-first_has_optional : goal.decreases-first_has_optional
decreases-first_has_optional l = size_of (pieces_of (map syntax l.parts.now))
