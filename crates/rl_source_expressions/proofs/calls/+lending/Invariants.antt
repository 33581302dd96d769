use Rattle.std.proofs.Common.{map}
use Rattle.rl_syntax.specs.Sizes.{size, size_of}
use Rattle.rl_syntax.specs.Syntax.{pieces_of, syntax}
use Rattle.rl_source_expressions.proofs.calls.+lending.Given as goal

abbrev pub decreases-lends : goal.decreases-lends
decreases-lends l = size (syntax l.tree.now)

abbrev pub decreases-only_lends : goal.decreases-only_lends
decreases-only_lends l = size_of (pieces_of (map syntax l.parts.now))

abbrev pub decreases-first_lends : goal.decreases-first_lends
decreases-first_lends l = size_of (pieces_of (map syntax l.parts.now))

abbrev pub decreases-second_lends : goal.decreases-second_lends
decreases-second_lends l = size_of (pieces_of (map syntax l.parts.now))
