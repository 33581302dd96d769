use Rattle.std.proofs.Common.{◌≡◌, ◌+◌, ◌*◌, ◌≤◌, map, drop}
use Rattle.rl_promises.specs.Patterns.{this_among}
use Rattle.rl_syntax.specs.Sizes.{size, size_of}
use Rattle.rl_syntax.specs.Syntax.{pieces_of, syntax}
use Rattle.rl_forms.proofs.patterns.+this.Given as goal

abbrev pub decreases-this_ahead : goal.decreases-this_ahead
decreases-this_ahead l = 3 * size_of (pieces_of (map syntax l.parts.now)) + 1

abbrev pub decreases-this_under : goal.decreases-this_under
decreases-this_under l = 3 * size_of (pieces_of (map syntax l.parts.now)) + 1

abbrev pub decreases-this_alone : goal.decreases-this_alone
decreases-this_alone l = 3 * size_of (pieces_of (map syntax l.parts.now)) + 1

abbrev pub decreases-this_in_node : goal.decreases-this_in_node
decreases-this_in_node l = 3 * size_of (pieces_of (map syntax l.parts.now)) + 2

abbrev pub decreases-this_in : goal.decreases-this_in
decreases-this_in l = 3 * size (syntax l.tree.now)

abbrev pub decreases-this_among : goal.decreases-this_among
decreases-this_among l = 3 * size_of (pieces_of (map syntax l.parts.now)) + 1

abbrev pub invariant-this_among-parts : goal.invariant-this_among-parts
invariant-this_among-parts l = record {
  same : this_among (pieces_of (map syntax (drop l.part-index l.parts))) ≡ this_among (pieces_of (map syntax l.parts));
  fewer : size_of (pieces_of (map syntax (drop l.part-index l.parts))) ≤ size_of (pieces_of (map syntax l.parts));
}
