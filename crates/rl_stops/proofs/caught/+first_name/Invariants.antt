use Rattle.std.proofs.Common.{◌≡◌, ◌+◌, ◌*◌, ◌≤◌, map, drop}
use Rattle.rl_promises.specs.Patterns.{first_name_among}
use Rattle.rl_syntax.specs.Sizes.{size, size_of}
use Rattle.rl_syntax.specs.Syntax.{pieces_of, syntax}
use Rattle.rl_stops.proofs.caught.+first_name.Given as goal

abbrev pub decreases-name_under : goal.decreases-name_under
decreases-name_under l = 3 * size_of (pieces_of (map syntax l.parts.now)) + 1

abbrev pub decreases-name_of_rest : goal.decreases-name_of_rest
decreases-name_of_rest l = 3 * size_of (pieces_of (map syntax l.parts.now)) + 1

abbrev pub decreases-first_name_in : goal.decreases-first_name_in
decreases-first_name_in l = 3 * size_of (pieces_of (map syntax l.parts.now)) + 2

abbrev pub decreases-first_name : goal.decreases-first_name
decreases-first_name l = 3 * size (syntax l.tree.now)

abbrev pub decreases-first_name_among : goal.decreases-first_name_among
decreases-first_name_among l = 3 * size_of (pieces_of (map syntax l.parts.now)) + 1

abbrev pub invariant-first_name_among-parts : goal.invariant-first_name_among-parts
invariant-first_name_among-parts l = record {
  same : first_name_among (pieces_of (map syntax (drop l.part-index l.parts))) ≡ first_name_among (pieces_of (map syntax l.parts));
  fewer : size_of (pieces_of (map syntax (drop l.part-index l.parts))) ≤ size_of (pieces_of (map syntax l.parts));
}
