use Rattle.std.proofs.Common.{◌≡◌, ◌≤◌, map, drop}
use Rattle.rl_syntax.specs.Sizes.{size, size_of}
use Rattle.rl_syntax.specs.Syntax.{pieces_of, syntax}
use Rattle.rl_rules.specs.Finding.{found_behind}
use Rattle.rl_rules.specs.Marks.{bodies_among}
use Rattle.rl_rules.proofs.marks.+finding.Given as goal

abbrev pub decreases-find_in : goal.decreases-find_in
decreases-find_in l = size (syntax l.tree.now)

abbrev pub decreases-find_among : goal.decreases-find_among
decreases-find_among l = size_of (pieces_of (map syntax l.parts.now))

abbrev pub invariant-find_among-parts : goal.invariant-find_among-parts
invariant-find_among-parts l = record {
  same : found_behind l.by_then (bodies_among (pieces_of (map syntax (drop l.part-index l.parts)))) ≡ found_behind l.found (bodies_among (pieces_of (map syntax l.parts)));
  fewer : size_of (pieces_of (map syntax (drop l.part-index l.parts))) ≤ size_of (pieces_of (map syntax l.parts));
}
