use Rattle.std.proofs.Common.{◌≡◌, ◌≤◌, map, drop}
use Rattle.rl_syntax.specs.Sizes.{size, size_of}
use Rattle.rl_syntax.specs.Syntax.{pieces_of, syntax}
use Rattle.rl_rules.specs.Walks.{parts_pass, items_pass}
use Rattle.rl_rules.proofs.walk.+walking.Given as goal

abbrev pub decreases-passes : goal.decreases-passes
decreases-passes g l = size (syntax l.tree.now)

abbrev pub decreases-parts_pass : goal.decreases-parts_pass
decreases-parts_pass g l = size_of (pieces_of (map syntax l.parts.now))

abbrev pub decreases-items_pass : goal.decreases-items_pass
decreases-items_pass g l = size_of (pieces_of (map syntax l.items.now))

abbrev pub invariant-parts_pass-parts : goal.invariant-parts_pass-parts
invariant-parts_pass-parts g l = record {
  same : parts_pass g.R.Rule.test g.R.Rule.below l.above l.word l.index (pieces_of (map syntax (drop l.index l.parts))) ≡ parts_pass g.R.Rule.test g.R.Rule.below l.above l.word 0 (pieces_of (map syntax l.parts));
  fewer : size_of (pieces_of (map syntax (drop l.index l.parts))) ≤ size_of (pieces_of (map syntax l.parts));
}

abbrev pub invariant-items_pass-items : goal.invariant-items_pass-items
invariant-items_pass-items g l = record {
  same : items_pass g.R.Rule.test g.R.Rule.below l.above (pieces_of (map syntax (drop l.item-index l.items))) ≡ items_pass g.R.Rule.test g.R.Rule.below l.above (pieces_of (map syntax l.items));
  fewer : size_of (pieces_of (map syntax (drop l.item-index l.items))) ≤ size_of (pieces_of (map syntax l.items));
}
