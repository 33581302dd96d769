use Rattle.std.proofs.Common.{◌≡◌, ◌++◌, ◌≤◌, drop, map}
use Rattle.rl_text.specs.Places.{spelled_parts}
use Rattle.rl_syntax.specs.Sizes.{size, size_of}
use Rattle.rl_syntax.specs.Syntax.{pieces_of, plain_parts, syntax}
use Rattle.rl_syntax.proofs.write.+writing.Given as goal

abbrev pub decreases-write_numbered : goal.decreases-write_numbered
decreases-write_numbered l = size (syntax l.tree.now)

abbrev pub decreases-write_pieces : goal.decreases-write_pieces
decreases-write_pieces l = size_of (pieces_of (map syntax l.parts.now))

abbrev pub invariant-write_pieces-parts : goal.invariant-write_pieces-parts
invariant-write_pieces-parts l = record {
  written : l.out.items ++ spelled_parts l.spaced l.close (plain_parts (pieces_of (map syntax (drop l.part-index l.parts)))) ≡ l.initial.out.items ++ spelled_parts l.apart l.close (plain_parts (pieces_of (map syntax l.parts)));
  fewer : size_of (pieces_of (map syntax (drop l.part-index l.parts))) ≤ size_of (pieces_of (map syntax l.parts));
}
