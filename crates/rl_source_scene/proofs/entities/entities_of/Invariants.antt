use Rattle.std.proofs.Common.{◌≡◌, map}
use Rattle.rl_source_scene.specs.Entities.{AreAdded}
use Rattle.rl_syntax.specs.Sizes.{size_of}
use Rattle.rl_syntax.specs.Syntax.{pieces_of, syntax}
use Rattle.rl_source_scene.proofs.entities.entities_of.Given as goal

abbrev pub decreases-entities : goal.decreases-entities
decreases-entities l = size_of (pieces_of (map syntax l.left.trees.now))

abbrev pub invariant-entities : goal.invariant-entities
invariant-entities l = AreAdded l.table (pieces_of (map syntax l.left.trees.now)) (pieces_of (map syntax l.initial.left.trees.now))
