use Rattle.std.proofs.Common.{◌≡◌, ◌++◌, map}
use Rattle.rl_syntax.specs.Sizes.{size_of}
use Rattle.rl_syntax.specs.Syntax.{pieces_of, syntax}
use Rattle.rl_promises.specs.Fields.{texts_in}
use Rattle.rl_lower.proofs.function.copy_texts.Given as goal

abbrev pub decreases-texts : goal.decreases-texts
decreases-texts l = size_of (pieces_of (map syntax l.left.trees.now))

-- The copies, and the texts that are left, are all texts.
abbrev pub invariant-texts : goal.invariant-texts
invariant-texts l = l.copies ++ texts_in (pieces_of (map syntax l.left.trees.now)) ≡ texts_in (pieces_of (map syntax l.texts.trees.now))
