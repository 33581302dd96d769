use Rattle.std.proofs.Common.{◌++◌, List, map}
use Rattle.rl_hir.specs.declared.instruction.TemplateQuasi.{TemplateQuasi}
use Rattle.rl_lowered.specs.Forms.{AreQuasis}
use Rattle.rl_syntax.specs.Sizes.{size_of}
use Rattle.rl_syntax.specs.Syntax.{pieces_of, syntax}
use Rattle.rl_lower_parts.proofs.template.copy_quasis.Given as goal

abbrev pub decreases-quasis : goal.decreases-quasis
decreases-quasis l = size_of (pieces_of (map syntax l.left.trees.now))

-- The copies, with copies of the texts that are left behind them, are those of all texts.
abbrev pub invariant-quasis : goal.invariant-quasis
invariant-quasis l =
    (more : List TemplateQuasi) → AreQuasis (pieces_of (map syntax l.left.trees.now)) more
    → AreQuasis (pieces_of (map syntax l.quasis.trees.now)) (l.copies ++ more)
