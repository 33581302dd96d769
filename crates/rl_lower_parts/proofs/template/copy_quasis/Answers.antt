use Rattle.std.proofs.Common.{List, [], append-nil, map, subst, sym}
use Rattle.rl_hir.specs.declared.instruction.TemplateQuasi.{TemplateQuasi}
use Rattle.rl_lowered.specs.Forms.{AreQuasis}
use Rattle.rl_lowered.specs.Forms as forms
use Rattle.rl_syntax.specs.Syntax.{Pieces, pieces_of, syntax}
use Rattle.rl_lower_parts.proofs.template.copy_quasis.Goals as goal

pub returns : goal.returns
returns c =
    subst (λ (l : List TemplateQuasi). AreQuasis (pieces_of (map syntax c.args.quasis.trees.now)) l) (append-nil c.quasis.copies)
    (c.quasis.invariant [] (subst (λ (es : Pieces). AreQuasis es []) (sym c.in_default.ensures) forms.NoQuasi))
