-- The spine of a chain, by the form of a tree.
use Rattle.std.proofs.Common.{◌≡◌, Bool, false, List, Some, None, map, ap, sym, refl, ◌∙◌}
use Rattle.rl_model.specs.Supported.{has_optional, is_unbroken, is_whole_chain}
use Rattle.rl_row_forms.specs.Shaped.{first_two}
use Rattle.rl_row_names.specs.Spines.{flagged_has_optional, link_has_optional}
use Rattle.rl_row_names.specs.Spines.{node_is_whole, spine_has_optional, spine_is_unbroken, spine_of}
use Rattle.rl_syntax.specs.Syntax.{Syntax, Node, Flag, Pieces, End, Then, pieces_of, syntax}
use Rattle.rl_syntax.specs.declared.numbered.At.{At}
use Rattle.rl_syntax.specs.declared.numbered.Numbered.{Numbered}
use Rattle.rl_syntax.specs.declared.numbered.Numbered.TheVariants as numbered
use Rattle.rl_syntax.specs.declared.word.Word.{Word}
use Rattle.rl_syntax.specs.declared.word.Word.TheVariants as word
use Rattle.rl_syntax.proofs.Layers.{syntax_node}

flagged_is : (a b : Syntax) (parts : Pieces) → flagged_has_optional a b ≡ link_has_optional (Then a (Then b parts))
flagged_is (Flag optional) b parts = refl
flagged_is _ b parts = refl

unpacked : {X : Type 0} (x y : X) → Some x ≡ Some y → x ≡ y
unpacked x y e = cc

pub link_some : (ps : Pieces) (a b : Syntax) (r : Bool) → Some (a, b) ≡ first_two ps → r ≡ flagged_has_optional a b
    → r ≡ link_has_optional ps
link_some (Then c (Then d parts)) a b r is e =
    e ∙ ap (λ (p : Syntax × Syntax). flagged_has_optional p.0 p.1) (unpacked {X = Syntax × Syntax} (a, b) (c, d) is) ∙ flagged_is c d parts
link_some _ a b r is e = absurd (cc)

pub link_none : (ps : Pieces) → None ≡ first_two ps → false ≡ link_has_optional ps
link_none (Then (Flag optional) (Then object parts)) is = absurd (cc)
link_none (Then first (Then second parts)) is = absurd (cc)
link_none _ is = refl

pub ruleset links = (link_some, link_none)

optional_node : (at : At) (w : Word) (parts : Pieces) → spine_has_optional (spine_of w) parts ≡ has_optional (Node at w parts)
optional_node at word.Member (Then (Flag optional) (Then object parts)) = refl
optional_node at word.Member _ = refl
optional_node at word.Index (Then (Flag optional) (Then object parts)) = refl
optional_node at word.Index _ = refl
optional_node at word.Privatemember (Then (Flag optional) (Then object parts)) = refl
optional_node at word.Privatemember _ = refl
optional_node at word.Call (Then (Flag optional) (Then callee parts)) = refl
optional_node at word.Call _ = refl
optional_node at word.Nonnull (Then expression End) = refl
optional_node at word.Nonnull _ = refl
optional_node at _ parts = refl

pub optional_tree : (at : At) (w : Word) (parts : List Numbered) (r : Bool)
    → r ≡ spine_has_optional (spine_of w) (pieces_of (map syntax parts)) → r ≡ has_optional (syntax (numbered.Node at w parts))
optional_tree at w parts r e = e ∙ optional_node at w (pieces_of (map syntax parts)) ∙ ap has_optional (sym (syntax_node at w parts))

pub ruleset optional_form = (optional_tree)

unbroken_node : (below : Bool) (at : At) (w : Word) (parts : Pieces)
    → spine_is_unbroken below (spine_of w) parts ≡ is_unbroken below (Node at w parts)
unbroken_node below at word.Member (Then optional (Then object parts)) = refl
unbroken_node below at word.Member _ = refl
unbroken_node below at word.Index (Then optional (Then object parts)) = refl
unbroken_node below at word.Index _ = refl
unbroken_node below at word.Privatemember (Then optional (Then object parts)) = refl
unbroken_node below at word.Privatemember _ = refl
unbroken_node below at word.Call (Then optional (Then callee parts)) = refl
unbroken_node below at word.Call _ = refl
unbroken_node below at word.Nonnull (Then expression End) = refl
unbroken_node below at word.Nonnull _ = refl
unbroken_node below at _ parts = refl

pub unbroken_tree : (below : Bool) (at : At) (w : Word) (parts : List Numbered) (r : Bool)
    → r ≡ spine_is_unbroken below (spine_of w) (pieces_of (map syntax parts)) → r ≡ is_unbroken below (syntax (numbered.Node at w parts))
unbroken_tree below at w parts r e =
    e ∙ unbroken_node below at w (pieces_of (map syntax parts)) ∙ ap (is_unbroken below) (sym (syntax_node at w parts))

pub ruleset unbroken_form = (unbroken_tree)

whole_node : (at : At) (w : Word) (parts : Pieces) → node_is_whole w parts ≡ is_whole_chain (Node at w parts)
whole_node at word.Chain (Then expression End) = refl
whole_node at word.Chain _ = refl
whole_node at _ parts = refl

pub whole_tree : (at : At) (w : Word) (parts : List Numbered) (r : Bool) → r ≡ node_is_whole w (pieces_of (map syntax parts))
    → r ≡ is_whole_chain (syntax (numbered.Node at w parts))
whole_tree at w parts r e = e ∙ whole_node at w (pieces_of (map syntax parts)) ∙ ap is_whole_chain (sym (syntax_node at w parts))

pub ruleset whole_form = (whole_tree)
