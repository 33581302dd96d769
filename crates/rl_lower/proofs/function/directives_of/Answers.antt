use Rattle.std.proofs.Common.{All, map, ap, subst, sym, ◌∙◌}
use Rattle.rl_ast.specs.FunctionViews.{seen_arrow_body}
use Rattle.std.specs.Str.{IsUtf8}
use Rattle.std.proofs.lemmas.List.Elements.{All-nil, All-cons, All-same}
use Rattle.rl_syntax.specs.Syntax.{Said, Pieces, Then, pieces_of, syntax}
use Rattle.rl_promises.specs.Fields.{texts_in}
use Rattle.rl_lowered.specs.Sound.{AreSmallTrees, IsSmallTree}
use Rattle.rl_lower.proofs.Answering.{ok_so}
use Rattle.rl_lower.proofs.function.directives_of.Goals as goal

texts_utf8 : (texts : Pieces) → AreSmallTrees texts → All IsUtf8 (texts_in texts)
texts_utf8 (Then (Said text) texts) small = All-cons IsUtf8 text (texts_in texts) small.1.0 (texts_utf8 texts (small.0.1, small.1.1))
texts_utf8 _ small = All-nil IsUtf8

pub returns-in-Body-clause-texts : goal.returns-in-Body-clause-texts
returns-in-Body-clause-texts c =
    let texts : Pieces = pieces_of (map syntax c.function_body_view.result.directives.trees.now) in
    ok_so c.copy_texts.result c.copy_texts.ensures.copied
    (λ directives is small.
    let opened = subst IsSmallTree (ap seen_arrow_body c.in-Body.is ∙ sym c.function_body_view.ensures) small in
    All-same IsUtf8 directives (texts_in texts) is (texts_utf8 texts (opened.0.1.0, opened.1.1.0)))
