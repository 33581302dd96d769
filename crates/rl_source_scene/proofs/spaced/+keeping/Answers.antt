use Rattle.std.proofs.Common.{◌≡◌, ◌++◌, map, ap, sym, ◌∙◌}
use Rattle.rl_model.specs.JsxText.{kept_texts}
use Rattle.rl_source_scene.proofs.Keeping.{among_added, element_added}
use Rattle.rl_source_scene.specs.Elements.{seen_parts}
use Rattle.rl_source_stack.specs.Texts.{numbers_of}
use Rattle.rl_syntax.specs.Syntax.{pieces_of, syntax}
use Rattle.rl_source_scene.proofs.spaced.+keeping.Goals as goal

pub push_node-returns-in_ok-push_kept-in-Some-2 : goal.push_node-returns-in_ok-push_kept-in-Some-2
push_node-returns-in_ok-push_kept-in-Some-2 t c =
    element_added c.args.inside c.args.at c.args.word (pieces_of (map syntax c.args.parts.now)) (seen_parts c.in-Some.element)
    (numbers_of c.args.out.now.items) (numbers_of c.push_kept.new.out.items) (numbers_of c.push_kept-in-Some.new.out.items)
    c.in-Some.ensures c.in_ok-push_kept-in-Some.ensures
    (c.in_ok-push_kept-in-Some-2.ensures
    ∙ ap (λ b. numbers_of c.push_kept.new.out.items ++ kept_texts b (syntax c.in-Some.element.children.now)) c.is_inside-inner.ensures)

pub push_node-returns-in_ok-push_among-in-None : goal.push_node-returns-in_ok-push_among-in-None
push_node-returns-in_ok-push_among-in-None t c =
    among_added c.args.inside c.args.at c.args.word (pieces_of (map syntax c.args.parts.now)) (numbers_of c.args.out.now.items)
    (numbers_of c.push_among.new.out.items) (sym c.is_text.ensures ∙ c.if-is_text.false)
    (sym c.is_function.ensures ∙ c.if-is_function.false) c.in-None.ensures c.in_ok-push_among-in-None.ensures
