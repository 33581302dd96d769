use Rattle.std.proofs.Common.{false, ◌++◌, ap, ◌∙◌}
use Rattle.rl_model.specs.JsxText.{kept_texts}
use Rattle.rl_source_scene.proofs.Keeping.{function_some}
use Rattle.rl_source_stack.specs.Texts.{numbers_of}
use Rattle.rl_syntax.specs.Syntax.{syntax}
use Rattle.rl_source_scene.proofs.spaced.spaced_texts.Goals as goal

pub returns-in_ok-push_kept-in-Some-2 : goal.returns-in_ok-push_kept-in-Some-2
returns-in_ok-push_kept-in-Some-2 c =
    function_some (syntax c.args.function.now) (syntax c.in-Some.params.now) (syntax c.in-Some.body.now)
    (numbers_of c.push_kept.new.out.items) (numbers_of c.push_kept-in-Some.new.out.items) c.in-Some.ensures
    (c.in_ok-push_kept-in-Some.ensures
    ∙ ap (λ l. numbers_of l ++ kept_texts false (syntax c.in-Some.params.now)) c.new-nodes.ensures.items)
    c.in_ok-push_kept-in-Some-2.ensures
