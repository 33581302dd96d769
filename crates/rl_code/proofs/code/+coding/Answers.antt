use Rattle.std.proofs.Common.{map, sym, ◌∙◌}
use Rattle.rl_code.proofs.Coding.{function_below}
use Rattle.rl_syntax.specs.Syntax.{pieces_of, syntax}
use Rattle.rl_code.proofs.code.+coding.Goals as goal

pub push_below-returns-in_ok-push_code-in-Some : goal.push_below-returns-in_ok-push_code-in-Some
push_below-returns-in_ok-push_code-in-Some t c =
    function_below c.args.word (pieces_of (map syntax c.args.parts.now)) (syntax c.in-Some.name.now) _ _
    (sym c.is_function.ensures ∙ c.if-is_function.true) c.in-Some.ensures c.in_ok-push_code-in-Some.ensures
