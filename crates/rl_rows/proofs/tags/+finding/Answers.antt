use Rattle.std.proofs.Common.{map}
use Rattle.rl_rows.proofs.Found.{parts_some}
use Rattle.rl_syntax.specs.Syntax.{pieces_of, syntax}
use Rattle.rl_rows.proofs.tags.+finding.Goals as goal

pub push_parts-returns-in_ok-push_element-in-Some : goal.push_parts-returns-in_ok-push_element-in-Some
push_parts-returns-in_ok-push_element-in-Some t c =
    parts_some c.args.namespace.now (pieces_of (map syntax c.args.parts.now)) (syntax c.in-Some.opening.now)
    (syntax c.in-Some.children.now) _ _ c.in-Some.ensures c.in_ok-push_element-in-Some.ensures
