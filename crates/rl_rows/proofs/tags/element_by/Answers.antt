use Rattle.std.proofs.Common.{map}
use Rattle.rl_rows.proofs.Found.{elements_some}
use Rattle.rl_syntax.specs.Syntax.{pieces_of, syntax}
use Rattle.rl_rows.proofs.tags.element_by.Goals as goal

pub returns-in-Some : goal.returns-in-Some
returns-in-Some c =
    elements_some (pieces_of (map syntax c.args.parts.now)) (syntax c.in-Some.opening.now)
    (syntax c.in-Some.children.now) _ c.in-Some.ensures c.element_of.ensures
