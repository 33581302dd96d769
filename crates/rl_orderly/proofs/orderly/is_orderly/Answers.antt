use Rattle.std.proofs.Common.{option_map, sym, ◌∙◌}
use Rattle.rl_orderly.proofs.Whole.{orderly_none, orderly_value}
use Rattle.rl_syntax.specs.Syntax.{syntax}
use Rattle.rl_orderly.proofs.orderly.is_orderly.Goals as goal

pub returns-in-Some : goal.returns-in-Some
returns-in-Some c is =
    orderly_value (syntax c.args.unit.now.tree) (option_map (λ n. n.0) c.args.function) c.in-Some.orderly
    (sym c.in-Some.is ∙ c.in_ok-found.ensures is)

pub returns-in-None : goal.returns-in-None
returns-in-None c is =
    orderly_none (syntax c.args.unit.now.tree) (option_map (λ n. n.0) c.args.function) (sym c.in-None.is ∙ c.in_ok-found.ensures is)
