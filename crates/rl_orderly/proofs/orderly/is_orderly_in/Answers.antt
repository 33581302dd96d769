use Rattle.rl_model.specs.Marked.{marked}
use Rattle.rl_orderly.proofs.Whole.{unit_orderly}
use Rattle.rl_syntax.specs.Syntax.{syntax}
use Rattle.rl_orderly.proofs.orderly.is_orderly_in.Goals as goal

pub returns : goal.returns
returns c u is are =
    unit_orderly c.args.semantic.now c.in_ok-resolver.resolver.semantic.now u (syntax c.args.function.now) c.marked_at.result
    c.in_ok-result.result is c.in_ok-resolver.ensures (c.marked_at.ensures u are) (c.in_ok-result.ensures (marked u) are)
