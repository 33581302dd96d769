use Rattle.std.proofs.Common.{◌++◌, [], sym, ◌∙◌}
use Rattle.rl_promises.proofs.Covering.{first_last}
use Rattle.rl_promises.specs.Covered.{uncovered}
use Rattle.rl_syntax.specs.Syntax.{syntax}
use Rattle.rl_covered.proofs.covered.first_in_arrow.Goals as goal

pub returns : goal.returns
returns c =
    c.first_of.ensures (uncovered (syntax c.args.arrow.params.tree.now)) (uncovered (syntax c.args.arrow.body.tree.now) ++ [])
    c.least_in-params.ensures
    (c.least_in.ensures ∙ sym (first_last (uncovered (syntax c.args.arrow.body.tree.now))))
