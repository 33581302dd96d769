use Rattle.std.proofs.Common.{arith, sym, ap, ◌∙◌}
use Rattle.rl_graph_run.proofs.Tables.{bound_empty, bound_last, bound_none, bound_over}
use Rattle.rl_graph_run.proofs.numbers.symbol_bound.Goals as goal

pub pairs-init : goal.pairs-init
pairs-init c = record { same = bound_none c.args.pairs.now; fits = omega arith }

pub pairs-preserved : goal.pairs-preserved
pairs-preserved c = record {
  same = ap (bound_over c.in-Some.rest.now) c.raised-bound.ensures.bound
      ∙ sym (bound_last c.in-Some.rest.now c.in-Some.pair.now c.pairs.bound)
      ∙ ap (λ ps. bound_over ps c.pairs.bound) (sym c.in-Some.ensures.cases.0)
      ∙ c.pairs.invariant.same;
  fits = c.raised-bound.ensures.fits c.pairs.invariant.fits;
}

pub returns-clause-bound : goal.returns-clause-bound
returns-clause-bound c = sym (bound_empty c.pairs.left.now c.pairs.bound c.in_default.ensures.cases) ∙ c.pairs.invariant.same
