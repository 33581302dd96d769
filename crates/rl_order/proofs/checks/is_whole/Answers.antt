use Rattle.std.proofs.Common.{true≢false, sym, ◌∙◌, arith}
use Rattle.rl_order.proofs.WholeGraphs.{all_inside, not_inside, one_more_inside}
use Rattle.rl_order.proofs.checks.is_whole.Goals as goal

pub returns-then-not-branch : goal.returns-then-not-branch
returns-then-not-branch g c = (
  λ f. absurd (true≢false (sym f)),
  λ whole. absurd (not_inside (g.B.Blocks.pairs c.args.hir.now.blocks) c.args.hir.now.entry c.loop-index.index (c.at.result.0, c.at.result.1.now)
      c.len-index-end.ensures.distinct c.at.ensures (sym c.in_ok-leads_inside.ensures ∙ c.if-not-branch.true) whole),
)

pub loop-index-preserved : goal.loop-index-preserved
loop-index-preserved g c =
    one_more_inside (g.B.Blocks.pairs c.args.hir.now.blocks) c.loop-index.index (c.at.result.0, c.at.result.1.now) c.at.ensures
    (sym c.in_ok-leads_inside.ensures ∙ c.if-not-branch.false) c.loop-index.invariant

pub returns : goal.returns
returns g c = (
  λ there. all_inside (g.B.Blocks.pairs c.args.hir.now.blocks) c.args.hir.now.entry c.loop-index.index (omega arith) c.loop-index.invariant (sym c.is_there.ensures ∙ there),
  λ whole. c.is_there.ensures ∙ whole.entry_there,
)
