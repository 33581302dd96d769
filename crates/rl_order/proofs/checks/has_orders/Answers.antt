use Rattle.std.proofs.Common.{true≢false, refl, sym, ◌∙◌, arith}
use Rattle.rl_order.proofs.WholeGraphs.{all_orders, no_room, not_within, one_more_order, one_more_within}
use Rattle.rl_order.proofs.checks.has_orders.Goals as goal

pub returns-then-not-are_within : goal.returns-then-not-are_within
returns-then-not-are_within g c = (
  λ f. absurd (true≢false (sym f)),
  λ have. absurd (not_within c.args.table (g.B.Blocks.pairs c.args.hir.now.blocks) c.loop-index.index (c.at.result.0, c.at.result.1.now) c.at.ensures
      c.as_slice-listed.result.now c.as_slice-listed.ensures (λ all. true≢false (sym (c.are_within.ensures.1 all) ∙ c.if-not-are_within.true)) have),
)

pub returns-then-listed-count : goal.returns-then-listed-count
returns-then-listed-count g c = (
  λ f. absurd (true≢false (sym f)),
  λ have. absurd (no_room c.args.table (g.B.Blocks.pairs c.args.hir.now.blocks) c.loop-index.index (c.at.result.0, c.at.result.1.now) c.at.ensures
      c.as_slice-listed.result.now c.as_slice-listed.ensures c.loop-index.count c.loop-index.invariant.room (omega arith) have),
)

pub loop-index-preserved : goal.loop-index-preserved
loop-index-preserved g c =
    record {
      within = one_more_within c.args.table (g.B.Blocks.pairs c.args.hir.now.blocks) c.loop-index.index (c.at.result.0, c.at.result.1.now) c.at.ensures
          c.as_slice-listed.result.now c.as_slice-listed.ensures (c.are_within.ensures.0 c.if-not-are_within.false) c.loop-index.invariant.within;
      room = one_more_order c.args.table (g.B.Blocks.pairs c.args.hir.now.blocks) c.loop-index.index (c.at.result.0, c.at.result.1.now) c.at.ensures
          c.as_slice-listed.result.now c.as_slice-listed.ensures c.loop-index.count c.loop-index.invariant.room;
    }

pub returns : goal.returns
returns g c = (
  λ t. all_orders c.args.table (g.B.Blocks.pairs c.args.hir.now.blocks) c.loop-index.index c.loop-index.count (omega arith) c.loop-index.invariant.within c.loop-index.invariant.room
      (let fits = c.loop-index.auto.count-fits in omega (arith, fits)),
  λ have. refl,
)
