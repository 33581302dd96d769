use Rattle.std.proofs.Common.{◌+◌, List, drop, ap, ◌∙◌, arith}
use Rattle.rl_builder.specs.Dropped.{refused_blocks}
use Rattle.rl_builder.proofs.Refusals.{all_refused, one_more_refused, with_more}
use Rattle.rl_hir.specs.Blocks.{Pair}
use Rattle.rl_hir.specs.declared.environment.Environment.{Environment}
use Rattle.rl_builder.proofs.graph.refuse_dropped.Goals as goal

pub loop-place-preserved : goal.loop-place-preserved
loop-place-preserved g c =
    let pairs : List Pair = g.B.Blocks.pairs c.args.blocks.now in
    let ordered : List Pair = g.B.Blocks.pairs c.args.ordered.now in
    ap (λ (env : Environment). with_more env (refused_blocks c.args.table.now ordered (drop (c.loop-place.place + 1) pairs))) c.in_ok-refuse_if_dropped.ensures.refused
    ∙ one_more_refused c.args.table.now ordered pairs c.loop-place.env c.loop-place.place (c.at.result.0, c.at.result.1.now) c.at.ensures
    ∙ c.loop-place.invariant

pub returns : goal.returns
returns g c =
    all_refused c.args.table.now (g.B.Blocks.pairs c.args.ordered.now) (g.B.Blocks.pairs c.args.blocks.now) c.loop-place.env c.loop-place.place (omega arith)
    ∙ c.loop-place.invariant
