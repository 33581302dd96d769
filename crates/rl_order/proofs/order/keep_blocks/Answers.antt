use Rattle.rl_order.proofs.KeptBlocks.{keeping_begins, keeping_goes_on}
use Rattle.rl_order.proofs.order.keep_blocks.Goals as goal

pub loop-id-init : goal.loop-id-init
loop-id-init g c =
    keeping_begins (g.B.Blocks.pairs c.args.blocks.now) c.args.walked
    (g.B.Blocks.pairs c.empty-ordered.result) c.requires c.empty-ordered.ensures

pub loop-id-preserved : goal.loop-id-preserved
loop-id-preserved g c =
    keeping_goes_on (g.B.Blocks.pairs c.args.blocks.now) c.args.walked (g.B.Blocks.pairs c.loop-id.ordered)
    (g.B.Blocks.pairs c.keep_block.new.ordered) c.loop-id.walked c.pop.new.self c.in-Some.id c.loop-id.invariant
    c.in-Some.ensures.appended c.in-Some.ensures.rest c.in_ok-keep_block.ensures
