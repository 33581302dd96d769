use Rattle.std.proofs.Common.{◌∙◌, sym}
use Rattle.indexmap.proofs.MapLemmas.{OnOk-map}
use Rattle.rl_order.proofs.KeptBlocks.{keep_noted, keep_used}
use Rattle.rl_order.proofs.order.keep_block.Goals as goal

pub returns-then-is_used : goal.returns-then-is_used
returns-then-is_used g c =
    OnOk-map c.put.result _ _
    (keep_used (g.B.Blocks.pairs c.args.blocks.now) (g.B.Blocks.pairs c.args.ordered.now)
    (g.B.Blocks.pairs c.put.new.self) c.args.walked.now c.args.id c.in-Some.block.now c.in_ok-copy.field-0 c.requires
    c.in-Some.ensures
    (sym c.is_used.ensures ∙ c.if-is_used.true) c.in_ok-copy.ensures)
    c.put.ensures.ok

pub returns-then-is_noted : goal.returns-then-is_noted
returns-then-is_noted g c =
    OnOk-map c.put-then-is_noted.result _ _
    (keep_noted (g.B.Blocks.pairs c.args.blocks.now) (g.B.Blocks.pairs c.args.ordered.now)
    (g.B.Blocks.pairs c.put-then-is_noted.new.self) c.args.walked.now c.args.id c.in-Some.block.now
    c.in_ok-emptied.field-0 c.requires
    c.in-Some.ensures (sym c.is_used.ensures ∙ c.if-is_used.false)
    (sym c.is_noted.ensures ∙ c.if-is_noted.true) c.in_ok-emptied.ensures)
    c.put-then-is_noted.ensures.ok
