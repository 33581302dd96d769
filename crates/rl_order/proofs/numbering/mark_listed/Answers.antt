use Rattle.std.proofs.Common.{◌+◌, ◌<◌, length, get_or, drop, sym, ap, ◌∙◌, arith}
use Rattle.std.proofs.lemmas.List.{at_drop_more}
use Rattle.rl_order.specs.Numbering.{ordered_list}
use Rattle.rl_order.proofs.NumberingSteps.{ordered_at-within}
use Rattle.rl_order.proofs.numbering.mark_listed.Goals as goal

pub loop-id-preserved : goal.loop-id-preserved
loop-id-preserved c =
    let index = (get_or c.args.listed.now c.loop-id.id-index (record { 0 = 0 })).0 in
    let within : index < length c.loop-id.table = omega (arith, c.requires.within c.loop-id.id-index (record { 0 = 0 }) c.loop-id-test.true) in
    record {
      table = ap (ordered_list (c.loop-id.order + 1 + 1) (drop (c.loop-id.id-index + 1) c.args.listed.now)) (sym (ordered_at-within (c.loop-id.order + 1) index c.loop-id.table _ within))
          ∙ sym (at_drop_more (λ left. ordered_list (c.loop-id.order + 1) left c.loop-id.table) c.args.listed.now c.loop-id.id-index (record { 0 = 0 }) c.loop-id-test.true)
          ∙ c.loop-id.invariant.table;
      last = omega arith;
    }
