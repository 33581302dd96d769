use Rattle.std.proofs.Common.{arith, ◌∙◌}
use Rattle.rl_rules.proofs.Found.{next_found, none_found, smaller_behind}
use Rattle.rl_rules.proofs.marks.+finding.Goals as goal

pub find_among-returns-in-None : goal.find_among-returns-in-None
find_among-returns-in-None t c = none_found c.args.parts.now c.parts.part-index c.part-item.result c.parts-test.true c.part-item.is c.parts.by_then c.in-None.ensures ∙ c.parts.invariant.same

pub find_among-parts-preserved : goal.find_among-parts-preserved
find_among-parts-preserved t c = record {
  same = next_found c.args.parts.now c.parts.part-index c.part-item.result c.parts-test.true c.part-item.is c.parts.by_then c.in-Some.found c.in-Some.ensures ∙ c.parts.invariant.same;
  fewer = let s = smaller_behind c.args.parts.now c.parts.part-index c.part-item.result c.parts-test.true c.part-item.is in omega (arith, s, c.parts.invariant.fewer);
}
