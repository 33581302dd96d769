use Rattle.std.proofs.Common.{arith}
use Rattle.rl_text.proofs.Measuring.{measured_open}
use Rattle.rl_text.proofs.measure.measure.Goals as goal

pub measuring-preserved-then-byte-eq40 : goal.measuring-preserved-then-byte-eq40
measuring-preserved-then-byte-eq40 c = record {
  within = omega arith;
  measured = measured_open c.args.bytes.now c.measuring.at c.measuring.nodes c.measuring.depth c.measuring.deepest c.measuring-test.true c.measuring.invariant.measured _ c.max-deepest.ensures c.if-byte-eq40.true;
}
