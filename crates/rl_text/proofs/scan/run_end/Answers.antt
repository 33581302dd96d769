use Rattle.std.proofs.Common.{sym, ◌∙◌}
use Rattle.rl_text.proofs.Runs.{passed-more}
use Rattle.rl_text.proofs.scan.run_end.Goals as goal

pub running-preserved : goal.running-preserved
running-preserved g c = passed-more g.C.ByteClass.test c.args.bytes.now c.args.at c.running.end c.running.invariant c.running-test.true (sym c.contains.ensures ∙ c.if-contains.true)
