use Rattle.std.proofs.Common.{◌+◌, sym, ◌∙◌, arith}
use Rattle.rl_text.proofs.Runs.{passed-block}
use Rattle.rl_text.proofs.scan.long_run_end.Goals as goal

pub skipping-preserved : goal.skipping-preserved
skipping-preserved g c = passed-block g.C.ByteClass.test c.args.bytes.now c.args.at c.skipping.end (c.skipping.end + 16) c.skipping.invariant (omega arith) (omega arith) (sym c.all_in.ensures ∙ c.if-all_in.true)
