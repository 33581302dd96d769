use Rattle.std.proofs.Common.{arith, length-drop}
use Rattle.std.proofs.lemmas.List.{take_rest}
use Rattle.rl_base.proofs.KnownBytes.{Appends-twice_taken}
use Rattle.rl_base.proofs.io.write_all.Goals as goal

pub writing-preserved : goal.writing-preserved
writing-preserved g c =
    let bound = rw take_rest at c.in_ok-written.ensures.bound in
    record {
      within = omega (arith, bound, length-drop c.writing.written c.args.bytes.now);
      told = Appends-twice_taken _ _ _ c.args.bytes.now _ _ c.writing.invariant.told (rw take_rest at c.in_ok-written.ensures.bytes);
      monotone = omega (arith, c.writing.invariant.monotone, c.in_ok-written.ensures.monotone);
    }
