use Rattle.std.proofs.Common.{◌+◌, ◌≤◌, length, vec_len, arith}
use Rattle.rl_base.proofs.KnownBytes.{read_more}
use Rattle.rl_base.proofs.io.read_up_to.Goals as goal

pub reading-preserved : goal.reading-preserved
reading-preserved g c =
    let in_part : c.in-Ok.count ≤ length c.take.new.buf = c.in-Ok.ensures.bound.0 in
    let fits : c.reading.filled + c.in-Ok.count ≤ vec_len c.make_room.new.bytes = omega (arith, in_part, c.take.auto.buf, c.deref_mut.ensures.len, c.in_ok-make_room.ensures.room) in
    record {
      filled = fits;
      within = c.make_room.ensures.within;
      told = read_more _ _ _ c.reading.filled c.in-Ok.count (vec_len c.make_room.new.bytes) c.reading.bytes.items c.deref_mut.result.now c.make_room.new.bytes.items c.take.new.buf _ c.reading.invariant.told
          c.make_room.ensures.kept c.deref_mut.ensures.value c.in-Ok.ensures.bytes.0 (omega (arith, c.deref_mut.ensures.len, c.in_ok-make_room.ensures.room)) in_part fits;
      monotone = omega (arith, c.reading.invariant.monotone, c.in-Ok.ensures.monotone);
    }
