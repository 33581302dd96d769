use Rattle.std.proofs.Common.{◌-◌, ◌≤◌, take, vec_len}
use Rattle.std.specs.Io.KnownBytes.{Consumes}
use Rattle.rl_base.proofs.io.read_up_to.Given as goal

abbrev pub invariant-reading : goal.invariant-reading
invariant-reading g l =
    record {
      filled : l.filled ≤ vec_len l.bytes;
      within : vec_len l.bytes ≤ l.most;
      told : Consumes (g.S.Source.left l.fn.source) (g.S.Source.left l.source) (take l.filled l.bytes.items);
      monotone : g.S.Source.faults l.fn.source ≤ g.S.Source.faults l.source;
    }

abbrev pub decreases-reading : goal.decreases-reading
decreases-reading g l = l.most - l.filled
