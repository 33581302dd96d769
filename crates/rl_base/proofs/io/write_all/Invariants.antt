use Rattle.std.proofs.Common.{◌-◌, ◌≤◌, length, take}
use Rattle.std.specs.Io.KnownBytes.{Appends}
use Rattle.rl_base.proofs.io.write_all.Given as goal

abbrev pub invariant-writing : goal.invariant-writing
invariant-writing g l =
    record {
      within : l.written ≤ length l.bytes;
      told : Appends (g.K.Sink.held l.fn.sink) (g.K.Sink.held l.sink) (take l.written l.bytes);
      monotone : g.K.Sink.faults l.fn.sink ≤ g.K.Sink.faults l.sink;
    }

abbrev pub decreases-writing : goal.decreases-writing
decreases-writing g l = length l.bytes - l.written
