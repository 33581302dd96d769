use Rattle.std.specs.Io.KnownBytes.{Keeps}
use Rattle.rl_base.proofs.streams.read_uninterrupted.Given as goal

-- Calls that were interrupted consumed nothing.
abbrev pub invariant-attempts : goal.invariant-attempts
invariant-attempts g l = Keeps (g.R.Read.remaining l.fn.reader) (g.R.Read.remaining l.reader)
