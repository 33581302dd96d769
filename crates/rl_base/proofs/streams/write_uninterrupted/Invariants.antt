use Rattle.std.specs.Io.KnownBytes.{Keeps}
use Rattle.rl_base.proofs.streams.write_uninterrupted.Given as goal

-- Calls that were interrupted appended nothing.
abbrev pub invariant-attempts : goal.invariant-attempts
invariant-attempts g l = Keeps (g.W.Write.contents l.fn.writer) (g.W.Write.contents l.writer)
