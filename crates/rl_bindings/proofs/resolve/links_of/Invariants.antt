use Rattle.rl_bindings.proofs.Links.{AreLinked}
use Rattle.rl_bindings.proofs.resolve.links_of.Given as goal

abbrev pub invariant-symbols : goal.invariant-symbols
invariant-symbols l = AreLinked l.symbols l.last.items l.earlier.items l.number
