use Rattle.std.proofs.Common.{◌≡◌, ◌++◌, drop}
use Rattle.rl_resolver.specs.Containing.{methods_in}
use Rattle.rl_resolver.proofs.inside.methods.Given as goal

abbrev pub invariant-loop-entry : goal.invariant-loop-entry
invariant-loop-entry l = l.pairs ++ methods_in l.nodes (drop l.entry-index l.nodes) ≡ methods_in l.nodes l.nodes
