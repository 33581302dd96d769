use Rattle.std.proofs.Common.{◌≡◌, [], drop}
use Rattle.rl_bindings.specs.Checks as check
use Rattle.rl_bindings.proofs.rules.lexical_of.Given as goal

abbrev pub invariant-loop-event : goal.invariant-loop-event
invariant-loop-event l = check.lexical_steps l.symbols (drop l.event-index l.events) ≡ check.lexical_steps [] l.events
