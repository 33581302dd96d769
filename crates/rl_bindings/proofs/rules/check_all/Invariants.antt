use Rattle.std.proofs.Common.{◌≡◌, drop}
use Rattle.rl_bindings.specs.Checks as check
use Rattle.rl_bindings.proofs.rules.check_all.Given as goal

abbrev pub invariant-loop-event : goal.invariant-loop-event
invariant-loop-event l = check.steps l.found (drop l.event-index l.events) ≡ check.steps check.start l.events
