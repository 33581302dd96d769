use Rattle.std.proofs.Common.{◌≡◌, drop}
use Rattle.rl_bindings.specs.Machines.{any_var}
use Rattle.rl_bindings.proofs.bindings.any_var.Given as goal

abbrev pub invariant-loop-event : goal.invariant-loop-event
invariant-loop-event l = any_var (drop l.event-index l.events) ≡ any_var l.events
