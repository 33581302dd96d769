use Rattle.std.proofs.Common.{◌≡◌, ◌++◌, drop}
use Rattle.rl_bindings.specs.Tables.{scopes_of}
use Rattle.rl_bindings.proofs.bindings.scopes_of.Given as goal

abbrev pub invariant-loop-event : goal.invariant-loop-event
invariant-loop-event l = l.found ++ scopes_of (drop l.event-index l.events) ≡ scopes_of l.events
