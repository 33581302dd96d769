use Rattle.std.proofs.Common.{◌≡◌, ◌-◌, drop, take, length}
use Rattle.rl_bindings.specs.Machines as machine
use Rattle.rl_bindings.proofs.resolve.leave.Given as goal

abbrev pub invariant-saved : goal.invariant-saved
invariant-saved l = record {
  env : machine.undo (drop l.start l.saved.items) l.env ≡ machine.undo (drop l.start l.initial.saved.items) l.initial.env;
  saved : take l.start l.saved.items ≡ take l.start l.initial.saved.items;
}

abbrev pub decreases-saved : goal.decreases-saved
decreases-saved l = length l.saved.items - l.start
