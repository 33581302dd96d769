use Rattle.std.proofs.Common.{◌≡◌, ◌++◌, ◌||◌, [], drop, reverse}
use Rattle.std.specs.List.{list_any}
use Rattle.rl_bindings.specs.Machines as machine
use Rattle.rl_bindings.specs.NameRules.{is_passing}
use Rattle.rl_bindings.specs.Standing.{references}
use Rattle.rl_bindings.proofs.resolve.run.Given as goal

abbrev pub invariant-loop-event : goal.invariant-loop-event
invariant-loop-event l = record {
  references : l.found ++ references (machine.run (machine.entries_at l.table) l.env (machine.frames_at (reverse l.starts.items) l.saved.items) (drop l.event-index l.events)) ≡ references (machine.run (machine.entries_at l.table) l.initial.env [] l.events);
  passing : (l.passing || list_any (is_passing l.table) (machine.run (machine.entries_at l.table) l.env (machine.frames_at (reverse l.starts.items) l.saved.items) (drop l.event-index l.events))) ≡ list_any (is_passing l.table) (machine.run (machine.entries_at l.table) l.initial.env [] l.events);
}
