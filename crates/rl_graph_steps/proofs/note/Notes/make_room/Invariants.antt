use Rattle.std.proofs.Common.{◌≡◌, ◌+◌, ◌-◌, length}
use Rattle.rl_graph_steps.specs.Notes.{notes_of}
use Rattle.rl_graph_steps.proofs.note.Notes.make_room.Given as goal

abbrev pub decreases-room : goal.decreases-room
decreases-room l = l.index + 1 - length l.self.entries.items

-- The notes are those of before.
abbrev pub invariant-room : goal.invariant-room
invariant-room l = notes_of l.self ≡ notes_of l.initial.self
