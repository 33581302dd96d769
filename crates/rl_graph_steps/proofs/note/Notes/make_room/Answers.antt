use Rattle.std.proofs.Common.{ap, ◌∙◌}
use Rattle.rl_graph_steps.specs.Notes.{notes_in}
use Rattle.rl_graph_steps.proofs.Entries.{notes_more}
use Rattle.rl_graph_steps.proofs.note.Notes.make_room.Goals as goal

pub room-preserved : goal.room-preserved
room-preserved c = ap notes_in c.in_ok-push.ensures.items ∙ notes_more c.room.self.entries.items ∙ c.room.invariant
