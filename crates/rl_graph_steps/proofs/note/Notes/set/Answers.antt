use Rattle.std.proofs.Common.{ap, ◌∙◌}
use Rattle.rl_machine.specs.Ends.{noted}
use Rattle.rl_graph_steps.specs.Notes.{note_of}
use Rattle.rl_graph_steps.proofs.Entries.{notes_set}
use Rattle.rl_graph_steps.proofs.note.Notes.set.Goals as goal

pub returns : goal.returns
returns c =
    notes_set c.make_room.new.self.entries.items c.args.block c.args.note c.in_ok-make_room.ensures.room
    ∙ ap (λ notes. noted notes c.args.block (note_of c.args.note)) c.in_ok-make_room.ensures.same
