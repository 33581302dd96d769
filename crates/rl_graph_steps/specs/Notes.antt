-- The notes that those of a run stand for.
use Rattle.std.specs.Prelude.{Option, Some, None, List, slice_get}
use Rattle.std.specs.Option.{option_map}
use Rattle.rl_machine.specs.Ends.{Notes}
use Rattle.rl_machine.specs.Ends as ends
use Rattle.rl_graph_steps.specs.declared.note.Note.{Note}
use Rattle.rl_graph_steps.specs.declared.note.Note.TheVariants as note
use Rattle.rl_graph_steps.specs.declared.note.Notes.{Notes as Noted}

abbrev pub note_of : Note → ends.Note
note_of (note.Connects operator) = ends.Connects operator
note_of note.Chooses = ends.Chooses
note_of (note.Chains optional) = ends.Chains optional
note_of (note.Loops b) = ends.Loops b
note_of (note.Enumerates b) = ends.Enumerates b
note_of (note.Iterates b opened) = ends.Iterates b opened
note_of (note.Catches binding) = ends.Catches (option_map (λ i. i.0) binding)
note_of note.Passes = ends.Passes

abbrev pub note_at : Option (Option Note) → Option ends.Note
note_at (Some (Some n)) = Some (note_of n)
note_at (Some None) = None
note_at None = None

abbrev pub notes_in : List (Option Note) → Notes
notes_in entries = λ id. note_at (slice_get entries id)

abbrev pub notes_of : Noted → Notes
notes_of n = notes_in n.entries.items
