use Rattle.timer.proofs.sequence.steps_of.Given as goal

abbrev pub ghosts-steps_by : goal.ghosts-steps_by
ghosts-steps_by a = record { name = a.blank.name; parts = a.blank.parts }
