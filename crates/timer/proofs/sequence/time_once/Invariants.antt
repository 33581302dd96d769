use Rattle.timer.proofs.sequence.time_once.Given as goal

abbrev pub ghosts-times_by : goal.ghosts-times_by
ghosts-times_by g a = record { name = a.blank.name; parts = a.blank.parts }
