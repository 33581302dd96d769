use Rattle.order_tests.proofs.passes.pruned.Given as goal

abbrev pub ghosts-pruned_by : goal.ghosts-pruned_by
ghosts-pruned_by g a = record { name = a.blank.name; parts = a.blank.parts }
