use Rattle.order_tests.proofs.passes.ordered.Given as goal

abbrev pub ghosts-ordered_by : goal.ghosts-ordered_by
ghosts-ordered_by g a = record { name = a.blank.name; parts = a.blank.parts }
