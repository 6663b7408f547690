use Rattle.cv_links_tests.proofs.tests.lanes_are_apart.Given as goal

abbrev pub ghosts-lanes : goal.ghosts-lanes
ghosts-lanes g a = record { name = a.blank.name; parts = a.blank.parts }
