use Rattle.cv_links_tests.proofs.tests.lists_are_as_those_of_python.Given as goal

abbrev pub ghosts-all_runs : goal.ghosts-all_runs
ghosts-all_runs g a = record { name = a.blank.name; parts = a.blank.parts }
