use Rattle.cv_leases_tests.proofs.tests.leases_of.Given as goal

abbrev pub ghosts-all_leases : goal.ghosts-all_leases
ghosts-all_leases a = record { name = a.blank.name; parts = a.blank.parts }
