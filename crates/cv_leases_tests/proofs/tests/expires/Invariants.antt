use Rattle.cv_leases_tests.proofs.tests.expires.Given as goal

abbrev pub ghosts-expire : goal.ghosts-expire
ghosts-expire a = record { name = a.blank.name; parts = a.blank.parts }
