use Rattle.cv_leases.proofs.lease_table.LeaseTable.find.Given as goal

abbrev pub ghosts-find : goal.ghosts-find
ghosts-find a = record { name = a.blank.name; parts = a.blank.parts }
