use Rattle.cv_leases.proofs.lease_table.LeaseTable.at.Given as goal

abbrev pub ghosts-at : goal.ghosts-at
ghosts-at a = record { name = a.blank.name; parts = a.blank.parts }
