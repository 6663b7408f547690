use Rattle.cv_leases.proofs.lease_table.LeaseTable.end.Given as goal

abbrev pub ghosts-end : goal.ghosts-end
ghosts-end a = record { name = a.blank.name; parts = a.blank.parts }
