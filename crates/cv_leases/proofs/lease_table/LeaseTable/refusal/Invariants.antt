use Rattle.cv_leases.proofs.lease_table.LeaseTable.refusal.Given as goal

abbrev pub ghosts-overlapping : goal.ghosts-overlapping
ghosts-overlapping a = record { name = a.blank.name; parts = a.blank.parts }
