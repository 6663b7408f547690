use Rattle.cv_leases.proofs.lease_table.LeaseTable.grant.Given as goal

abbrev pub ghosts-grant : goal.ghosts-grant
ghosts-grant a = record { name = a.blank.name; parts = a.blank.parts }
