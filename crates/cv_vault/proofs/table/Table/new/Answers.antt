use Rattle.cv_vault.proofs.Growing.{table_none}
use Rattle.cv_vault.proofs.table.Table.new.Goals as goal

pub invariant_of-result : goal.invariant_of-result
invariant_of-result c = table_none _ (record { entries = c.new-3.ensures.items; numbers = c.new-4.ensures.empty; unsettled = c.new-5.ensures.items; changes = c.in_ok-with_capacity.ensures.items })
