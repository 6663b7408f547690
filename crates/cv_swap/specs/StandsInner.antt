-- Files that stand for what is kept. What only this crate's own functions say.
use Rattle.std.specs.Prelude.{codes}
use Rattle.cv_vault.specs.Names.{Name}

abbrev pub epoch_way : Name
epoch_way = codes "txn/epoch"
