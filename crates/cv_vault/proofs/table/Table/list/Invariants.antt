use Rattle.std.proofs.Common.{◌++◌}
use Rattle.std.specs.List.{filter}
use Rattle.std.specs.String.{string_bytes}
use Rattle.cv_vault.specs.Disk.{IsListing}
use Rattle.cv_vault.specs.TableInner.{is_listed, table_disk}
use Rattle.cv_vault.proofs.Ordered.{names_of}
use Rattle.cv_vault.proofs.Listing.{AreLeft}
use Rattle.cv_vault.proofs.table.Table.list.Given as goal

abbrev pub invariant-loop-name : goal.invariant-loop-name
invariant-loop-name l = record {
  so_far : IsListing (table_disk l.self) l.prefix (l.listed.items ++ filter (is_listed (table_disk l.self) l.prefix) (names_of string_bytes l.name-iterator));
  left : AreLeft l.self l.prefix l.name-iterator;
}
