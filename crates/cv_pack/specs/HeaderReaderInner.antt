-- What a reader of a header holds, and what it stands for.
use Rattle.std.specs.Prelude.{◌≤◌, length}
use Rattle.cv_pack.specs.HeaderState.{Begun}
use Rattle.cv_pack.specs.declared.header_reader.HeaderReader.TheInside.{Inside}
use Rattle.cv_pack.specs.declared.header_reader.TheConstants.{HEADER_LIMIT}

abbrev pub begun_of : Inside → Begun
begun_of r = record { field = r.field; total = r.total; left = r.left; entries = r.entries; digits = r.digits.items; line = r.line; at = r.at }

-- each line that was read has a byte at least, and a header has at most 1 MiB
pub record IsBegun (r : Inside) : Type 0 where
  pub few : length r.entries ≤ r.at
  pub short : r.at ≤ HEADER_LIMIT
