-- A pack of objects, and its bytes.
use Rattle.std.specs.Prelude.{◌≡◌, ◌≢◌, ℕ, ◌+◌, ◌≤◌, Bool, ◌&&◌, nat_lt, nat_le, List, ◌++◌, length, map, sum_by, codes, decimal, AllPairs}
use Rattle.std.specs.List.{flat_map, AllByRecursion}
use Rattle.sha1.specs.Sha1.{sha1}
use Rattle.cv_base.specs.ObjectId.{id_text}
use Rattle.cv_base.specs.declared.id.Kind.TheVariants.{History}
use Rattle.cv_base.specs.declared.id.ObjectId.{ObjectId}
use Rattle.cv_base.specs.declared.limits.TheConstants.{OBJECT_LIMIT}
use Rattle.cv_base.specs.declared.object.Object.{Object}
use Rattle.cv_pack.specs.declared.entry.Entry.{Entry}
use Rattle.cv_pack.specs.declared.header_reader.TheConstants.{COUNT_LIMIT, TOTAL_LIMIT}

abbrev pub entry : ObjectId → ℕ → Entry
entry id size = record { id = id; size = size }

-- what the header says of an object
abbrev pub entry_of : Object → Entry
entry_of o = entry o.id (length o.bytes)

-- the line of an object: its id, and the size of its content
abbrev pub line : Entry → List ℕ
line e = codes "C " ++ id_text e.id ++ codes " " ++ decimal e.size ++ codes "\n"

abbrev pub total_size : List Entry → ℕ
total_size es = sum_by (λ e. e.size) es

-- the header: the format, the bytes of all contents, the count of objects, and a line for each
abbrev pub header_of : List Entry → List ℕ
header_of es =
    codes "V2\nS" ++ decimal (total_size es) ++ codes "\nN" ++ decimal (length es) ++ codes "\n--\n" ++ flat_map line es

abbrev pub header_bytes : List Object → List ℕ
header_bytes os = header_of (map entry_of os)

-- the contents, one after another
abbrev pub contents : List Object → List ℕ
contents os = flat_map (λ o. o.bytes) os

-- the bytes of the pack of these objects
abbrev pub pack_bytes : List Object → List ℕ
pack_bytes os = header_bytes os ++ contents os

-- the ids of objects
abbrev pub ids : List Object → List ObjectId
ids os = map (λ o. o.id) os

-- an object that a pack may have: at most 16 MiB, its id that of its bytes, and no record of the history
pub record IsPacked (o : Object) : Type 0 where
  pub hash : o.id.hash ≡ sha1 o.bytes
  pub kind : o.id.kind ≢ History
  pub size : length o.bytes ≤ OBJECT_LIMIT

-- the objects of a pack: at most 10,000 of them, of 32 MiB in all, with an id each
pub record IsPack (os : List Object) : Type 0 where
  pub each : AllByRecursion IsPacked os
  pub distinct : AllPairs (λ a b. a ≢ b) (ids os)
  pub count : length os ≤ COUNT_LIMIT
  pub total : total_size (map entry_of os) ≤ TOTAL_LIMIT

-- the bytes of all contents
abbrev pub contents_size : List Object → ℕ
contents_size os = total_size (map entry_of os)

-- one more object with these bytes passes no limit
abbrev pub has_room : List Object → List ℕ → Bool
has_room os bytes = nat_lt (length os) COUNT_LIMIT && nat_le (length bytes) OBJECT_LIMIT && nat_le (contents_size os + length bytes) TOTAL_LIMIT
