-- Where objects stand.
use Rattle.std.specs.Prelude.{◌≢◌, ◌++◌, ℕ, Bool, ◌&&◌, List, length, codes, nat_eq, nat_lt, None, if◌then◌else◌}
use Rattle.std.specs.List.{list_all}
use Rattle.cv_base.specs.ObjectId.{id_text, file_name}
use Rattle.cv_base.specs.declared.id.ObjectId.{ObjectId}
use Rattle.cv_ports.specs.Shelf.{Shelf}
use Rattle.cv_vault.specs.Disk.{Disk, Files, files_now}
use Rattle.cv_vault.specs.Names.{Name}

-- the name of an object that is on its way
abbrev pub way_name : ObjectId → List ℕ
way_name id = codes "txn/" ++ id_text id

-- the name of a file that is no object, whatever its bytes
abbrev pub IsNoObject : Name → Type 0
IsNoObject n = (id : ObjectId) → n ≢ file_name id

abbrev pub is_byte : ℕ → Bool
is_byte b = nat_lt b 256

-- twenty bytes
abbrev pub is_digest : List ℕ → Bool
is_digest hash = nat_eq (length hash) 20 && list_all is_byte hash

-- the objects among files; what is no digest names none
abbrev pub objects_of : Files → Shelf
objects_of f id = if is_digest id.hash then f (file_name id) else None

-- the objects of a disk, as they stand now
abbrev pub standing_on : Disk → Shelf
standing_on d = objects_of (files_now d)
