-- What opening a catalogue at its place answers. What only this crate's own functions say.
use Rattle.std.specs.Prelude.{◌≡◌, ℕ, List, Some, None, Result, Ok, Err}
use Rattle.sha1.specs.Sha1.{sha1}
use Rattle.cv_base.specs.declared.id.ObjectId.{ObjectId}
use Rattle.cv_ports.specs.Shelf.{Shelf, HasOtherDigest}
use Rattle.cv_rows.specs.Catalogue.{Contents}
use Rattle.cv_cut.specs.Reached.{Place, Decodes}
use Rattle.cv_cut.specs.declared.load_fault.LoadFault.{LoadFault}
use Rattle.cv_cut.specs.declared.load_fault.LoadFault.TheVariants as fault

-- the bytes under an id, or why not
abbrev pub Fetched : Shelf → ObjectId → Result (List ℕ) LoadFault → Type 0
Fetched shelf id (Ok bytes) = (shelf id ≡ Some bytes) × (sha1 bytes ≡ id.hash)
Fetched shelf id (Err (fault.Missing x)) = (x ≡ id) × (shelf id ≡ None)
Fetched shelf id (Err (fault.Bad x)) = ⊥
Fetched shelf id (Err fault.Failed) = Unit {0}
Fetched shelf id (Err (fault.Damaged x found)) = (x ≡ id) × HasOtherDigest shelf id found
Fetched shelf id (Err fault.NoMemory) = Unit {0}

-- the catalogue that the bytes under an id are at a place, or why not
abbrev pub Decoded : Place → List ℕ → ObjectId → Result Contents LoadFault → Type 0
Decoded place bytes id (Ok c) = Decodes place bytes c
Decoded place bytes id (Err (fault.Missing x)) = ⊥
Decoded place bytes id (Err (fault.Bad x)) = (x ≡ id) × ((c : Contents) → Decodes place bytes c → ⊥)
Decoded place bytes id (Err fault.Failed) = ⊥
Decoded place bytes id (Err (fault.Damaged x found)) = ⊥
Decoded place bytes id (Err fault.NoMemory) = Unit {0}
