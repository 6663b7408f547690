-- What stands under the ids of objects, and what a shelf answers of it.
use Rattle.std.specs.Prelude.{◌≡◌, ◌≢◌, ℕ, List, length, Option, Some, None, Result, Ok, Err, if◌then◌else◌}
use Rattle.std.specs.Option.{option_map}
use Rattle.std.specs.Str.{bytes_eq}
use Rattle.sha1.specs.Sha1.{sha1}
use Rattle.cv_base.specs.Digest.{IsDigest}
use Rattle.cv_base.specs.declared.id.ObjectId.{ObjectId}
use Rattle.cv_ports.specs.declared.shelf.ShelfFault.{ShelfFault}
use Rattle.cv_ports.specs.declared.shelf.ShelfFault.TheVariants.{Failed, Damaged, NoMemory}

-- the bytes that stand under each id, if any do
abbrev pub Shelf : Type 0
Shelf = ObjectId → Option (List ℕ)

-- what stands under an id has the id's hash
pub record IsShelf (shelf : Shelf) : Type 0 where
  pub hash : (id : ObjectId) (bytes : List ℕ) → shelf id ≡ Some bytes → id.hash ≡ sha1 bytes

-- the second shelf has what the first has
abbrev pub HasMore : Shelf → Shelf → Type 0
HasMore shelf more = (id : ObjectId) (bytes : List ℕ) → shelf id ≡ Some bytes → more id ≡ Some bytes

-- bytes stand under the id, and this digest of theirs is another than its hash
pub record HasOtherDigest (shelf : Shelf) (id : ObjectId) (found : List ℕ) : Type 0 where
  pub bytes : List ℕ
  pub there : shelf id ≡ Some bytes
  pub digest : found ≡ sha1 bytes
  pub other : found ≢ id.hash

-- what stands under an id, as a fetch gives it: the bytes where they have the id's hash, and their own digest where they have another
abbrev pub fetched : ObjectId → Option (List ℕ) → Result (Option (List ℕ)) ShelfFault
fetched id None = Ok None
fetched id (Some bytes) = if bytes_eq (sha1 bytes) id.hash then Ok (Some bytes) else Err (Damaged id (sha1 bytes))

-- what a fetch answers of what stands under the id, unless the shelf failed or memory was wanted
abbrev pub Gives : ObjectId → Option (List ℕ) → Result (Option (List ℕ)) ShelfFault → Type 0
Gives id stands (Err Failed) = Unit {0}
Gives id stands (Err NoMemory) = Unit {0}
Gives id stands answer = answer ≡ fetched id stands

-- the same of a shelf
abbrev pub Fetches : ObjectId → Result (Option (List ℕ)) ShelfFault → Shelf → Type 0
Fetches id answer shelf = Gives id (shelf id) answer

-- the answer alone says of an id: bytes have its hash, and damage is that of this id, with a digest that isn't its hash
abbrev pub Suits : ObjectId → Result (Option (List ℕ)) ShelfFault → Type 0
Suits id (Ok None) = Unit {0}
Suits id (Ok (Some bytes)) = sha1 bytes ≡ id.hash
Suits id (Err Failed) = Unit {0}
Suits id (Err (Damaged named found)) = (named ≡ id) × IsDigest found × (found ≢ id.hash)
Suits id (Err NoMemory) = Unit {0}

-- what the length of an object is answered with: that of the bytes that stand under the id, whatever their digest
abbrev pub Measures : ObjectId → Result (Option ℕ) ShelfFault → Shelf → Type 0
Measures id (Ok len) shelf = len ≡ option_map length (shelf id)
Measures id (Err fault) shelf = Unit {0}

-- the shelf failed or memory was wanted, and nothing was said of bytes
abbrev pub IsUnread : ShelfFault → Type 0
IsUnread Failed = Unit {0}
IsUnread (Damaged named found) = ⊥
IsUnread NoMemory = Unit {0}
