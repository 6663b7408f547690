-- The chain of records that a last id names.
use Rattle.std.specs.Prelude.{◌≡◌, ◌≢◌, ◌⊎◌, ℕ, zero, suc, List, [], ◌∷◌, ◌++◌, Vec, Some, None, Result, Ok, Err}
use Rattle.sha1.specs.Sha1.{sha1}
use Rattle.cv_base.specs.ObjectId.{object_id}
use Rattle.cv_base.specs.declared.id.Kind.TheVariants.{History}
use Rattle.cv_base.specs.declared.id.ObjectId.{ObjectId}
use Rattle.cv_ports.specs.Shelf.{Shelf, HasOtherDigest}
use Rattle.cv_history.specs.Record.{IsTyped, IsRecord, Spells, record_bytes}
use Rattle.cv_history.specs.declared.chain_fault.ChainFault.{ChainFault}
use Rattle.cv_history.specs.declared.chain_fault.ChainFault.TheVariants.{Missing, BadRecord, BadLink, Failed, Damaged, NoMemory}
use Rattle.cv_history.specs.declared.record.Record.{Record}

-- the id of the record before, by its hash
abbrev pub id_before : Record → ObjectId
id_before r = object_id r.previous History

-- the id has the hash of this record's bytes
pub record Names (id : ObjectId) (r : Record) : Type 0 where
  pub typed : IsTyped r
  pub limits : IsRecord r
  pub hash : sha1 (record_bytes r) ≡ id.hash

-- the record stands under the id
pub record StandsAt (shelf : Shelf) (id : ObjectId) (r : Record) : Type 0 where
  pub present : shelf id ≡ Some (record_bytes r)
  pub named : Names id r

-- a last record of this revision, and before it the records that its previous hash names
pub record Link (Holds : ObjectId → Record → Type 0) (Before : ObjectId → List Record → Type 0) (revision : ℕ) (id : ObjectId) (rs : List Record) : Type 0 where
  pub before : List Record
  pub last : Record
  pub split : rs ≡ before ++ last ∷ []
  pub holds : Holds id last
  pub is_revision : last.revision ≡ revision
  pub chain : Before (id_before last) before

-- the records from revision 1 on, so many, of which the last has this id
abbrev pub Chain : (ObjectId → Record → Type 0) → ℕ → ObjectId → List Record → Type 0
Chain Holds zero id rs = rs ≡ []
Chain Holds (suc n) id rs = Link Holds (Chain Holds n) (suc n) id rs

-- the bytes under the id are no record
pub record IsNoRecord (shelf : Shelf) (id : ObjectId) : Type 0 where
  pub bytes : List ℕ
  pub present : shelf id ≡ Some bytes
  pub hash : sha1 bytes ≡ id.hash
  pub none : (r : Record) → Spells bytes r → ⊥

-- the record under the id has this revision, and not the one wanted
pub record IsOther (shelf : Shelf) (id : ObjectId) (revision wanted : ℕ) : Type 0 where
  pub found : Record
  pub stands : StandsAt shelf id found
  pub is_revision : found.revision ≡ revision
  pub other : revision ≢ wanted

-- what is amiss at an id where the record of a revision is wanted
abbrev pub IsAmiss : Shelf → ℕ → ObjectId → ChainFault → Type 0
IsAmiss shelf wanted id (Missing at) = (at ≡ id) × (shelf id ≡ None)
IsAmiss shelf wanted id (BadRecord at) = (at ≡ id) × IsNoRecord shelf id
IsAmiss shelf wanted id (BadLink at revision other) = (at ≡ id) × (other ≡ wanted) × IsOther shelf id revision wanted
IsAmiss shelf wanted id Failed = ⊥
IsAmiss shelf wanted id (Damaged at found) = (at ≡ id) × HasOtherDigest shelf id found
IsAmiss shelf wanted id NoMemory = ⊥

-- the record of this revision stands under the id, and the chain breaks before it
pub record BreaksBefore (shelf : Shelf) (Broken : ObjectId → ChainFault → Type 0) (revision : ℕ) (id : ObjectId) (fault : ChainFault) : Type 0 where
  pub last : Record
  pub stands : StandsAt shelf id last
  pub is_revision : last.revision ≡ revision
  pub broken : Broken (id_before last) fault

-- there is no such chain, and this is the first that is amiss from the last record back
abbrev pub Breaks : Shelf → ℕ → ObjectId → ChainFault → Type 0
Breaks shelf zero id fault = ⊥
Breaks shelf (suc n) id fault = IsAmiss shelf (suc n) id fault ⊎ BreaksBefore shelf (Breaks shelf n) (suc n) id fault

-- the fault is where the chain breaks, unless the shelf failed or memory was wanted
abbrev pub MayBreak : Shelf → ℕ → ObjectId → ChainFault → Type 0
MayBreak shelf n id Failed = Unit {0}
MayBreak shelf n id NoMemory = Unit {0}
MayBreak shelf n id fault = Breaks shelf n id fault

-- the answer is the chain, or where it breaks
abbrev pub Gives : Shelf → ℕ → ObjectId → {Z : Type 0} → Result (Vec Record Z) ChainFault → Type 0
Gives shelf n id (Ok rs) = Chain (StandsAt shelf) n id rs.items
Gives shelf n id (Err fault) = MayBreak shelf n id fault

-- the answer is these records, unless the shelf failed or memory was wanted
abbrev pub IsList : {Z : Type 0} → Result (Vec Record Z) ChainFault → List Record → Type 0
IsList (Ok given) rs = given.items ≡ rs
IsList (Err Failed) rs = Unit {0}
IsList (Err NoMemory) rs = Unit {0}
IsList (Err fault) rs = ⊥

-- the answer is this fault, unless the shelf failed or memory was wanted
abbrev pub IsBroken : {X : Type 0} → Result X ChainFault → ChainFault → Type 0
IsBroken (Ok given) fault = ⊥
IsBroken (Err Failed) fault = Unit {0}
IsBroken (Err NoMemory) fault = Unit {0}
IsBroken (Err found) fault = found ≡ fault
