-- The catalogues on the way to a path.
use Rattle.std.specs.Prelude.{◌≡◌, ◌≢◌, ◌⊎◌, ℕ, Bool, true, List, [], length, Contains, None, Some, Result, Ok, Err, IsSomeAnd}
use Rattle.cv_base.specs.Path.{Path, covers}
use Rattle.cv_base.specs.declared.id.ObjectId.{ObjectId}
use Rattle.cv_base.specs.declared.id.Kind.TheVariants.{Catalogue}
use Rattle.cv_ports.specs.Shelf.{Shelf, HasOtherDigest}
use Rattle.std.specs.FinMap.{get}
use Rattle.cv_tree.specs.Tree.{Nodes, is_directory}
use Rattle.cv_rows.specs.Catalogue.{Contents}
use Rattle.cv_rows.specs.declared.nested.Nested.{Nested}
use Rattle.cv_rows.specs.declared.row.Row.{Row}
use Rattle.cv_cut.specs.Reached.{Place, HasCatalogue, root_place}
use Rattle.cv_cut.specs.Opening.{IsTransitionOf, IsUndecodable, IsUnread, below_id}
use Rattle.cv_cut.specs.declared.load_fault.LoadFault.{LoadFault}
use Rattle.cv_cut.specs.declared.load_fault.LoadFault.TheVariants as load
use Rattle.cv_graft.specs.declared.graft_fault.GraftFault.{GraftFault}
use Rattle.cv_graft.specs.declared.graft_fault.GraftFault.TheVariants as fault

-- where bytes of another digest are the cause, they stand under the id that is named, of an object that is one of these
abbrev pub TellsDamage : Shelf → (ObjectId → Type 0) → {X : Type 0} → Result X GraftFault → Type 0
TellsDamage shelf which (Ok x) = Unit {0}
TellsDamage shelf which (Err (fault.PathCollision a b)) = Unit {0}
TellsDamage shelf which (Err (fault.CatalogueFull c)) = Unit {0}
TellsDamage shelf which (Err fault.Failed) = Unit {0}
TellsDamage shelf which (Err (fault.Damaged id found)) = which id × HasOtherDigest shelf id found
TellsDamage shelf which (Err fault.NoMemory) = Unit {0}

-- the nested entry of a catalogue properly above the path
pub record IsNext (c : Contents) (p : Path) (n : Nested) : Type 0 where
  pub has : Contains c.nested n
  pub covered : covers n.path p ≡ true
  pub apart : p ≢ n.path

-- there is none
abbrev pub HasNone : Contents → Path → Type 0
HasNone c p = (n : Nested) → Contains c.nested n → covers n.path p ≡ true → p ≡ n.path

-- A catalogue on the way to a path below the root, by its hash and its place: the root's; and from one on the way that is there, the
-- one that its nested entry properly above the path names, under the entry's Transition row.
pub data IsOnWay (shelf : Shelf) (root : List ℕ) (p : Path) : List ℕ → Place → Type 0 where
  top : p ≢ [] → IsOnWay shelf root p root root_place
  next : {hash : List ℕ} {place : Place} {c : Contents} {n : Nested} {r : Row} → IsOnWay shelf root p hash place → HasCatalogue shelf hash place c
      → IsNext c p n → IsTransitionOf c n r → IsOnWay shelf root p n.hash (record { path = n.path; row = Some r })

-- the object under an id is a catalogue on the way
pub record IsOfWay (shelf : Shelf) (root : List ℕ) (p : Path) (id : ObjectId) : Type 0 where
  pub kind : id.kind ≡ Catalogue
  pub place : Place
  pub on : IsOnWay shelf root p id.hash place

-- in the one tree or the other
abbrev pub IsOfEither : Shelf → List ℕ → List ℕ → Path → ObjectId → Type 0
IsOfEither shelf root other p id = IsOfWay shelf root p id ⊎ IsOfWay shelf other p id

-- It is there, and is no catalogue at its place; or it states for the next one on the way a size that isn't the length of what is there.
pub data IsBadOnWay (shelf : Shelf) (root : List ℕ) (p : Path) (id : ObjectId) : Type 0 where
  undecodable : (on : IsOfWay shelf root p id) → IsUndecodable shelf id on.place → IsBadOnWay shelf root p id
  misstates : {c : Contents} {n : Nested} → (on : IsOfWay shelf root p id) → HasCatalogue shelf id.hash on.place c → IsNext c p n
      → IsSomeAnd (shelf (below_id n)) (λ bytes. length bytes ≢ n.size) → IsBadOnWay shelf root p id

-- why the catalogue that directly holds a path isn't found: one on the way is lacking, bad, or has another digest
abbrev pub BlamesWay : Shelf → List ℕ → Path → LoadFault → Type 0
BlamesWay shelf root p (load.Missing id) = IsOfWay shelf root p id × (shelf id ≡ None)
BlamesWay shelf root p (load.Bad id) = IsBadOnWay shelf root p id
BlamesWay shelf root p load.Failed = Unit {0}
BlamesWay shelf root p (load.Damaged id found) = IsOfWay shelf root p id × HasOtherDigest shelf id found
BlamesWay shelf root p load.NoMemory = Unit {0}

-- what a question for a directory answers
abbrev pub Tells : Nodes → Path → Result Bool LoadFault → Type 0
Tells t p (Ok found) = found ≡ is_directory (get t p)
Tells t p (Err f) = IsUnread f
