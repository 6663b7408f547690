-- What outlives a crash: the revisions, on a shelf, and how often the repository was opened.
use Rattle.std.specs.Prelude.{◌≡◌, ◌≢◌, ℕ, ◌+◌, ◌<◌, ◌≤◌, ◌^◌, ⊤, List, [], ◌∷◌, ◌++◌, length, map, Option, None, Some}
use Rattle.std.specs.List.{AllByRecursion, last_or}
use Rattle.sha1.specs.Sha1.{sha1}
use Rattle.cv_base.specs.declared.limits.TheConstants.{LAST_REVISION}
use Rattle.cv_base.specs.ObjectId.{object_id}
use Rattle.cv_base.specs.declared.id.Kind.TheVariants.{History}
use Rattle.cv_base.specs.declared.object.Object.{Object}
use Rattle.cv_ports.specs.Shelf.{Shelf, IsShelf}
use Rattle.cv_tree.specs.Tree.{Nodes, at, put}
use Rattle.cv_cut.specs.Catalogues.{cat}
use Rattle.cv_cut.specs.Means.{Means}
use Rattle.cv_history.specs.Record.{IsRecord, IsTyped, record_bytes}
use Rattle.cv_history.specs.declared.record.Record.{Record}
use Rattle.cv_manifest.specs.declared.head.Head.{Head}

-- a record of the history, with the tree that its root means
pub record Revision : Type 0 where
  pub record_ : Record
  pub tree : Nodes

abbrev pub newest : List Revision → Option Revision
newest history = last_or None history

abbrev pub object_of : Record → Object
object_of r = record { id = object_id (sha1 (record_bytes r)) History; bytes = record_bytes r }

abbrev pub record_object : Revision → Object
record_object r = object_of r.record_

-- the head of a record whose root catalogue has this size
abbrev pub head_with : Record → ℕ → Head
head_with r size = record { revision = r.revision; root = r.root; size = size; history = sha1 (record_bytes r); time = r.time }

-- the head of a revision
abbrev pub head_of : Revision → Head
head_of r = head_with r.record_ (length (cat r.tree []))

-- the record is in the grammar of records and on the shelf, and its root means the revision's tree
pub record IsRevision (shelf : Shelf) (r : Revision) : Type 0 where
  pub typed : IsTyped r.record_
  pub limits : IsRecord r.record_
  pub there : shelf (record_object r).id ≡ Some (record_object r).bytes
  pub tree : Means shelf r.record_.root r.tree

-- the next revision names its predecessor's record, and its tree is that of its predecessor with what stands at its path
-- in the tree that the offered root means
pub record Follows (shelf : Shelf) (before r : Revision) : Type 0 where
  pub is : IsRevision shelf r
  pub revision : r.record_.revision ≡ before.record_.revision + 1
  pub previous : r.record_.previous ≡ sha1 (record_bytes before.record_)
  pub offered : Nodes
  pub means : Means shelf r.record_.offered offered
  pub replaces : r.tree ≡ put before.tree r.record_.path (at offered r.record_.path)

abbrev pub FollowEachOther : Shelf → Revision → List Revision → Type 0
FollowEachOther shelf before [] = ⊤
FollowEachOther shelf before (r ∷ history) = Follows shelf before r × FollowEachOther shelf r history

-- the revisions from the first on, each of which follows the one before
abbrev pub IsLine : Shelf → List Revision → Type 0
IsLine shelf [] = ⊥
IsLine shelf (r ∷ history) = IsRevision shelf r × (r.record_.revision ≡ 1) × FollowEachOther shelf r history

-- no two have one tag, but none
abbrev pub TagsDiffer : List Revision → Type 0
TagsDiffer [] = ⊤
TagsDiffer (r ∷ history) = AllByRecursion (λ later. r.record_.tag ≢ [] → r.record_.tag ≢ later.record_.tag) history × TagsDiffer history

-- what holds of revisions and of the shelf on which they stand
pub record AreSound (shelf : Shelf) (history : List Revision) : Type 0 where
  pub hashes : IsShelf shelf
  pub line : IsLine shelf history
  pub revisions : length history ≤ LAST_REVISION
  pub tags : TagsDiffer history

-- what is kept
pub record Kept : Type 0 where
  pub history : List Revision
  pub shelf : Shelf
  pub epoch : ℕ

-- what holds of it at any time
pub record IsKept (k : Kept) : Type 0 where
  pub sound : AreSound k.shelf k.history
  pub epoch : k.epoch < 2 ^ 64

-- it, opened once more
abbrev pub raised : Kept → Kept
raised k = record k { epoch = k.epoch + 1 }

-- what is kept with a revision more
abbrev pub with_new : Kept → Revision → Kept
with_new k new = record k { history = k.history ++ new ∷ [] }

-- the records of revisions
abbrev pub records_of : List Revision → List Record
records_of history = map (λ r. r.record_) history
