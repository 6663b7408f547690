-- Files that stand for what is kept.
use Rattle.std.specs.Prelude.{◌≡◌, ℕ, Bool, List, [], ◌∷◌, ◌++◌, length, codes, decimal, None, Some}
use Rattle.cv_base.specs.ObjectId.{object_id}
use Rattle.cv_base.specs.declared.id.Kind.TheVariants.{Catalogue, History}
use Rattle.cv_base.specs.declared.id.ObjectId.{ObjectId}
use Rattle.cv_base.specs.declared.object.Object.{Object}
use Rattle.cv_ports.specs.Shelf.{Shelf}
use Rattle.cv_vault.specs.Names.{Name}
use Rattle.cv_vault.specs.Disk.{Disk, Files, File}
use Rattle.cv_history.specs.declared.record.Record.{Record}
use Rattle.cv_manifest.specs.Manifest.{Says, manifest_name, manifest_text}
use Rattle.cv_manifest.specs.declared.head.Head.{Head}
use Rattle.cv_manifest.specs.declared.manifest.Manifest.{Manifest}
use Rattle.cv_manifest.specs.declared.manifest.TheConstants.{TIME_TO_LIVE}
use Rattle.cv_objects.specs.Coming.{ShelfGains}
use Rattle.cv_objects.specs.Names.{objects_of, standing_on}
pub use Rattle.cv_swap.specs.Kept.{head_with, head_of}
use Rattle.cv_swap.specs.Kept.{Kept, IsKept, AreSound, Revision, newest}

-- where the manifest and the epoch stand, and the names by which they come there
abbrev pub head_name : Name
head_name = manifest_name

abbrev pub head_way : Name
head_way = codes "txn/manifest"

abbrev pub epoch_name : Name
epoch_name = codes "gateway.epoch"

-- the epoch's file: its decimal digits and a newline
abbrev pub epoch_text : ℕ → List ℕ
epoch_text epoch = decimal epoch ++ 10 ∷ []

-- the length of a file, or nothing's
abbrev pub size_of : File → ℕ
size_of None = 0
size_of (Some bytes) = length bytes

-- the head of a record, whose root catalogue stands on the shelf
abbrev pub head_on : Shelf → Record → Head
head_on shelf r = head_with r (size_of (shelf (object_id r.root Catalogue)))

-- the id of a head's record
abbrev pub history_id : Head → ObjectId
history_id head = object_id head.history History

-- the bytes of a head's manifest
abbrev pub head_text : (List ℕ → List ℕ) → List ℕ → Head → List ℕ
head_text seal_of name head = manifest_text seal_of (record { name = name; ttl = TIME_TO_LIVE; head = head })

-- the file at the head says a manifest of this name
pub record Publishes (name : List ℕ) (is_seal : List ℕ → List ℕ → Bool) (file : File) (head : Head) : Type 0 where
  pub text : List ℕ
  pub present : file ≡ Some text
  pub manifest : Manifest
  pub says : Says is_seal text manifest
  pub named : manifest.name ≡ name
  pub is : manifest.head ≡ head

-- the files stand for what is kept, for the repository of this name whose seals are these
pub record Stands (name : List ℕ) (is_seal : List ℕ → List ℕ → Bool) (f : Files) (k : Kept) : Type 0 where
  pub newest_ : Revision
  pub is_newest : newest k.history ≡ Some newest_
  pub head : Publishes name is_seal (f head_name) (head_of newest_)
  pub shelf : (id : ObjectId) → k.shelf id ≡ objects_of f id
  pub epoch : f epoch_name ≡ Some (epoch_text k.epoch)
  pub kept : IsKept k

-- the files stand for these revisions, on the shelf of their own objects, opened so often
abbrev pub HasRevisions : List ℕ → (List ℕ → List ℕ → Bool) → List Revision → ℕ → Files → Type 0
HasRevisions name is_seal history epoch f = Stands name is_seal f (record { history = history; shelf = objects_of f; epoch = epoch })

-- the second files are the first ones with some of these objects more, under whose names no file was
pub record AddObjects (batch : List Object) (f g : Files) : Type 0 where
  pub head_ : g head_name ≡ f head_name
  pub epoch_ : g epoch_name ≡ f epoch_name
  pub shelf_ : ShelfGains batch (objects_of f) (objects_of g)

-- a revision that may come: its record and its manifest, on the shelf as it is
pub record CanCome (name : List ℕ) (is_seal : List ℕ → List ℕ → Bool) (k : Kept) (new : Revision) (manifest : List ℕ) : Type 0 where
  pub sound : AreSound k.shelf (k.history ++ new ∷ [])
  pub says : Publishes name is_seal (Some manifest) (head_of new)

-- a first revision alone is kept, on the shelf that stands on a disk
abbrev pub first_kept : Disk → Revision → Kept
first_kept d first = record { history = first ∷ []; shelf = standing_on d; epoch = 0 }

-- it may come: with its objects it is sound, and this is its manifest
pub record CanBegin (name : List ℕ) (is_seal : List ℕ → List ℕ → Bool) (d : Disk) (first : Revision) (manifest : List ℕ) : Type 0 where
  pub sound : AreSound (standing_on d) (first ∷ [])
  pub says : Publishes name is_seal (Some manifest) (head_of first)
