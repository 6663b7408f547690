-- Contents that were begun: what reading them on from there gives. What only this crate's own functions say.
use Rattle.std.specs.Prelude.{◌≡◌, ℕ, true, false, List, [], ◌∷◌, ◌++◌, length, bytes_eq, Result, Ok, Err}
use Rattle.sha1.specs.Sha1.{sha1, Holds}
use Rattle.cv_pack.specs.declared.contents_reader.ContentsReader.{ContentsReader}
use Rattle.cv_pack.specs.declared.entry.Entry.{Entry}
use Rattle.cv_pack.specs.declared.pack_fault.PackFault.{PackFault}
use Rattle.cv_pack.specs.declared.pack_fault.PackFault.TheVariants.{HashDiffers, NoMemory}
use Rattle.cv_pack.specs.HeaderState.{Faults}
use Rattle.cv_pack.specs.Reading.{object}
use Rattle.cv_pack.specs.ContentsState.{IsOpen, contents_on, so_far}

-- a content was closed as that of this entry
pub record IsClosed (old new : ContentsReader) (e : Entry) : Type 0 where
  pub same : bytes_eq (sha1 old.begun.items) e.id.hash ≡ true
  pub objects : new.objects.items ≡ old.objects.items ++ object e.id old.begun.items ∷ []
  pub begun : new.begun.items ≡ []
  pub hash : Holds new.hasher []

abbrev pub Closes : ContentsReader → ContentsReader → Entry → Result Unit PackFault → Type 0
Closes old new e (Ok _) = IsClosed old new e
Closes old new e (Err NoMemory) = Unit {0}
Closes old new e (Err fault) = (bytes_eq (sha1 old.begun.items) e.id.hash ≡ false) × (fault ≡ HashDiffers (length old.objects.items))

-- reading these bytes leads from the old state to the new one
pub record Goes (old new : ContentsReader) (es : List Entry) (bytes : List ℕ) : Type 0 where
  pub is_open : IsOpen new es
  pub reads : (text : List ℕ) → contents_on old es (bytes ++ text) ≡ contents_on new es text

-- the same, and no content that is there whole is still open; or the fault of reading on
abbrev pub Reads : ContentsReader → ContentsReader → List Entry → List ℕ → Result Unit PackFault → Type 0
Reads old new es bytes (Ok _) = Goes old new es bytes × (contents_on new es [] ≡ so_far new es)
Reads old new es bytes (Err fault) = (text : List ℕ) → Faults fault (contents_on old es (bytes ++ text))
