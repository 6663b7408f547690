-- What is given for the object that a question wants.
use Rattle.std.specs.Prelude.{◌≡◌, ◌≢◌, ℕ, List, Option, Some, None, Ok, Err}
use Rattle.sha1.specs.Sha1.{sha1}
use Rattle.cv_base.specs.ObjectId.{object_id}
use Rattle.cv_base.specs.declared.id.ObjectId.{ObjectId}
use Rattle.cv_base.specs.declared.id.Kind.TheVariants.{Catalogue}
use Rattle.cv_rows.specs.Catalogue.{Contents}
use Rattle.cv_cut.specs.Reached.{Decodes}
use Rattle.cv_resolver.specs.Spot.{place_of}
use Rattle.cv_resolver.specs.Kept.{Kept, with_catalogue}
use Rattle.cv_resolver.specs.Stage.{wanted_by}
use Rattle.cv_resolver.specs.Progress.{Leads}
use Rattle.cv_resolver.specs.declared.question.Question.{Question}
use Rattle.cv_resolver.specs.declared.walk.Walk.{Walk}
use Rattle.cv_resolver.specs.declared.found.Found.TheVariants.{Bytes}
use Rattle.cv_resolver.specs.declared.found.ClientFault.{ClientFault}
use Rattle.cv_resolver.specs.declared.found.ClientFault.TheVariants.{BadObject, BadCatalogue, NotServed, NoMemory}
use Rattle.cv_resolver.specs.declared.stage.Stage.{Stage}
use Rattle.cv_resolver.specs.declared.stage.Stage.TheVariants.{Walks, Reads, Ends}

-- Bytes of the digest of the wanted catalogue were given. They decode at its place: the catalogue is kept, comes first, and
-- the walk goes on by what is kept; or they don't, and the answer says so; or there is no memory.
pub data TakesCatalogue (repository : List ℕ) (q : Question) (k : Kept) (w : Walk) (bytes : List ℕ) (after : Kept) (s : Stage) : Type 0 where
  opened : (c : Contents) → Decodes (place_of w.spot.level) bytes c → Leads repository q (with_catalogue k w.spot.level.hash c) w after s → TakesCatalogue repository q k w bytes after s
  bad : ((c : Contents) → Decodes (place_of w.spot.level) bytes c → ⊥) → after ≡ k → s ≡ Ends (Err (BadCatalogue (object_id w.spot.level.hash Catalogue))) → TakesCatalogue repository q k w bytes after s
  no_memory : after ≡ k → s ≡ Ends (Err NoMemory) → TakesCatalogue repository q k w bytes after s

-- What becomes of a question, and of the catalogues that are kept, by what is given for the object that it wants: nothing,
-- bytes of another digest, or bytes of its digest, which are the content of a file or the catalogue of a cut.
pub data Takes (repository : List ℕ) (q : Question) (k : Kept) (was : Stage) (given : Option (List ℕ)) (after : Kept) (s : Stage) : Type 0 where
  nothing : (id : ObjectId) → wanted_by was ≡ Some id → given ≡ None → after ≡ k → s ≡ Ends (Err (NotServed id)) → Takes repository q k was given after s
  other : (id : ObjectId) (bytes : List ℕ) → wanted_by was ≡ Some id → given ≡ Some bytes → sha1 bytes ≢ id.hash → after ≡ k
      → s ≡ Ends (Err (BadObject id (sha1 bytes))) → Takes repository q k was given after s
  content : (hash bytes : List ℕ) → was ≡ Reads hash → given ≡ Some bytes → sha1 bytes ≡ hash → after ≡ k → s ≡ Ends (Ok (Bytes bytes)) → Takes repository q k was given after s
  catalogue : (w : Walk) (bytes : List ℕ) → was ≡ Walks w → given ≡ Some bytes → sha1 bytes ≡ w.spot.level.hash → TakesCatalogue repository q k w bytes after s
      → Takes repository q k was given after s

-- ---- faults

-- the question is answered by the fault
abbrev pub EndsBy : Stage → ClientFault → Type 0
EndsBy s f = s ≡ Ends (Err f)

-- the fault blames the peer for this object
abbrev pub Blames : ClientFault → ObjectId → Type 0
Blames (BadObject id found) x = id ≡ x
Blames (BadCatalogue id) x = id ≡ x
Blames (NotServed id) x = id ≡ x
Blames fault x = ⊥

-- bytes of this digest were given, which isn't that of the id
pub record IsOther (given : Option (List ℕ)) (id : ObjectId) (found : List ℕ) : Type 0 where
  pub bytes : List ℕ
  pub is : given ≡ Some bytes
  pub digest : found ≡ sha1 bytes
  pub differs : found ≢ id.hash

-- bytes of the digest of the wanted catalogue were given, which don't decode at its place
pub record IsUndecoded (was : Stage) (given : Option (List ℕ)) : Type 0 where
  pub walk : Walk
  pub walks : was ≡ Walks walk
  pub bytes : List ℕ
  pub is : given ≡ Some bytes
  pub digest : sha1 bytes ≡ walk.spot.level.hash
  pub none : (c : Contents) → Decodes (place_of walk.spot.level) bytes c → ⊥
