-- What is made of the catalogues on the way to a path. What only this crate's own functions say.
use Rattle.std.specs.Prelude.{◌≡◌, ℕ, List, [], ◌∷◌, ◌++◌, length, Result, Ok, Err}
use Rattle.sha1.specs.Sha1.{sha1}
use Rattle.cv_base.specs.Path.{Path}
use Rattle.cv_base.specs.ObjectId.{object_id}
use Rattle.cv_base.specs.declared.id.Kind.TheVariants.{Catalogue}
use Rattle.cv_base.specs.declared.id.ObjectId.{ObjectId}
use Rattle.cv_base.specs.declared.object.Object.{Object}
use Rattle.cv_ports.specs.Shelf.{Shelf}
use Rattle.cv_rows.specs.Catalogue.{Contents, catalogue_bytes}
use Rattle.cv_cut.specs.Reached.{Place, HasCatalogue, root_place}
use Rattle.cv_graft.specs.Directories.{IsHolder}
use Rattle.cv_graft.specs.Makes.{Makes, as_object}
use Rattle.cv_graft.specs.Way.{IsOnWay}
use Rattle.cv_graft.specs.declared.grafted.Grafted.{Grafted}
use Rattle.cv_graft.specs.declared.made.Made.{Made}
use Rattle.cv_graft.specs.declared.graft_fault.GraftFault.{GraftFault}
use Rattle.cv_graft.specs.declared.graft_fault.GraftFault.TheVariants as fault

-- what becomes of the last catalogue on a way, into which something is put: another one, or two paths share a key, or a catalogue is full
pub record Outcomes : Type 1 where
  pub becomes : Contents → Contents → Type 0
  pub collides : Contents → Path → Path → Type 0
  pub fills : Contents → Path → Type 0

-- the one of them that is answered, if memory isn't wanting
abbrev pub Joins : Outcomes → Contents → Result Contents GraftFault → Type 0
Joins x c (Ok made) = x.becomes c made
Joins x c (Err (fault.PathCollision a b)) = x.collides c a b
Joins x c (Err (fault.CatalogueFull d)) = x.fills c d
Joins x c (Err fault.Failed) = ⊥
Joins x c (Err (fault.Damaged id found)) = ⊥
Joins x c (Err fault.NoMemory) = Unit {0}

-- the catalogue is kept behind other objects, of which these are its own, and told of
pub record IsKept (k : Contents) (own before after : List Object) (made : Made) : Type 0 where
  pub hash : made.hash ≡ sha1 (catalogue_bytes k)
  pub size : made.size ≡ length (catalogue_bytes k)
  pub added : after ≡ before ++ (own ++ as_object k ∷ [])

-- the catalogue that holds the path took what comes there, and was kept
pub record IsRejoined (x : Outcomes) (c : Contents) (own before after : List Object) (made : Made) : Type 0 where
  pub is : Contents
  pub joined : x.becomes c is
  pub kept : IsKept is own before after made

-- or it couldn't
abbrev pub Rejoins : Outcomes → Contents → List Object → List Object → List Object → Result Made GraftFault → Type 0
Rejoins x c own before after (Ok made) = IsRejoined x c own before after made
Rejoins x c own before after (Err f) = Joins x c (Err f)

-- what comes of the catalogue c on the way was kept behind what came of those below it
pub record IsRemade (shelf : Shelf) (x : Outcomes) (p : Path) (c : Contents) (own before after : List Object) (made : Made) : Type 0 where
  pub is : Contents
  pub objects : List Object
  pub makes : Makes shelf x.becomes p c is objects
  pub hash : made.hash ≡ sha1 (catalogue_bytes is)
  pub size : made.size ≡ length (catalogue_bytes is)
  pub added : after ≡ before ++ (own ++ objects)

-- why the one that holds the path on the way couldn't take what comes there
abbrev pub RefusesOn : Shelf → List ℕ → Path → Outcomes → GraftFault → Type 0
RefusesOn shelf root p x (fault.PathCollision a b) = (c : Contents) × IsHolder shelf root p c × x.collides c a b
RefusesOn shelf root p x (fault.CatalogueFull d) = (c : Contents) × IsHolder shelf root p c × x.fills c d
RefusesOn shelf root p x fault.Failed = Unit {0}
RefusesOn shelf root p x (fault.Damaged id found) = Unit {0}
RefusesOn shelf root p x fault.NoMemory = Unit {0}

-- what comes of the catalogue c under an id, on whichever way it is
abbrev pub Remakes : Shelf → Outcomes → Path → ObjectId → Contents → List Object → List Object → List Object → Result Made GraftFault → Type 0
Remakes shelf x p id c own before after (Ok made) = IsRemade shelf x p c own before after made
Remakes shelf x p id c own before after (Err f) = (root : List ℕ) (place : Place) → IsOnWay shelf root p id.hash place → HasCatalogue shelf id.hash place c → RefusesOn shelf root p x f

-- from the root on: its catalogue is there, and what comes of those on the way stands behind the other objects
pub record IsRegrafted (shelf : Shelf) (hash : List ℕ) (x : Outcomes) (p : Path) (own : List Object) (g : Grafted) : Type 0 where
  pub top : Contents
  pub there : HasCatalogue shelf hash root_place top
  pub made : Contents
  pub objects : List Object
  pub makes : Makes shelf x.becomes p top made objects
  pub added : g.added ≡ own ++ objects
  pub root : g.root ≡ object_id (sha1 (catalogue_bytes made)) Catalogue
  pub size : g.size ≡ length (catalogue_bytes made)

-- or something couldn't come to the path
abbrev pub Regrafts : Shelf → List ℕ → Outcomes → Path → List Object → Result Grafted GraftFault → Type 0
Regrafts shelf hash x p own (Ok g) = IsRegrafted shelf hash x p own g
Regrafts shelf hash x p own (Err f) = RefusesOn shelf hash p x f
