-- What comes of the catalogues on the way to a path, by what stands on a shelf.
use Rattle.std.specs.Prelude.{List, [], ◌∷◌, ◌++◌, map, length}
use Rattle.sha1.specs.Sha1.{sha1}
use Rattle.cv_base.specs.Path.{Path}
use Rattle.cv_base.specs.ObjectId.{object_id}
use Rattle.cv_base.specs.declared.id.Kind.TheVariants.{Catalogue}
use Rattle.cv_base.specs.declared.object.Object.{Object}
use Rattle.cv_ports.specs.Shelf.{Shelf}
use Rattle.cv_rows.specs.Catalogue.{Contents, catalogue_bytes}
use Rattle.cv_rows.specs.Renewed.{renewed}
use Rattle.cv_rows.specs.declared.nested.Nested.{Nested}
use Rattle.cv_cut.specs.Opening.{IsNestedCatalogue}
use Rattle.cv_graft.specs.Way.{HasNone, IsNext}

-- a catalogue as an object
abbrev pub as_object : Contents → Object
as_object c = record { id = object_id (sha1 (catalogue_bytes c)) Catalogue; bytes = catalogue_bytes c }

-- the catalogue, whose nested entry of the path names another one
abbrev pub naming : Contents → Path → Contents → Contents
naming c p below = record c { nested = map (renewed p (sha1 (catalogue_bytes below)) (length (catalogue_bytes below))) c.nested }

-- What comes of a catalogue on the way to the path p, and the objects that are made, those nested in another before it. The last one on the way
-- becomes what Last says; one above it names what came of the next.
pub data Makes (shelf : Shelf) (Last : Contents → Contents → Type 0) (p : Path) : Contents → Contents → List Object → Type 0 where
  joins : {c made : Contents} → HasNone c p → Last c made → Makes shelf Last p c made (as_object made ∷ [])
  names : {c below made : Contents} {n : Nested} {objects : List Object} → IsNext c p n → IsNestedCatalogue shelf c n below → Makes shelf Last p below made objects
      → Makes shelf Last p c (naming c n.path made) (objects ++ as_object (naming c n.path made) ∷ [])
