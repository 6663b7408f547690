-- Lists of objects, as what stands under their ids.
use Rattle.std.specs.Prelude.{List, [], ◌∷◌, Some, None, if◌then◌else◌}
use Rattle.cv_base.specs.declared.object.Object.{Object}
use Rattle.cv_ports.specs.Shelf.{Shelf}
pub use Rattle.cv_base.specs.ObjectId.{same_kind, same_id}

-- under each id the bytes of the first object that has it
abbrev pub shelf_of : List Object → Shelf
shelf_of [] id = None
shelf_of (o ∷ os) id = if same_id o.id id then Some o.bytes else shelf_of os id
