-- A pack of objects, and its bytes. What only this crate's own functions say.
use Rattle.std.specs.Prelude.{ℕ, List, map}
use Rattle.std.specs.List.{flat_map}
use Rattle.cv_base.specs.declared.object.Object.{Object}
use Rattle.cv_pack.specs.declared.pack_writer.Lent.{Lent}
use Rattle.cv_pack.specs.Pack.{entry_of, line}
use Rattle.cv_pack.specs.Reading.{object}

-- the lines of objects
abbrev pub lines_of : List Object → List ℕ
lines_of os = flat_map line (map entry_of os)

-- the objects whose contents are lent
abbrev pub lent : List Lent → List Object
lent os = map (λ o. object o.id o.bytes.now) os
