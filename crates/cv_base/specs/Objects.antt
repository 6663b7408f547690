-- Objects beside their ids.
use Rattle.std.specs.Prelude.{◌≡◌, List}
use Rattle.std.specs.List.{Contains}
use Rattle.sha1.specs.Sha1.{sha1}
use Rattle.cv_base.specs.declared.object.Object.{Object}

-- each object's id has the hash of its bytes
pub record AreNamed (objects : List Object) : Type 0 where
  pub each : (o : Object) → Contains objects o → o.id.hash ≡ sha1 o.bytes
