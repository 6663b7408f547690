-- A nested entry, and its bytes.
use Rattle.std.specs.Prelude.{ℕ, ◌^◌, ◌<◌, List, ◌++◌}
use Rattle.std.specs.Int.{w64, to_be_bytes}
use Rattle.cv_base.specs.Digest.{IsDigest}
use Rattle.cv_base.specs.Path.{IsPath, text_of}
use Rattle.cv_base.specs.Fields.{text_field}
use Rattle.cv_rows.specs.declared.nested.Nested.{Nested}

-- the conditions that a nested entry has a spelling
pub record IsNested (n : Nested) : Type 0 where
  pub path : IsPath n.path
  pub hash : IsDigest n.hash
  pub size : n.size < 2 ^ 64

-- its path's text, its hash and its size
abbrev pub nested_bytes : Nested → List ℕ
nested_bytes n = text_field (text_of n.path) ++ n.hash ++ to_be_bytes w64 n.size
