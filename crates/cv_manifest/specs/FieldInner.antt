-- The fields of a manifest: their letters, and the values that each may have. What only this crate's own functions say.
use Rattle.std.specs.Prelude.{ℕ, ◌==◌, Option, find}
use Rattle.cv_manifest.specs.declared.field.Field.{Field}
use Rattle.cv_manifest.specs.Field.{all_fields, letter_of}

-- the field with this letter
abbrev pub field_of : ℕ → Option Field
field_of letter = find (λ field. letter == letter_of field) all_fields
