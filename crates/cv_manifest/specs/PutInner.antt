-- Values that texts give, and that are put into their places.
use Rattle.std.specs.Prelude.{◌≡◌, ℕ, List, Option, Some, None, Result, Ok, Err}
use Rattle.cv_manifest.specs.declared.field.Field.{Field}
use Rattle.cv_manifest.specs.declared.manifest_fault.ManifestFault.{ManifestFault}
use Rattle.cv_manifest.specs.declared.manifest_fault.ManifestFault.TheVariants.{BadLine, Repeated}
use Rattle.cv_manifest.specs.Field.{letter_of}

-- a text gives a value whose spelling it is, or none where it isn't as it has to be
abbrev pub Gives : {A : Type 0} → (A → List ℕ) → Type 0 → List ℕ → Option A → Type 0
Gives spell Good text None = ¬ Good
Gives spell Good text (Some x) = Good × (text ≡ spell x)

-- a value that is put where none may have been
abbrev pub put_into : {A : Type 0} → Option A → Option A → Field → ℕ → Result Unit ManifestFault
put_into old None field line = Err (BadLine line)
put_into None (Some x) field line = Ok tt
put_into (Some y) (Some x) field line = Err (Repeated (letter_of field))
