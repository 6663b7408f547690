-- The first fault of a text that is no manifest.
use Rattle.std.specs.Prelude.{◌≡◌, ◌≢◌, ℕ, ◌+◌, ◌≤◌, Bool, true, false, List, [], ◌∷◌, ◌++◌, length, Option, Some, find}
use Rattle.std.specs.List.{AllByRecursion}
use Rattle.hex.specs.Hex.{encode_lower}
use Rattle.cv_manifest.specs.declared.field.Field.{Field}
use Rattle.cv_manifest.specs.declared.manifest_fault.ManifestFault.{ManifestFault}
use Rattle.cv_manifest.specs.declared.manifest_fault.ManifestFault.TheVariants.{NoEnd, BadLine, Missing, Repeated, HashDiffers, BadSeal, NoMemory}
use Rattle.cv_manifest.specs.Field.{letter_of, all_fields, IsValue}
use Rattle.cv_manifest.specs.Lines.{values}
use Rattle.cv_manifest.specs.Parts.{Parts, digest_of, HasParts, IsSealed}

-- the line of a field
abbrev pub IsOf : Field → List ℕ → List ℕ → Type 0
IsOf field value line = line ≡ letter_of field ∷ value

-- a line that may stand: it isn't empty, and its field, if it has one, may have its value
pub record IsGood (line : List ℕ) : Type 0 where
  pub full : line ≢ []
  pub value : (field : Field) (value : List ℕ) → IsOf field value line → IsValue field value

-- lines that may stand, none of which repeats the field of another
pub record IsFaultless (lines : List (List ℕ)) : Type 0 where
  pub good : AllByRecursion IsGood lines
  pub once : (field : Field) → length (values field lines) ≤ 1

-- the first field, in the order of writing, of which there is no line
abbrev pub is_none_of : List (List ℕ) → Bool
is_none_of [] = true
is_none_of (value ∷ more) = false

abbrev pub lacking : List (List ℕ) → Option Field
lacking lines = find (λ field. is_none_of (values field lines)) all_fields

-- a line behind lines without a fault, and the number of the line
pub record Comes (lines before : List (List ℕ)) (line : List ℕ) : Type 0 where
  pub after : List (List ℕ)
  pub lines_are : lines ≡ before ++ line ∷ after
  pub faultless : IsFaultless before

-- the fault that lines show
abbrev pub ShownBy : List (List ℕ) → ManifestFault → Type 0
ShownBy lines (BadLine number) = (before : List (List ℕ)) × (line : List ℕ) × Comes lines before line × (¬ IsGood line) × (number ≡ length before + 1)
ShownBy lines (Repeated letter) =
    (before : List (List ℕ)) × (line : List ℕ) × Comes lines before line × IsGood line
    × (field : Field) × (value : List ℕ) × IsOf field value line × (values field before ≢ []) × (letter ≡ letter_of field)
ShownBy lines (Missing letter) = IsFaultless lines × (field : Field) × (lacking lines ≡ Some field) × (letter ≡ letter_of field)
ShownBy lines other = ⊥

-- the first fault of a text; want of memory is said by no text
abbrev pub Shows : (List ℕ → List ℕ → Bool) → List ℕ → ManifestFault → Type 0
Shows is_seal text NoEnd = (parts : Parts) → HasParts text parts → ⊥
Shows is_seal text (HashDiffers stated computed) =
    (parts : Parts) × HasParts text parts × (parts.stated ≡ stated) × (digest_of parts.lines ≡ computed) × (stated ≢ computed)
Shows is_seal text BadSeal =
    (parts : Parts) × HasParts text parts × (parts.stated ≡ digest_of parts.lines) × (is_seal (encode_lower parts.stated) parts.seal ≡ false)
Shows is_seal text NoMemory = Unit {0}
Shows is_seal text fault = (parts : Parts) × HasParts text parts × IsSealed is_seal parts × ShownBy parts.lines fault
