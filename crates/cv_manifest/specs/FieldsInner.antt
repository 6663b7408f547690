-- Fields that were read, and what lines make of them.
use Rattle.std.specs.Prelude.{◌≡◌, ◌≢◌, ℕ, List, [], ◌∷◌, ◌++◌, Option, Some, None, find, decimal}
use Rattle.std.specs.List.{AllByRecursion}
use Rattle.hex.specs.Hex.{encode_lower}
use Rattle.cv_manifest.specs.declared.field.Field.{Field}
use Rattle.cv_manifest.specs.declared.field.Field.TheVariants.{Root, Size, RootKey, TimeToLive, Revision, Name, History, Time}
use Rattle.cv_manifest.specs.declared.fields.Fields.{Fields}
use Rattle.cv_manifest.specs.declared.manifest_fault.ManifestFault.{ManifestFault}
use Rattle.cv_manifest.specs.declared.manifest_fault.ManifestFault.TheVariants.{BadLine, Missing, Repeated, NoMemory}
use Rattle.cv_manifest.specs.Field.{letter_of, all_fields, root_key, IsValue}
use Rattle.cv_manifest.specs.Lines.{value_in, values}
use Rattle.cv_manifest.specs.Fault.{IsOf, IsGood, is_none_of, ShownBy}

abbrev pub spelled : {A : Type 0} → (A → List ℕ) → Option A → List (List ℕ)
spelled spell None = []
spelled spell (Some x) = spell x ∷ []

-- the texts of a field that was read
abbrev pub texts : Fields → Field → List (List ℕ)
texts fields Root = spelled encode_lower fields.root
texts fields Size = spelled decimal fields.size
texts fields RootKey = spelled (λ _. root_key) fields.root_key
texts fields TimeToLive = spelled decimal fields.time_to_live
texts fields Revision = spelled decimal fields.revision
texts fields Name = spelled (λ name. name) fields.name
texts fields History = spelled encode_lower fields.history
texts fields Time = spelled decimal fields.time

-- a field that had no value takes one that it may have, and the others stay
pub record Takes (old new : Fields) (field : Field) (value : List ℕ) : Type 0 where
  pub fresh : texts old field ≡ []
  pub taken : texts new field ≡ value ∷ []
  pub others : (other : Field) → other ≢ field → texts new other ≡ texts old other
  pub good : IsValue field value

-- a field may not have this value, or has one
abbrev pub Refuses : Fields → Field → List ℕ → ℕ → ManifestFault → Type 0
Refuses old field value line (BadLine number) = (¬ IsValue field value) × (number ≡ line)
Refuses old field value line (Repeated letter) = IsValue field value × (texts old field ≢ []) × (letter ≡ letter_of field)
Refuses old field value line NoMemory = Unit {0}
Refuses old field value line other = ⊥

-- a line gives its field a value, if it is that of a field
pub record TakesLine (old new : Fields) (line : List ℕ) : Type 0 where
  pub good : IsGood line
  pub texts : (field : Field) → texts new field ≡ texts old field ++ value_in (letter_of field) line

-- a line is bad, or repeats its field
abbrev pub RefusesLine : Fields → List ℕ → ℕ → ManifestFault → Type 0
RefusesLine old line number (BadLine n) = (¬ IsGood line) × (n ≡ number)
RefusesLine old line number (Repeated letter) =
    IsGood line × (field : Field) × (value : List ℕ) × IsOf field value line × (texts old field ≢ []) × (letter ≡ letter_of field)
RefusesLine old line number NoMemory = Unit {0}
RefusesLine old line number other = ⊥

-- the fields are those of these lines, which have no fault
pub record HaveFields (lines : List (List ℕ)) (fields : Fields) : Type 0 where
  pub good : AllByRecursion IsGood lines
  pub texts : (field : Field) → texts fields field ≡ values field lines

-- the fault of the first line that has one
abbrev pub ShowFault : List (List ℕ) → ManifestFault → Type 0
ShowFault lines NoMemory = Unit {0}
ShowFault lines (Missing letter) = ⊥
ShowFault lines fault = ShownBy lines fault

-- the first field, in the order of writing, that wasn't read
abbrev pub LacksField : Fields → ManifestFault → Type 0
LacksField fields fault =
    (field : Field) × (find (λ f. is_none_of (texts fields f)) all_fields ≡ Some field) × (fault ≡ Missing (letter_of field))
