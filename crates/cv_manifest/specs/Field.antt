-- The fields of a manifest: their letters, and the values that each may have.
use Rattle.std.specs.Prelude.{◌≡◌, ℕ, ◌≤◌, ◌-◌, ◌^◌, List, [], ◌∷◌, IsTrue, codes, decimal}
use Rattle.hex.specs.Hex.{encode_lower}
use Rattle.cv_base.specs.Digest.{IsDigest}
use Rattle.cv_base.specs.Name.{is_name}
use Rattle.cv_base.specs.declared.limits.TheConstants.{LAST_TIME}
use Rattle.cv_manifest.specs.declared.field.Field.{Field}
use Rattle.cv_manifest.specs.declared.field.Field.TheVariants.{Root, Size, RootKey, TimeToLive, Revision, Name, History, Time}

-- C, B, R, D, S, N, H, T
abbrev pub letter_of : Field → ℕ
letter_of Root = 67
letter_of Size = 66
letter_of RootKey = 82
letter_of TimeToLive = 68
letter_of Revision = 83
letter_of Name = 78
letter_of History = 72
letter_of Time = 84

-- the fields in the order in which they are written
abbrev pub all_fields : List Field
all_fields = Root ∷ Size ∷ RootKey ∷ TimeToLive ∷ Revision ∷ Name ∷ History ∷ Time ∷ []

-- the key of the root path, in hex
abbrev pub root_key : List ℕ
root_key = codes "d41d8cd98f00b204e9800998ecf8427e"

-- the hex digits of a digest
abbrev pub NamesDigest : List ℕ → Type 0
NamesDigest value = (hash : List ℕ) × IsDigest hash × (value ≡ encode_lower hash)

-- the decimal of a number from `least` to `most`
abbrev pub NamesNumber : ℕ → ℕ → List ℕ → Type 0
NamesNumber least most value = (n : ℕ) × (least ≤ n) × (n ≤ most) × (value ≡ decimal n)

-- a value that the field may have
abbrev pub IsValue : Field → List ℕ → Type 0
IsValue Root value = NamesDigest value
IsValue Size value = NamesNumber 0 (2 ^ 64 - 1) value
IsValue RootKey value = value ≡ root_key
IsValue TimeToLive value = NamesNumber 0 (2 ^ 64 - 1) value
IsValue Revision value = NamesNumber 1 (2 ^ 64 - 1) value
IsValue Name value = IsTrue (is_name value)
IsValue History value = NamesDigest value
IsValue Time value = NamesNumber 0 LAST_TIME value
