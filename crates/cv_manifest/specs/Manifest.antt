-- The text of a manifest.
use Rattle.std.specs.Prelude.{◌≡◌, ◌≢◌, ℕ, ◌<◌, ◌≤◌, ◌^◌, Bool, List, [], ◌∷◌, ◌++◌, IsTrue, map, codes, decimal}
use Rattle.std.specs.List.{AllByRecursion}
use Rattle.sha1.specs.Sha1.{sha1}
use Rattle.hex.specs.Hex.{encode_lower}
use Rattle.cv_base.specs.Digest.{IsDigest}
use Rattle.cv_base.specs.Name.{is_name}
use Rattle.cv_base.specs.declared.limits.TheConstants.{LAST_TIME}
use Rattle.cv_manifest.specs.declared.field.Field.{Field}
use Rattle.cv_manifest.specs.declared.field.Field.TheVariants.{Root, Size, RootKey, TimeToLive, Revision, Name, History, Time}
use Rattle.cv_manifest.specs.declared.head.Head.{Head}
use Rattle.cv_manifest.specs.declared.manifest.Manifest.{Manifest}
use Rattle.cv_manifest.specs.Field.{letter_of, all_fields, root_key}
use Rattle.cv_manifest.specs.Lines.{ended, values}
use Rattle.cv_manifest.specs.Parts.{Parts, HasParts, IsSealed}

-- the name under which a repository publishes its manifest
abbrev pub manifest_name : List ℕ
manifest_name = codes ".cvmfspublished"

-- the manifest of this name, time to live and head
abbrev pub manifest : List ℕ → ℕ → Head → Manifest
manifest name ttl head = record { name = name; ttl = ttl; head = head }

-- the value of a field
abbrev pub value_of : Manifest → Field → List ℕ
value_of m Root = encode_lower m.head.root
value_of m Size = decimal m.head.size
value_of m RootKey = root_key
value_of m TimeToLive = decimal m.ttl
value_of m Revision = decimal m.head.revision
value_of m Name = m.name
value_of m History = encode_lower m.head.history
value_of m Time = decimal m.head.time

-- the ranges of the types of a manifest's fields
pub record InRange (m : Manifest) : Type 0 where
  pub root : IsDigest m.head.root
  pub size : m.head.size < 2 ^ 64
  pub ttl : m.ttl < 2 ^ 64
  pub revision : m.head.revision < 2 ^ 64
  pub history : IsDigest m.head.history
  pub time : m.head.time < 2 ^ 64

-- the limits of a manifest's fields
pub record IsManifest (m : Manifest) : Type 0 where
  pub in_range : InRange m
  pub revision : 1 ≤ m.head.revision
  pub name : IsTrue (is_name m.name)
  pub time : m.head.time ≤ LAST_TIME

-- the head can be written
pub record IsHead (head : Head) : Type 0 where
  pub revision : 1 ≤ head.revision
  pub time : head.time ≤ LAST_TIME

-- the lines that are written: one for each field
abbrev pub lines_of : Manifest → List (List ℕ)
lines_of m = map (λ field. letter_of field ∷ value_of m field) all_fields

-- lines, the line `--`, the digits of their digest as a line, and the seal that `seal_of` gives the digits
abbrev pub sealed_text : (List ℕ → List ℕ) → List ℕ → List ℕ
sealed_text seal_of lines = lines ++ codes "--\n" ++ encode_lower (sha1 lines) ++ 10 ∷ seal_of (encode_lower (sha1 lines))

-- the text that is written
abbrev pub manifest_text : (List ℕ → List ℕ) → Manifest → List ℕ
manifest_text seal_of m = sealed_text seal_of (ended (lines_of m))

-- the lines say this manifest: none is empty, and each field has one, with its value; other lines may stand beside them
pub record LinesSay (lines : List (List ℕ)) (m : Manifest) : Type 0 where
  pub full : AllByRecursion (λ line. line ≢ []) lines
  pub fields : (field : Field) → values field lines ≡ value_of m field ∷ []
  pub limits : IsManifest m

-- the text is in the grammar, and says this manifest
pub record Says (is_seal : List ℕ → List ℕ → Bool) (text : List ℕ) (m : Manifest) : Type 0 where
  pub parts : Parts
  pub has : HasParts text parts
  pub is_sealed : IsSealed is_seal parts
  pub say : LinesSay parts.lines m
