-- A record of the history, and its bytes.
use Rattle.std.specs.Prelude.{◌≡◌, ◌≤◌, ◌<◌, ◌^◌, ℕ, true, List, [], ◌∷◌, length, codes, replicate}
use Rattle.std.specs.Int.{w64, to_be_bytes}
use Rattle.std.specs.List.{concat, list_all}
use Rattle.cv_base.specs.Digest.{IsDigest}
use Rattle.cv_base.specs.Fields.{text_field}
use Rattle.cv_base.specs.Path.{IsPath, text_of}
use Rattle.cv_base.specs.Target.{is_target}
use Rattle.cv_base.specs.declared.limits.TheConstants.{KEY_ID_LIMIT, LAST_REVISION, LAST_TIME, TAG_LIMIT}
use Rattle.cv_history.specs.declared.record.Record.{Record}
pub use Rattle.cv_base.specs.Tag.{is_tag_byte}

-- the bytes of a record, field by field: numbers with the highest byte first, and each text behind its length
abbrev pub fields : Record → List (List ℕ)
fields r =
    codes "CVH1" ∷ to_be_bytes w64 r.revision
    ∷ r.previous ∷ r.root ∷ r.offered
    ∷ to_be_bytes w64 r.token.epoch ∷ to_be_bytes w64 r.token.number
    ∷ text_field (text_of r.path) ∷ text_field r.key ∷ to_be_bytes w64 r.time ∷ text_field r.tag ∷ []

abbrev pub record_bytes : Record → List ℕ
record_bytes r = concat (fields r)

-- the previous hash of the first record
abbrev pub no_hash : List ℕ
no_hash = replicate 20 0

-- the first record has no predecessor, and no lease led to it
pub record IsFirst (r : Record) : Type 0 where
  pub previous : r.previous ≡ no_hash
  pub offered : r.offered ≡ r.root
  pub epoch : r.token.epoch ≡ 0
  pub number : r.token.number ≡ 0
  pub path : r.path ≡ []
  pub key : r.key ≡ []
  pub tag : r.tag ≡ []

-- the limits of a record
pub record IsRecord (r : Record) : Type 0 where
  pub from_one : 1 ≤ r.revision
  pub revision : r.revision ≤ LAST_REVISION
  pub key : length r.key ≤ KEY_ID_LIMIT
  pub time : r.time ≤ LAST_TIME
  pub tag : length r.tag ≤ TAG_LIMIT
  pub tag_bytes : list_all is_tag_byte r.tag ≡ true
  pub first : r.revision ≡ 1 → IsFirst r

-- what the types of its fields say of every record
pub record IsTyped (r : Record) : Type 0 where
  pub previous : IsDigest r.previous
  pub root : IsDigest r.root
  pub offered : IsDigest r.offered
  pub epoch : r.token.epoch < 2 ^ 64
  pub number : r.token.number < 2 ^ 64
  pub path : IsPath r.path
  pub key : is_target r.key ≡ true
  pub tag : is_target r.tag ≡ true

-- the bytes spell the record
pub record Spells (text : List ℕ) (r : Record) : Type 0 where
  pub typed : IsTyped r
  pub limits : IsRecord r
  pub bytes : text ≡ record_bytes r
