-- Reading the fields of a record, one after another from its first byte on.
use Rattle.std.specs.Prelude.{ℕ, ◌==◌, Bool, true, ◌&&◌, nat_le, bytes_eq, if◌then◌else◌, List, length, codes, Option, None, Result, Ok, Err}
use Rattle.std.specs.Int.{w64}
use Rattle.std.specs.List.{list_all}
use Rattle.cv_base.specs.Fields.{accepted, bad, number_at, bytes_at, length_at}
use Rattle.cv_base.specs.Path.{Path}
use Rattle.cv_base.specs.PathText.{path_named}
use Rattle.cv_base.specs.Sequence.{◌>>=◌}
use Rattle.cv_base.specs.Target.{target_of}
use Rattle.cv_base.specs.declared.limits.TheConstants.{KEY_ID_LIMIT, LAST_REVISION, LAST_TIME, TAG_LIMIT}
use Rattle.cv_base.specs.declared.repo_path.TheConstants.{PATH_LIMIT}
use Rattle.cv_base.specs.declared.token.Token.{Token}
use Rattle.cv_history.specs.Record.{no_hash, is_tag_byte}
use Rattle.cv_history.specs.declared.record.Record.{Record}
use Rattle.cv_history.specs.declared.record_fault.RecordFault.{RecordFault}
use Rattle.cv_history.specs.declared.record_fault.RecordFault.TheVariants.{BadRecord}

-- Below, `all` is the count of all bytes, and a field is read from the text that begins with it: so its offset is `all` less the bytes
-- of that text. What is read comes with the text after it. Where the bytes end inside a field, the fault is at their end.
abbrev pub Read : Type 0 → Type 0
Read A = Result (A × List ℕ) RecordFault

-- what was read at the front of the text, if it is right
abbrev pub right_at : {A : Type 0} → ℕ → List ℕ → (A → Bool) → Read A → Read A
right_at all text is_right read = do
  (found, rest) ← read
  if is_right found then Ok (found, rest) else Err (bad BadRecord all text)

-- what is asked of the first record alone
abbrev pub where_first : Bool → Bool → Bool
where_first first right = if first then right else true

-- the most bytes of a text, of which the first record has none
abbrev pub limit_of : Bool → ℕ → ℕ
limit_of first limit = if first then 0 else limit

-- ---- the fields

abbrev pub is_format : List ℕ → Bool
is_format bytes = bytes_eq bytes (codes "CVH1")

abbrev pub is_revision : ℕ → Bool
is_revision revision = nat_le 1 revision && nat_le revision LAST_REVISION

-- the revision, behind the name of the format
unfoldable pub revision_at : ℕ → List ℕ → Read ℕ
revision_at all text = do
  (format, rest) ← right_at all text is_format (bytes_at (BadRecord all) 4 text)
  right_at all rest is_revision (number_at (BadRecord all) w64 rest)

-- a hash, which in the first record is this one
unfoldable pub hash_at : ℕ → Bool → List ℕ → List ℕ → Read (List ℕ)
hash_at all first wanted text = right_at all text (λ hash. where_first first (bytes_eq hash wanted)) (bytes_at (BadRecord all) 20 text)

-- a number of a token, which in the first record is zero
unfoldable pub count_at : ℕ → Bool → List ℕ → Read ℕ
count_at all first text = right_at all text (λ count. where_first first (count == 0)) (number_at (BadRecord all) w64 text)

unfoldable pub token_at : ℕ → Bool → List ℕ → Read Token
token_at all first text = do
  (epoch, rest) ← count_at all first text
  (number, rest) ← count_at all first rest
  Ok (record { epoch = epoch; number = number }, rest)

unfoldable pub time_at : ℕ → List ℕ → Read ℕ
time_at all text = right_at all text (λ time. nat_le time LAST_TIME) (number_at (BadRecord all) w64 text)

-- what a text says, behind its length
unfoldable pub text_at : {A : Type 0} → ℕ → ℕ → (List ℕ → Option A) → List ℕ → Read A
text_at all limit said text = do
  (size, rest) ← length_at (BadRecord all) (bad BadRecord all text) limit text
  (bytes, after) ← bytes_at (BadRecord all) size rest
  value ← accepted (bad BadRecord all rest) (said bytes)
  Ok (value, after)

abbrev pub path_at : ℕ → Bool → List ℕ → Read Path
path_at all first text = text_at all (limit_of first PATH_LIMIT) path_named text

abbrev pub key_at : ℕ → Bool → List ℕ → Read (List ℕ)
key_at all first text = text_at all (limit_of first KEY_ID_LIMIT) target_of text

-- a tag has no control bytes
abbrev pub tag_of : List ℕ → Option (List ℕ)
tag_of bytes = if list_all is_tag_byte bytes then target_of bytes else None

abbrev pub tag_at : ℕ → Bool → List ℕ → Read (List ℕ)
tag_at all first text = text_at all (limit_of first TAG_LIMIT) tag_of text

-- ---- the whole

-- the record that these bytes are, or the first fault
unfoldable pub record_of : List ℕ → Result Record RecordFault
record_of text = do
  let all = length text
  (revision, rest) ← revision_at all text
  let first = revision == 1
  (previous, rest) ← hash_at all first no_hash rest
  (root, rest) ← bytes_at (BadRecord all) 20 rest
  (offered, rest) ← hash_at all first root rest
  (token, rest) ← token_at all first rest
  (path, rest) ← path_at all first rest
  (key, rest) ← key_at all first rest
  (time, rest) ← time_at all rest
  (tag, rest) ← tag_at all first rest
  let found : Record = record { revision = revision; previous = previous; root = root; offered = offered; token = token; path = path; key = key; time = time; tag = tag }
  if length rest == 0 then Ok found else Err (bad BadRecord all rest)
