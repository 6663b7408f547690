-- The parts of a manifest's text.
use Rattle.std.specs.Prelude.{◌≡◌, ℕ, Bool, true, List, ◌∷◌, ◌++◌, codes}
use Rattle.std.specs.List.{AllByRecursion}
use Rattle.sha1.specs.Sha1.{sha1}
use Rattle.hex.specs.Hex.{encode_lower}
use Rattle.cv_base.specs.Digest.{IsDigest}
use Rattle.cv_manifest.specs.Lines.{ended, IsLine}

-- the lines before the end, the digest that is stated, and the seal
pub record Parts : Type 0 where
  pub lines : List (List ℕ)
  pub stated : List ℕ
  pub seal : List ℕ

-- the text of these parts: the lines, the line `--`, the forty digits of the digest as a line, and the seal
abbrev pub text_of : Parts → List ℕ
text_of parts = ended parts.lines ++ codes "--\n" ++ encode_lower parts.stated ++ 10 ∷ parts.seal

-- the text has these parts: the first line that is `--` is the end of the lines
pub record HasParts (text : List ℕ) (parts : Parts) : Type 0 where
  pub spelled : text ≡ text_of parts
  pub lines : AllByRecursion IsLine parts.lines
  pub digest : IsDigest parts.stated

-- the digest of the bytes before the end
abbrev pub digest_of : List (List ℕ) → List ℕ
digest_of lines = sha1 (ended lines)

-- the stated digest is that of the bytes before the end, and its digits are sealed
pub record IsSealed (is_seal : List ℕ → List ℕ → Bool) (parts : Parts) : Type 0 where
  pub hash : parts.stated ≡ digest_of parts.lines
  pub seal : is_seal (encode_lower parts.stated) parts.seal ≡ true
