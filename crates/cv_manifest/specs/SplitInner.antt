-- Where the parts of a manifest's text are cut.
use Rattle.std.specs.Prelude.{◌≡◌, ℕ, List, ◌∷◌, ◌++◌, codes}
use Rattle.std.specs.List.{AllByRecursion}
use Rattle.hex.specs.Hex.{encode_lower}
use Rattle.cv_base.specs.Digest.{IsDigest}
use Rattle.cv_manifest.specs.Lines.{ended, IsLine}
use Rattle.cv_manifest.specs.Parts.{HasParts}

-- the first line that is `--` stands between these bytes
pub record EndsAt (text front rest : List ℕ) : Type 0 where
  pub lines : List (List ℕ)
  pub are_lines : AllByRecursion IsLine lines
  pub front_is : front ≡ ended lines
  pub text_is : text ≡ ended lines ++ codes "--\n" ++ rest

abbrev pub HasNoEnd : List ℕ → Type 0
HasNoEnd text = (front rest : List ℕ) → EndsAt text front rest → ⊥

-- the text begins with the digits of this digest as a line
pub record BeginsWith (text stated rest : List ℕ) : Type 0 where
  pub digest : IsDigest stated
  pub text_is : text ≡ encode_lower stated ++ 10 ∷ rest

abbrev pub HasNoDigest : List ℕ → Type 0
HasNoDigest text = (stated rest : List ℕ) → BeginsWith text stated rest → ⊥

-- the text has these lines, in bytes, and this digest and seal
pub record IsSplit (text front stated seal : List ℕ) : Type 0 where
  pub lines : List (List ℕ)
  pub front_is : front ≡ ended lines
  pub has : HasParts text (record { lines = lines; stated = stated; seal = seal })
