-- Lines, and what they give to fields.
use Rattle.std.specs.Prelude.{◌≡◌, ◌≢◌, ℕ, ◌==◌, Bool, false, List, [], ◌∷◌, ◌++◌, if◌then◌else◌, codes}
use Rattle.std.specs.List.{list_any, flat_map}
use Rattle.cv_manifest.specs.declared.field.Field.{Field}
use Rattle.cv_manifest.specs.Field.{letter_of}

abbrev pub has_newline : List ℕ → Bool
has_newline bytes = list_any (λ b. b == 10) bytes

-- the bytes of lines, each with its newline
abbrev pub ended : List (List ℕ) → List ℕ
ended lines = flat_map (λ line. line ++ 10 ∷ []) lines

-- a line of the fields, which isn't that of their end
pub record IsLine (line : List ℕ) : Type 0 where
  pub whole : has_newline line ≡ false
  pub not_end : line ≢ codes "--"

-- what follows the letter, where the line begins with it
abbrev pub value_in : ℕ → List ℕ → List (List ℕ)
value_in letter [] = []
value_in letter (b ∷ value) = if b == letter then value ∷ [] else []

-- the values that lines give to a field
abbrev pub values : Field → List (List ℕ) → List (List ℕ)
values field lines = flat_map (λ line. value_in (letter_of field) line) lines
