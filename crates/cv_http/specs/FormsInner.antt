-- Heads of a form, as requests have one and replies another: whether bytes begin with one of at most 16,384 bytes. What only this crate's own functions say.
use Rattle.std.specs.Prelude.{◌≡◌, ◌++◌, ◌∷◌, ℕ, List}
use Rattle.httparse.specs.Grammar.{LineEnd, print_end}

-- the text ends with the end of a line and an empty line
abbrev pub EndsEmpty : List ℕ → Type 0
EndsEmpty text = (front : List ℕ) × (last : LineEnd) × (text ≡ front ++ 10 ∷ print_end last)
