-- Tokens: their text, and where epochs and numbers end.
use Rattle.std.specs.Prelude.{ℕ, List, ◌∷◌, ◌++◌, decimal}
use Rattle.cv_base.specs.Counts.{last_count}
use Rattle.cv_base.specs.declared.token.Token.{Token}

-- the decimals of epoch and number, and `-` between them
abbrev pub token_text : Token → List ℕ
token_text token = decimal token.epoch ++ 45 ∷ decimal token.number

-- the number that no token and no epoch is given: the last below 2 to the 64th
abbrev pub last_number : ℕ
last_number = last_count
