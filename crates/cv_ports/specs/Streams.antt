-- What a source has left and gave, and what a sink took, where they tell it.
use Rattle.std.specs.Prelude.{◌≡◌, ◌++◌, ℕ, List, Option, Some, None}

-- a piece, and then what is left, where it is told
abbrev pub front : List ℕ → Option (List ℕ) → Option (List ℕ)
front piece None = None
front piece (Some rest) = Some (piece ++ rest)

-- what was given or taken, and then a piece, where it is told
abbrev pub onto : Option (List ℕ) → List ℕ → Option (List ℕ)
onto None piece = None
onto (Some before) piece = Some (before ++ piece)

-- of a text that was to be written, the sink took a front
pub record Wrote (old new : Option (List ℕ)) (text : List ℕ) : Type 0 where
  pub written : List ℕ
  pub unwritten : List ℕ
  pub split : text ≡ written ++ unwritten
  pub taken : new ≡ onto old written

-- when a read of a source began: what the source had left, and what the sink beside it had passed on, where they are told
pub record Look : Type 0 where
  pub left : Option (List ℕ)
  pub passed : Option (List ℕ)
