-- Lines, and what was read where one was asked for. What only this crate's own functions say.
use Rattle.std.specs.Prelude.{◌≡◌, ◌++◌, ◌∷◌, ℕ, List, Option, Result, Ok, Err}
use Rattle.std.specs.declared.option.Option.TheVariants.{Some, None}
use Rattle.cv_shell.specs.declared.lines.LineFault.{LineFault}
use Rattle.cv_shell.specs.declared.lines.LineFault.TheVariants.{TooLong, ReadFault, NoMemory}
use Rattle.cv_shell.specs.Lines.{IsLine, IsTooLong}

-- what the bytes held are where a line and its newline are taken of them, and which of them are still held
abbrev pub LineFound : List ℕ → List ℕ → Result (Option (List ℕ)) LineFault → Type 0
LineFound b held (Ok (Some line)) = IsLine line × (b ≡ line ++ 10 ∷ held)
LineFound b held (Ok None) = IsLine b × (held ≡ b)
LineFound b held (Err TooLong) = IsTooLong b × (held ≡ b)
LineFound b held (Err ReadFault) = ⊥
LineFound b held (Err NoMemory) = held ≡ b

-- a piece isn't read for a fault of the source or want of memory
abbrev pub IsPieceFault : LineFault → Type 0
IsPieceFault TooLong = ⊥
IsPieceFault ReadFault = Unit {0}
IsPieceFault NoMemory = Unit {0}
