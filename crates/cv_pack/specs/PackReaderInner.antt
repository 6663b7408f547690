-- A reader of packs, and the bytes that it was fed. What only this crate's own functions say.
use Rattle.std.specs.Prelude.{ℕ, List, ◌++◌, Result, Ok, Err}
use Rattle.cv_pack.specs.declared.pack_fault.PackFault.{PackFault}
use Rattle.cv_pack.specs.declared.pack_reader.PackReader.{PackReader}
use Rattle.cv_pack.specs.HeaderState.{Faults}
use Rattle.cv_pack.specs.Reading.{reading}
use Rattle.cv_pack.specs.PackReader.{IsFed}

-- the reader was fed these bytes, or they show this fault
abbrev pub Feeds : PackReader → List ℕ → Result Unit PackFault → Type 0
Feeds r bytes (Ok _) = IsFed r bytes
Feeds r bytes (Err fault) = (text : List ℕ) → Faults fault (reading (bytes ++ text))
