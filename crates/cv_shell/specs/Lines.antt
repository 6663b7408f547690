-- Lines, and what was read where one was asked for.
use Rattle.std.specs.Prelude.{◌≡◌, ◌<◌, ◌≤◌, ◌+◌, ◌++◌, ◌∷◌, ℕ, List, [], length, take, false, Option, Result, Ok, Err}
use Rattle.std.specs.declared.option.Option.TheVariants.{Some, None}
use Rattle.cv_ports.specs.Streams.{front}
use Rattle.cv_http.specs.Wires.{HasEnded}
use Rattle.cv_http.specs.declared.buffer.FillFault.{FillFault}
use Rattle.cv_http.specs.declared.buffer.FillFault.TheVariants as fill_fault
use Rattle.cv_manifest.specs.Lines.{has_newline}
use Rattle.cv_shell.specs.declared.lines.TheConstants.{LINE_LIMIT}
use Rattle.cv_shell.specs.declared.lines.LineFault.{LineFault}
use Rattle.cv_shell.specs.declared.lines.LineFault.TheVariants.{TooLong, ReadFault, NoMemory}

-- a line, or a part of one: no more bytes than the limit, of which none is a newline
pub record IsLine (line : List ℕ) : Type 0 where
  pub size : length line ≤ LINE_LIMIT
  pub whole : has_newline line ≡ false

-- no newline stands in the first bytes, one more than the limit
pub record IsTooLong (b : List ℕ) : Type 0 where
  pub size : LINE_LIMIT < length b
  pub whole : has_newline (take (LINE_LIMIT + 1) b) ≡ false

-- the bytes begin with this line, behind which these come: with its newline; or it is the last, which has none, and where the source
-- tells what it has left, nothing comes behind it
pub data IsNext (left : Option (List ℕ)) (b line later : List ℕ) : Type 0 where
  closed : IsLine line → b ≡ line ++ 10 ∷ later → IsNext left b line later
  last : IsLine line → 0 < length line → b ≡ line ++ later → HasEnded (front later left) → IsNext left b line later

-- what the bytes read are where a line was asked for, and which of them are still held
abbrev pub LineRead : Option (List ℕ) → List ℕ → List ℕ → Result (Option (List ℕ)) LineFault → Type 0
LineRead left b held (Ok (Some line)) = IsNext left b line held
LineRead left b held (Ok None) = (b ≡ []) × (held ≡ b) × HasEnded left
LineRead left b held (Err TooLong) = IsTooLong b × (held ≡ b)
LineRead left b held (Err ReadFault) = IsLine b × (held ≡ b)
LineRead left b held (Err NoMemory) = held ≡ b

-- the fault of a line where no more was read
abbrev pub filling : FillFault → LineFault
filling fill_fault.ReadFault = ReadFault
filling fill_fault.NoMemory = NoMemory
