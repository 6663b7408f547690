-- A header that was begun: what reading it on from there gives. What only this crate's own functions say.
use Rattle.std.specs.Prelude.{◌≡◌, ℕ, ◌+◌, ◌<◌, ◌≤◌, ◌==◌, List, ◌∷◌, ◌++◌, length, take, Result, Ok, Err, if◌then◌else◌}
use Rattle.cv_pack.specs.declared.field.Field.{Field}
use Rattle.cv_pack.specs.declared.field.Field.TheVariants as fields
use Rattle.cv_pack.specs.declared.header_reader.TheConstants.{HEADER_LIMIT}
use Rattle.cv_pack.specs.declared.pack_fault.PackFault.{PackFault}
use Rattle.cv_pack.specs.Reading.{suffix_from, lines_from}
use Rattle.cv_pack.specs.HeaderState.{Begun, Faults, after_line, from_field, header_on, progress}

-- where the line begins after a byte
abbrev pub line_after : ℕ → ℕ → ℕ → ℕ
line_after line b at = if b == 10 then at else line

-- a byte in place of the old field leads to this new field
abbrev pub Leads : Begun → Begun → Field → ℕ → Result Field PackFault → Type 0
Leads old new from b (Ok to) = (at : ℕ) (text : List ℕ) → at < HEADER_LIMIT
    → from_field (progress old) from old.line at (b ∷ text) ≡ from_field (progress new) to (line_after old.line b (at + 1)) (at + 1) text
Leads old new from b (Err fault) = (at : ℕ) (text : List ℕ) → at < HEADER_LIMIT
    → Faults fault (from_field (progress old) from old.line at (b ∷ text))

-- the same of the byte after the digits of a hash
abbrev pub LeadsAfterHash : Begun → ℕ → Result Field PackFault → Type 0
LeadsAfterHash r b (Ok to) = (at : ℕ) (text : List ℕ) → at < HEADER_LIMIT
    → suffix_from (after_line (progress r)) r.entries r.line r.digits at (b ∷ text) ≡ from_field (progress r) to (line_after r.line b (at + 1)) (at + 1) text
LeadsAfterHash r b (Err fault) = (at : ℕ) (text : List ℕ) → at < HEADER_LIMIT
    → Faults fault (suffix_from (after_line (progress r)) r.entries r.line r.digits at (b ∷ text))

-- where a line ended, the next begins with this field
abbrev pub Begins : Begun → Begun → Result Field PackFault → Type 0
Begins old new (Ok to) = (at : ℕ) (text : List ℕ) → lines_from old.total old.left old.entries at text ≡ from_field (progress new) to at at text
Begins old new (Err fault) = (at : ℕ) (text : List ℕ) → Faults fault (lines_from old.total old.left old.entries at text)

-- reading these bytes leads from the old state to the new one
abbrev pub Takes : Begun → Begun → List ℕ → Result Unit PackFault → Type 0
Takes old new bytes (Ok _) = (text : List ℕ) → header_on old (bytes ++ text) ≡ header_on new text
Takes old new bytes (Err fault) = (text : List ℕ) → Faults fault (header_on old (bytes ++ text))

-- reading leads over a front of these bytes, to the header's end where bytes are left
abbrev pub TakesPart : Begun → Begun → List ℕ → Result ℕ PackFault → Type 0
TakesPart old new piece (Ok used) = (used ≤ length piece) × (used < length piece → new.field ≡ fields.Whole) × Takes old new (take used piece) (Ok tt)
TakesPart old new piece (Err fault) = (text : List ℕ) → Faults fault (header_on old (piece ++ text))
