-- A header that was begun: what reading it on from there gives.
use Rattle.std.specs.Prelude.{ℕ, ◌-◌, List, [], ◌∷◌, ◌++◌, length, codes, Result, Ok, Err}
use Rattle.cv_pack.specs.declared.entry.Entry.{Entry}
use Rattle.cv_pack.specs.declared.field.Field.{Field}
use Rattle.cv_pack.specs.declared.field.Field.TheVariants as fields
use Rattle.cv_pack.specs.declared.field.Mark.{Mark}
use Rattle.cv_pack.specs.declared.field.Mark.TheVariants.{FormatLetter, FormatDigit, FormatEnd, TotalLetter, CountLetter, FirstDash, SecondDash, LineLetter, LineBlank}
use Rattle.cv_pack.specs.declared.pack_fault.PackFault.{PackFault}
use Rattle.cv_pack.specs.declared.pack_fault.PackFault.TheVariants.{Short, NoMemory}
use Rattle.cv_base.specs.Sequence.{◌>>=◌}
use Rattle.cv_base.specs.Unless.{IsUnless}
use Rattle.cv_pack.specs.Reading.{Header, text_at, size_from, blank_from, hash_from, lines_from, dashes_from, count_from, count_line_from, total_from, total_line_from, format_from}

-- a header as far as it was read: what comes next, the total that it says, how many lines are still to come after the one that was
-- begun, the lines that were read, the digits of the hash that is being read, and the offsets of the line and of what comes next
pub record Begun : Type 0 where
  pub field : Field
  pub total : ℕ
  pub left : ℕ
  pub entries : List Entry
  pub digits : List ℕ
  pub line : ℕ
  pub at : ℕ

-- what was read of a header, and how many lines are still to come
pub record Progress : Type 0 where
  pub total : ℕ
  pub left : ℕ
  pub entries : List Entry
  pub digits : List ℕ

abbrev pub progress : Begun → Progress
progress r = record { total = r.total; left = r.left; entries = r.entries; digits = r.digits }

-- the rest of the header after the line of an entry
abbrev pub after_line : Progress → Entry → ℕ → List ℕ → Result Header PackFault
after_line r e at text = lines_from r.total r.left (r.entries ++ e ∷ []) at text

abbrev pub hash_on : Progress → ℕ → ℕ → List ℕ → Result Header PackFault
hash_on r line at text = hash_from (after_line r) r.entries line (40 - length r.digits) r.digits at text

abbrev pub from_mark : Progress → Mark → ℕ → ℕ → List ℕ → Result Header PackFault
from_mark r FormatLetter line at text = format_from r.entries line (codes "V2\n") at text
from_mark r FormatDigit line at text = format_from r.entries line (codes "2\n") at text
from_mark r FormatEnd line at text = format_from r.entries line (codes "\n") at text
from_mark r TotalLetter line at text = total_line_from r.entries line at text
from_mark r CountLetter line at text = count_line_from r.total r.entries line at text
from_mark r FirstDash line at text = dashes_from r.total r.left r.entries line (codes "--\n") at text
from_mark r SecondDash line at text = dashes_from r.total r.left r.entries line (codes "-\n") at text
from_mark r LineLetter line at text = text_at line (codes "C ") at text >>= λ a. hash_on r line a.0 a.1
from_mark r LineBlank line at text = text_at line (codes " ") at text >>= λ a. hash_on r line a.0 a.1

-- where this field comes next, in the line that begins at `line`, and the text at `at`
abbrev pub from_field : Progress → Field → ℕ → ℕ → List ℕ → Result Header PackFault
from_field r (fields.Mark m) line at text = from_mark r m line at text
from_field r (fields.Total so_far) line at text = total_from r.entries line so_far at text
from_field r (fields.Count so_far) line at text = count_from r.total r.entries line so_far at text
from_field r fields.DashesEnd line at text = dashes_from r.total r.left r.entries line (codes "\n") at text
from_field r fields.Hash line at text = hash_on r line at text
from_field r (fields.SizeBlank id) line at text = blank_from (after_line r) line id at text
from_field r (fields.Size id so_far) line at text = size_from (after_line r) line id so_far at text
from_field r fields.Whole line at text = Ok (r.entries, at, text)

-- what reading the header on gives
abbrev pub header_on : Begun → List ℕ → Result Header PackFault
header_on r text = from_field (progress r) r.field r.line r.at text

-- the fault is that of reading on, unless it is want of memory, and not that bytes are lacking
abbrev pub Faults : {A : Type 0} → PackFault → Result A PackFault → Type 0
Faults Short read = ⊥
Faults fault read = IsUnless NoMemory (Err fault) read
