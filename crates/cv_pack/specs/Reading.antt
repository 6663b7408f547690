-- Reading a pack, field by field from its first byte on: its objects, or the fault that the earliest
-- byte shows. Bytes that are a pack's are read as its objects, and no others are (`pack_bytes` spells
-- them). The faults, where each is shown:
--   BadHeader  the first byte with which a line of the header can't become one of its form (the offset
--              of the line); the end of the header, where the total isn't the sum (that of the total);
--              a byte of the header past 1 MiB (0)
--   TooLarge, TooMany   the digit with which the number passes its limit
--   Duplicate  the byte after the digits of the hash, which settles the id
--   HashDiffers   the last byte of the content; for an empty one the byte before it
--   Trailing   the first byte after the contents
--   Short      none: the bytes end
use Rattle.std.specs.Prelude.{ℕ, zero, suc, ◌+◌, ◌-◌, ◌*◌, Bool, not, ◌&&◌, ◌||◌, ◌==◌, nat_lt, nat_le, bytes_eq, if◌then◌else◌, List, [], ◌∷◌, ◌++◌, length, take, drop, codes, Option, Some, None, Result, Ok, Err}
use Rattle.std.specs.List.{list_any}
use Rattle.std.specs.Char.{is_ascii_digit}
use Rattle.sha1.specs.Sha1.{sha1}
use Rattle.hex.specs.Hex.{decode_sized}
use Rattle.hex.specs.declared.error.FromHexError.{FromHexError}
use Rattle.cv_base.specs.ObjectId.{object_id, same_kind}
use Rattle.cv_base.specs.Sequence.{◌>>=◌}
use Rattle.cv_base.specs.declared.limits.TheConstants.{OBJECT_LIMIT}
use Rattle.cv_base.specs.declared.id.Kind.{Kind}
use Rattle.cv_base.specs.declared.id.Kind.TheVariants.{Plain, Catalogue}
use Rattle.cv_base.specs.declared.id.ObjectId.{ObjectId}
use Rattle.cv_base.specs.declared.object.Object.{Object}
use Rattle.cv_pack.specs.declared.entry.Entry.{Entry}
use Rattle.cv_pack.specs.declared.header_reader.TheConstants.{COUNT_LIMIT, HEADER_LIMIT, TOTAL_LIMIT}
use Rattle.cv_pack.specs.declared.pack_fault.PackFault.{PackFault}
use Rattle.cv_pack.specs.declared.pack_fault.PackFault.TheVariants.{BadHeader, TooLarge, TooMany, HashDiffers, Short, Trailing, Duplicate}
use Rattle.cv_pack.specs.Pack.{entry, total_size}

-- Below, a line begins at the offset `line` and the text at the offset `at`; what is read comes with
-- the offset and the text after it.

-- the entries of a header, its length, and the bytes after it
abbrev pub Header : Type 0
Header = List Entry × ℕ × List ℕ

-- a byte of the header, which has at most 1 MiB
abbrev pub header_byte : {A : Type 0} → ℕ → Result A PackFault → Result A PackFault
header_byte at read = if nat_lt at HEADER_LIMIT then read else Err (BadHeader 0)

-- these very bytes
abbrev pub text_at : ℕ → List ℕ → ℕ → List ℕ → Result (ℕ × List ℕ) PackFault
text_at line [] at text = Ok (at, text)
text_at line (x ∷ xs) at [] = Err Short
text_at line (x ∷ xs) at (b ∷ text) = header_byte at (if b == x then text_at line xs (at + 1) text else Err (BadHeader line))

-- a number with one more digit: no digit follows a leading zero
abbrev pub with_digit : Option ℕ → ℕ → Option ℕ
with_digit None b = if is_ascii_digit b then Some (b - 48) else None
with_digit (Some n) b = if is_ascii_digit b && not (n == 0) then Some (n * 10 + (b - 48)) else None

-- a number within its limit
abbrev pub limited : ℕ → ℕ → PackFault → Option ℕ → Result ℕ PackFault
limited line limit over None = Err (BadHeader line)
limited line limit over (Some n) = if nat_le n limit then Ok n else Err over

-- a number whose line ends
abbrev pub ended : ℕ → Option ℕ → Result ℕ PackFault
ended line None = Err (BadHeader line)
ended line (Some n) = Ok n

-- the further digits of a decimal, up to the end of its line
abbrev pub number_at : ℕ → ℕ → PackFault → Option ℕ → ℕ → List ℕ → Result (ℕ × ℕ × List ℕ) PackFault
number_at line limit over so_far at [] = Err Short
number_at line limit over so_far at (b ∷ text) = header_byte at
    (if b == 10 then (ended line so_far >>= λ n. Ok (n, at + 1, text))
    else (limited line limit over (with_digit so_far b) >>= λ n. number_at line limit over (Some n) (at + 1) text))

-- a hex digit in lower case
abbrev pub is_hash_digit : ℕ → Bool
is_hash_digit b = is_ascii_digit b || (nat_le 97 b && nat_le b 102)

-- so many digits more
abbrev pub digits_at : ℕ → ℕ → List ℕ → ℕ → List ℕ → Result (List ℕ × ℕ × List ℕ) PackFault
digits_at line zero digits at text = Ok (digits, at, text)
digits_at line (suc n) digits at [] = Err Short
digits_at line (suc n) digits at (b ∷ text) =
    header_byte at (if is_hash_digit b then digits_at line n (digits ++ b ∷ []) (at + 1) text else Err (BadHeader line))

-- the hash that forty digits name
abbrev pub hash_named : ℕ → Result (List ℕ) FromHexError → Result (List ℕ) PackFault
hash_named line (Ok hash) = Ok hash
hash_named line (Err e) = Err (BadHeader line)

-- whether one of these entries has this id
abbrev pub is_named : List Entry → ObjectId → Bool
is_named es id = list_any (λ e. bytes_eq e.id.hash id.hash && same_kind e.id.kind id.kind) es

-- an id that no earlier entry has
abbrev pub fresh : List Entry → ObjectId → Result ObjectId PackFault
fresh before id = if is_named before id then Err (Duplicate (length before)) else Ok id

-- the id of these digits and this kind
abbrev pub id_from : List Entry → ℕ → Kind → List ℕ → Result ObjectId PackFault
id_from before line kind digits = hash_named line (decode_sized digits 20) >>= λ hash. fresh before (object_id hash kind)

-- Below, k reads the header on after an entry; what was read before is the entries `before`.

-- the size of an object, and the rest of the header
abbrev pub size_from : (Entry → ℕ → List ℕ → Result Header PackFault) → ℕ → ObjectId → Option ℕ → ℕ → List ℕ → Result Header PackFault
size_from k line id so_far at text = number_at line OBJECT_LIMIT TooLarge so_far at text >>= λ s. k (entry id s.0) s.1 s.2

-- a blank before it
abbrev pub blank_from : (Entry → ℕ → List ℕ → Result Header PackFault) → ℕ → ObjectId → ℕ → List ℕ → Result Header PackFault
blank_from k line id at text = text_at line (codes " ") at text >>= λ a. size_from k line id None a.0 a.1

-- what follows the digits of the hash: a blank, or the suffix of a catalogue and a blank
abbrev pub suffix_from : (Entry → ℕ → List ℕ → Result Header PackFault) → List Entry → ℕ → List ℕ → ℕ → List ℕ → Result Header PackFault
suffix_from k before line digits at [] = Err Short
suffix_from k before line digits at (b ∷ text) = header_byte at
    (if b == 32 then (id_from before line Plain digits >>= λ id. size_from k line id None (at + 1) text)
    else if b == 67 then (id_from before line Catalogue digits >>= λ id. blank_from k line id (at + 1) text)
    else Err (BadHeader line))

-- so many digits of the hash
abbrev pub hash_from : (Entry → ℕ → List ℕ → Result Header PackFault) → List Entry → ℕ → ℕ → List ℕ → ℕ → List ℕ → Result Header PackFault
hash_from k before line n digits at text = digits_at line n digits at text >>= λ d. suffix_from k before line d.0 d.1 d.2

-- the line of an object, of which these bytes stand before the hash
abbrev pub line_from : (Entry → ℕ → List ℕ → Result Header PackFault) → List Entry → ℕ → List ℕ → ℕ → List ℕ → Result Header PackFault
line_from k before line xs at text = text_at line xs at text >>= λ a. hash_from k before line 40 [] a.0 a.1

-- the lines of so many objects; then the total has to be the sum of the sizes
unfoldable pub lines_from : ℕ → ℕ → List Entry → ℕ → List ℕ → Result Header PackFault
lines_from total zero before at text = if total_size before == total then Ok (before, at, text) else Err (BadHeader 3)
lines_from total (suc n) before at text =
    line_from (λ e place rest. lines_from total n (before ++ e ∷ []) place rest) before at (codes "C ") at text

-- the line of dashes, of which these bytes are left
abbrev pub dashes_from : ℕ → ℕ → List Entry → ℕ → List ℕ → ℕ → List ℕ → Result Header PackFault
dashes_from total n before line xs at text = text_at line xs at text >>= λ a. lines_from total n before a.0 a.1

-- the count
abbrev pub count_from : ℕ → List Entry → ℕ → Option ℕ → ℕ → List ℕ → Result Header PackFault
count_from total before line so_far at text =
    number_at line COUNT_LIMIT TooMany so_far at text >>= λ n. dashes_from total n.0 before n.1 (codes "--\n") n.1 n.2

-- its letter
abbrev pub count_line_from : ℕ → List Entry → ℕ → ℕ → List ℕ → Result Header PackFault
count_line_from total before line at text = text_at line (codes "N") at text >>= λ a. count_from total before line None a.0 a.1

-- the total
abbrev pub total_from : List Entry → ℕ → Option ℕ → ℕ → List ℕ → Result Header PackFault
total_from before line so_far at text =
    number_at line TOTAL_LIMIT TooLarge so_far at text >>= λ t. count_line_from t.0 before t.1 t.1 t.2

-- its letter
abbrev pub total_line_from : List Entry → ℕ → ℕ → List ℕ → Result Header PackFault
total_line_from before line at text = text_at line (codes "S") at text >>= λ a. total_from before line None a.0 a.1

-- the first line, of which these bytes are left
abbrev pub format_from : List Entry → ℕ → List ℕ → ℕ → List ℕ → Result Header PackFault
format_from before line xs at text = text_at line xs at text >>= λ a. total_line_from before a.0 a.0 a.1

abbrev pub header_at : List ℕ → Result Header PackFault
header_at text = format_from [] 0 (codes "V2\n") 0 text

abbrev pub object : ObjectId → List ℕ → Object
object id bytes = record { id = id; bytes = bytes }

-- the contents of these entries, of which the first has the index k, and nothing after them
unfoldable pub contents_at : ℕ → List Entry → List ℕ → Result (List Object) PackFault
contents_at k [] [] = Ok []
contents_at k [] (b ∷ text) = Err Trailing
contents_at k (e ∷ es) text =
    if nat_lt (length text) e.size then Err Short
    else if bytes_eq (sha1 (take e.size text)) e.id.hash
    then (contents_at (k + 1) es (drop e.size text) >>= λ os. Ok (object e.id (take e.size text) ∷ os))
    else Err (HashDiffers k)

-- a whole pack
abbrev pub reading : List ℕ → Result (List Object) PackFault
reading text = header_at text >>= λ h. contents_at 0 h.0 h.2

-- the fault of a reading, unless more bytes may mend it
abbrev pub unless_short : Result (List Object) PackFault → Result (Unit {0}) PackFault
unless_short (Ok os) = Ok tt
unless_short (Err Short) = Ok tt
unless_short (Err fault) = Err fault

-- the fault that bytes show, whatever follows them
abbrev pub shown : List ℕ → Result (Unit {0}) PackFault
shown text = unless_short (reading text)
