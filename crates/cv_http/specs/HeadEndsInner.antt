-- Where a head may end: an empty line ends it.
use Rattle.std.specs.Prelude.{ℕ, ◌<◌, ◌-◌, ◌==◌, ◌||◌, nat_le, List, [], ◌∷◌, length, drop, Bool, false, if◌then◌else◌}
use Rattle.cv_http.specs.Forms.{Form, ReadsAs}
use Rattle.cv_http.specs.declared.head_end.Line.{Line}
use Rattle.cv_http.specs.declared.head_end.Line.TheVariants.{Empty, Returned, Text}
use Rattle.cv_http.specs.declared.judge.TheConstants.{HEAD_LIMIT}

-- the line is empty and ends with this byte
abbrev pub closes : Line → ℕ → Bool
closes Empty byte = byte == 10
closes Returned byte = byte == 10
closes Text byte = false

-- what stands of a line with a carriage return more
abbrev pub returned : Line → Line
returned Empty = Returned
returned Returned = Text
returned Text = Text

-- what stands of the line with this byte, or of the next
abbrev pub after : Line → ℕ → Line
after line byte = if byte == 10 then Empty else if byte == 13 then returned line else Text

-- a line that ends in the bytes is empty, where this stands of the first of them
abbrev pub has_empty_line : Line → List ℕ → Bool
has_empty_line line [] = false
has_empty_line line (byte ∷ more) = closes line byte || has_empty_line (after line byte) more

-- behind the first bytes, so many, a head may end, or there is no room for more of one
abbrev pub may_end : ℕ → List ℕ → Bool
may_end seen held = nat_le HEAD_LIMIT (length held) || has_empty_line Text (drop (seen - 2) held)

-- each head with which the bytes begin has more bytes than these
abbrev pub NoneWithin : {P H : Type 0} → Form P H → ℕ → List ℕ → Type 0
NoneWithin {P} form seen held = (head : P) (later : List ℕ) → ReadsAs form held head later → seen < length (form.print head)
