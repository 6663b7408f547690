-- The bytes that stand so in every header, and what comes after each.
use Rattle.std.specs.Prelude.{ℕ, None}
use Rattle.cv_pack.specs.declared.field.Field.{Field}
use Rattle.cv_pack.specs.declared.field.Field.TheVariants as fields
use Rattle.cv_pack.specs.declared.field.Mark.{Mark}
use Rattle.cv_pack.specs.declared.field.Mark.TheVariants.{FormatLetter, FormatDigit, FormatEnd, TotalLetter, CountLetter, FirstDash, SecondDash, LineLetter, LineBlank}

abbrev pub mark_byte : Mark → ℕ
mark_byte FormatLetter = 86
mark_byte FormatDigit = 50
mark_byte FormatEnd = 10
mark_byte TotalLetter = 83
mark_byte CountLetter = 78
mark_byte FirstDash = 45
mark_byte SecondDash = 45
mark_byte LineLetter = 67
mark_byte LineBlank = 32

abbrev pub after_mark : Mark → Field
after_mark FormatLetter = fields.Mark FormatDigit
after_mark FormatDigit = fields.Mark FormatEnd
after_mark FormatEnd = fields.Mark TotalLetter
after_mark TotalLetter = fields.Total None
after_mark CountLetter = fields.Count None
after_mark FirstDash = fields.Mark SecondDash
after_mark SecondDash = fields.DashesEnd
after_mark LineLetter = fields.Mark LineBlank
after_mark LineBlank = fields.Hash
