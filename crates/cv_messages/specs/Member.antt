-- Members of messages, and the faults that name them.
use Rattle.std.specs.Prelude.{ℕ, List, Option, Some, None, Result, Ok, Err}
use Rattle.serde_json.specs.Data.{Data, Num}
use Rattle.serde_json.specs.Find.{as_str, as_number, as_u64}
use Rattle.cv_base.specs.Sequence.{◌>>=◌}
use Rattle.cv_base.specs.declared.token.Token.{Token}
use Rattle.cv_messages.specs.Spelling.{decimal_of, token_of, digest_of}
use Rattle.cv_messages.specs.declared.message_fault.MessageFault.{MessageFault}
use Rattle.cv_messages.specs.declared.message_fault.MessageFault.TheVariants.{Missing, WrongType, BadValue}
use Rattle.cv_messages.specs.declared.member.Member.{Member}

-- a value that has to be a text
abbrev pub text_of : Member → Option (List ℕ) → Result (List ℕ) MessageFault
text_of name None = Err (WrongType name)
text_of name (Some text) = Ok text

-- a member that has to be there, and a text
abbrev pub text_member : Member → Option Data → Result (List ℕ) MessageFault
text_member name None = Err (Missing name)
text_member name (Some d) = text_of name (as_str d)

-- what a value says, or that it is out of its limits
abbrev pub known : {A : Type 0} → Member → Option A → Result A MessageFault
known name None = Err (BadValue name)
known name (Some x) = Ok x

-- a value that has to be a number, and one from 0 on that is written without sign, fraction and exponent
abbrev pub whole_of : Member → Option Num → Result ℕ MessageFault
whole_of name None = Err (WrongType name)
whole_of name (Some n) = known name (as_u64 n)

-- a member that has to be there, and such a number below 2^64
abbrev pub number_member : Member → Option Data → Result ℕ MessageFault
number_member name None = Err (Missing name)
number_member name (Some d) = whole_of name (as_number d)

-- a member that has to be there, and the text of a token
abbrev pub token_member : Member → Option Data → Result Token MessageFault
token_member name value = text_member name value >>= λ text. known name (token_of text)

-- a member that has to be there, and forty digits
abbrev pub digest_member : Member → Option Data → Result (List ℕ) MessageFault
digest_member name value = text_member name value >>= λ text. known name (digest_of text)

-- a value that has to be the text of a decimal, or a whole number
abbrev pub size_of : Member → Option (List ℕ) → Option Num → Result ℕ MessageFault
size_of name (Some text) number = known name (decimal_of text)
size_of name None number = whole_of name number

-- a member that has to be there, and such a number below 2^64
abbrev pub size_member : Member → Option Data → Result ℕ MessageFault
size_member name None = Err (Missing name)
size_member name (Some d) = size_of name (as_str d) (as_number d)
