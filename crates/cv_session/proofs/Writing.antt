-- Answers that are written can be read.
use Rattle.std.proofs.Common.{◌<◌, ◌^◌, length, arith}
use Rattle.serde_json.specs.Written.{compact_text}
use Rattle.cv_http.specs.Replies.{text_of}
use Rattle.cv_http.specs.declared.code.Code.{Code}
use Rattle.cv_http.specs.declared.code.Code.TheVariants.{Success, BadRequest, NotFound, LengthRequired, ContentTooLarge, FieldsTooLarge, ServerError, NotImplemented}
use Rattle.cv_answers.specs.Answer.{answer_data}
use Rattle.cv_answers.specs.declared.answer.Answer.{Answer as MessageData}
use Rattle.cv_session.specs.Said.{ReadsBack, IsLegible}
use Rattle.cv_session.specs.declared.response.Response.TheVariants.{Fixed}

text_small : (code : Code) → length (text_of code) < 2 ^ 64
text_small Success = omega arith
text_small BadRequest = omega arith
text_small NotFound = omega arith
text_small LengthRequired = omega arith
text_small ContentTooLarge = omega arith
text_small FieldsTooLarge = omega arith
text_small ServerError = omega arith
text_small NotImplemented = omega arith

pub code_legible : (code : Code) → IsLegible (Fixed code)
code_legible code = record { size = text_small code; read = tt }

-- what is known of a message that was written
abbrev pub IsWhole : MessageData → Type 0
IsWhole message = (length (compact_text (answer_data message)) < 2 ^ 64) × ReadsBack message
