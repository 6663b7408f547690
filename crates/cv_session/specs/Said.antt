-- What a reply that was written says of its answer.
use Rattle.std.specs.Prelude.{◌≡◌, ◌<◌, ◌^◌, ℕ, List, length, Ok}
use Rattle.serde_json.specs.Written.{compact_text}
use Rattle.cv_http.specs.Replies.{text_of}
use Rattle.cv_answers.specs.Answer.{answer_data}
use Rattle.cv_answers.specs.AnswerText.{answer_of as answer_in_text}
use Rattle.cv_answers.specs.declared.answer.Answer.{Answer as MessageData}
use Rattle.cv_session.specs.Answers.{answer_of}
use Rattle.cv_session.specs.declared.response.Response.{Response}
use Rattle.cv_session.specs.declared.response.Response.TheVariants.{Content, Fixed, Message, Reply}

-- the body of the reply with an answer
abbrev pub body_of : Response → List ℕ
body_of (Content bytes) = bytes
body_of (Fixed code) = text_of code
body_of (Message message) = compact_text (answer_data message)
body_of (Reply replied) = compact_text (answer_data (answer_of replied))

-- what a reply says: of the gate's it says the answer of the interface, which is one for a store and for the end of a lease
abbrev pub said : Response → Response
said (Reply replied) = Message (answer_of replied)
said answer = answer

-- the text of an answer of the interface says that answer
abbrev pub ReadsBack : MessageData → Type 0
ReadsBack message = answer_in_text (compact_text (answer_data message)) ≡ Ok message

-- the texts of an answer say it
abbrev pub IsRead : Response → Type 0
IsRead (Content bytes) = Unit {0}
IsRead (Fixed code) = Unit {0}
IsRead (Message message) = ReadsBack message
IsRead (Reply replied) = ReadsBack (answer_of replied)

-- an answer as the program writes one: its body has a length of 64 bits, and its text says it
pub record IsLegible (answer : Response) : Type 0 where
  pub size : length (body_of answer) < 2 ^ 64
  pub read : IsRead answer
