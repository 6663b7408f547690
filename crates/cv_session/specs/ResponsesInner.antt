-- What is answered to a turn, by what the desk answered. What only this crate's own functions say.
use Rattle.std.specs.Prelude.{ℕ, List, Option, Bool, true}
use Rattle.cv_answers.specs.AnswerText.{is_answer}
use Rattle.cv_gate.specs.Desk.{Call}
use Rattle.cv_session.specs.declared.turn.Turn.{Turn}
use Rattle.cv_session.specs.Standing.{Standing, Made}
use Rattle.cv_session.specs.declared.response.Response.{Response}
use Rattle.cv_session.specs.declared.response.Response.TheVariants.{Content, Fixed, Message, Reply}
use Rattle.cv_session.specs.Responses.{Answers}

-- an answer that can be written
abbrev pub is_writable : Response → Bool
is_writable (Content bytes) = true
is_writable (Fixed code) = true
is_writable (Message message) = is_answer message
is_writable (Reply replied) = true

-- what comes of a turn, from where the repository stood to where it stands
pub record Does {K : Type 0} (does : K → List Call → K → Type 0) (repository : List ℕ) (seal : List ℕ → List ℕ) (turn : Turn) (answer : Option Response) (before after : Standing K) : Type 0 where
  pub calls : List Call
  pub answers : Answers repository seal turn calls answer
  pub made : Made does before calls after
