-- What replies say.
use Rattle.std.specs.Prelude.{◌==◌, ℕ, List, Option, Some, None, if◌then◌else◌}
use Rattle.std.specs.Result.{result_ok}
use Rattle.cv_http.specs.declared.code.TheConstants.{NOT_FOUND, OK}
use Rattle.cv_http.specs.declared.http_reply.HttpReply.{HttpReply}
use Rattle.cv_answers.specs.AnswerText.{answer_of}
use Rattle.cv_answers.specs.declared.answer.Answer.{Answer}
use Rattle.cv_answers.specs.declared.answer.Answer.TheVariants.{Granted, Done, Committed, Leases, Repos, PathBusy, Refused}
use Rattle.cv_publisher.specs.declared.fault.PublishFault.{PublishFault}
use Rattle.cv_publisher.specs.declared.fault.PublishFault.TheVariants as fault

-- the answer of the gateway that a reply has: its code is 200, and its body is one
abbrev pub answer_in : HttpReply → Option Answer
answer_in reply = if reply.code == OK then result_ok (answer_of reply.body) else None

-- the fault of a reply that isn't the answer that was asked for: the gateway refuses, or the reply is bad
abbrev pub fault_in : Option Answer → PublishFault
fault_in None = fault.BadReply
fault_in (Some (Granted token revision root)) = fault.BadReply
fault_in (Some Done) = fault.BadReply
fault_in (Some (Committed revision root)) = fault.BadReply
fault_in (Some (Leases items)) = fault.BadReply
fault_in (Some (Repos names)) = fault.BadReply
fault_in (Some (PathBusy token remaining)) = fault.Refused (PathBusy token remaining)
fault_in (Some (Refused refusal)) = fault.Refused (Refused refusal)

-- what a reply says of an object: of code 200 its bytes; of code 404 that there are none; of another code nothing
abbrev pub served_in : HttpReply → Option (Option (List ℕ))
served_in reply = if reply.code == OK then Some (Some reply.body) else if reply.code == NOT_FOUND then Some None else None
