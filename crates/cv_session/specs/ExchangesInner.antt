-- One request and its reply. What only this crate's own functions say.
use Rattle.std.specs.Prelude.{◌≡◌, ◌≢◌, ◌<◌, ◌≤◌, ◌++◌, length, ℕ, List, [], Bool, true, false, Option, is_some, Result, Ok, Err, if◌then◌else◌}
use Rattle.std.specs.declared.option.Option.TheVariants.{Some, None}
use Rattle.cv_ports.specs.Streams.{onto, Wrote}
use Rattle.cv_http.specs.Replies.{continue_line}
use Rattle.cv_http.specs.Faults.{IsBodyFault}
use Rattle.cv_http.specs.declared.head.RequestHead.{RequestHead}
use Rattle.cv_http.specs.declared.fault.HttpFault.{HttpFault}
use Rattle.cv_http.specs.declared.fault.HttpFault.TheVariants.{Short, BodyTooLarge, ReadFault as Unread_, NoMemory as Lacking}
use Rattle.cv_http.specs.declared.code.Code.{Code}
use Rattle.cv_keys.specs.declared.key.Key.{Key}
use Rattle.cv_session.specs.declared.turn.Turn.{Turn}
use Rattle.cv_gate.specs.Desk.{Call}
use Rattle.cv_session.specs.Standing.{Standing}
use Rattle.cv_session.specs.Requests.{Request, IsRequest, IsBad, EndsInside, Reached, Awaits, WantsAny, body_limit, body_size, waits, line_text, code_of_fault}
use Rattle.cv_session.specs.RequestsInner.{Asks}
use Rattle.cv_session.specs.Responses.{reply_of}
use Rattle.cv_session.specs.ResponsesInner.{Does}
use Rattle.cv_session.specs.Said.{IsLegible}
use Rattle.cv_session.specs.declared.response.Response.{Response}
use Rattle.cv_session.specs.declared.response.Response.TheVariants.{Fixed}
use Rattle.cv_session.specs.declared.request.Asked.{Asked}
use Rattle.cv_session.specs.declared.request.Unread.{Unread}
use Rattle.cv_session.specs.declared.request.Unread.TheVariants.{Fault, Unsaid}
use Rattle.cv_session.specs.declared.session_end.SessionEnd.{SessionEnd}
use Rattle.cv_session.specs.declared.session_end.SessionEnd.TheVariants.{Closed, Bad, ReadFault, WriteFault, JournalFull, NoMemory}
use Rattle.cv_session.specs.Exchanges.{is_full}

-- ---- reading

-- why no turn was read, the line being written or not
abbrev pub IsWhy : List ℕ → Bool → HttpFault → Type 0
IsWhy b line Short = EndsInside b line
IsWhy b line Unread_ = Awaits b line
IsWhy b line Lacking = Unit {0}
IsWhy b line fault = IsBad b fault × (line ≡ false)

-- the bytes b were read for a request, and these are still held; what the sink takes meanwhile is the line that asks for a body
pub data Gets (repository : List ℕ) (keys : List Key) (b held : List ℕ) (taken taken' : Option (List ℕ)) : Result (Option Asked) Unread → Type 0 where
  whole : (request : Request) (asked : Asked) → IsRequest b request held → WantsAny repository keys request.head request.body asked.turn
      → asked.last ≡ request.head.last → taken' ≡ onto taken (line_text (waits request.head)) → Gets repository keys b held taken taken' (Ok (Some asked))
  ended : b ≡ [] → held ≡ b → taken' ≡ taken → Gets repository keys b held taken taken' (Ok None)
  fault : (why : HttpFault) (line : Bool) → Reached b line → IsWhy b line why → taken' ≡ onto taken (line_text line) → Gets repository keys b held taken taken' (Err (Fault why))
  unsaid : Reached b true → Wrote taken taken' continue_line → Gets repository keys b held taken taken' (Err Unsaid)

-- no request is whole in the bytes b, and what a sink took was passed on, with the line that asks for a body where one is waited for
pub record IsAsking (taken : Option (List ℕ)) (b : List ℕ) (passed : Option (List ℕ)) : Type 0 where
  pub line : Bool
  pub awaits : Awaits b line
  pub said : passed ≡ onto taken (line_text line)

-- the same behind a head
pub record IsAskingBehind (head : RequestHead) (taken : Option (List ℕ)) (b : List ℕ) (passed : Option (List ℕ)) : Type 0 where
  pub limit : body_size head ≤ body_limit head
  pub short : length b < body_size head
  pub said : passed ≡ onto taken (line_text (waits head))

-- the bytes b were read for what follows a head, and these are still held; what the sink takes meanwhile is the line
pub data GetsBehind (repository : List ℕ) (keys : List Key) (head : RequestHead) (b held : List ℕ) (taken taken' : Option (List ℕ)) : Result Asked Unread → Type 0 where
  behind : (asked : Asked) (body : List ℕ) → body_size head ≤ body_limit head → b ≡ body ++ held → length body ≡ body_size head → Asks repository keys head body asked.turn → asked.last ≡ head.last
      → taken' ≡ onto taken (line_text (waits head)) → GetsBehind repository keys head b held taken taken' (Ok asked)
  large : body_limit head < body_size head → taken' ≡ taken → GetsBehind repository keys head b held taken taken' (Err (Fault BodyTooLarge))
  breaks : (why : HttpFault) → body_size head ≤ body_limit head → IsBodyFault why → (why ≢ Lacking → length b < body_size head)
      → taken' ≡ onto taken (line_text (waits head)) → GetsBehind repository keys head b held taken taken' (Err (Fault why))
  unsaid_behind : body_size head ≤ body_limit head → waits head ≡ true → Wrote taken taken' continue_line → GetsBehind repository keys head b held taken taken' (Err Unsaid)

-- how the session ends with the reply to a request that is to be the last or isn't, if it does
abbrev pub end_after : Response → Bool → Option SessionEnd
end_after answer last = if is_full answer then Some JournalFull else if last then Some Closed else None

-- what the sink takes of the reply with an answer, and how the session ends with it, if it does
pub data Sends (answer : Response) (last : Bool) (taken taken' : Option (List ℕ)) : Option SessionEnd → Type 0 where
  whole : (end : Option SessionEnd) → end ≡ end_after answer last → IsLegible answer → taken' ≡ onto taken (reply_of answer (is_some end)) → Sends answer last taken taken' end
  front : IsLegible answer → Wrote taken taken' (reply_of answer (is_some (end_after answer last))) → Sends answer last taken taken' (Some WriteFault)
  nothing : taken' ≡ taken → Sends answer last taken taken' (Some NoMemory)

-- what comes of the turn of a request that is to be the last or isn't, what the sink takes, and how the session ends with it, if it does
pub data Handles {K : Type 0} (does : K → List Call → K → Type 0) (repository : List ℕ) (seal : List ℕ → List ℕ) (turn : Turn) (last : Bool) (taken taken' : Option (List ℕ)) (before after : Standing K)
    : Option SessionEnd → Type 0 where
  answered : (answer : Response) (end : Option SessionEnd) → Does does repository seal turn (Some answer) before after
      → Sends answer last taken taken' end → Handles does repository seal turn last taken taken' before after end
  unanswered : Does does repository seal turn None before after → taken' ≡ taken → Handles does repository seal turn last taken taken' before after (Some NoMemory)

-- how a session ends where no turn was read, and what the sink takes before it ends
pub data EndsBy (why : Unread) (before after : Option (List ℕ)) : SessionEnd → Type 0 where
  refused : (fault : HttpFault) (code : Code) → why ≡ Fault fault → code_of_fault fault ≡ Some code → after ≡ onto before (reply_of (Fixed code) true) → EndsBy why before after (Bad fault)
  broken_off : (fault : HttpFault) (code : Code) → why ≡ Fault fault → code_of_fault fault ≡ Some code → Wrote before after (reply_of (Fixed code) true) → EndsBy why before after WriteFault
  cut_short : why ≡ Fault Short → after ≡ before → EndsBy why before after (Bad Short)
  not_read : why ≡ Fault Unread_ → after ≡ before → EndsBy why before after ReadFault
  no_memory : (fault : HttpFault) → why ≡ Fault fault → fault ≢ Unread_ → after ≡ before → EndsBy why before after NoMemory
  not_said : why ≡ Unsaid → after ≡ before → EndsBy why before after WriteFault
