-- Requests on a connection (RFC 9112): a head, and a body as long as the head says.
use Rattle.std.specs.Prelude.{◌≡◌, ◌<◌, ◌≤◌, ◌+◌, ◌++◌, ◌&&◌, nat_lt, ℕ, List, [], length, unwrap_or, Bool, true, false, Option, if◌then◌else◌}
use Rattle.std.specs.declared.option.Option.TheVariants.{Some, None}
use Rattle.cv_http.specs.Heads.{Begins, Refused, IsAwaited, IsCut}
use Rattle.cv_http.specs.Replies.{continue_line}
use Rattle.cv_http.specs.declared.head.RequestHead.{RequestHead}
use Rattle.cv_http.specs.declared.fault.HttpFault.{HttpFault}
use Rattle.cv_http.specs.declared.fault.HttpFault.TheVariants.{BadHead, HeadTooLarge, BodyTooLarge, NoLength, Coding, Short, ReadFault, NoMemory}
use Rattle.cv_http.specs.declared.code.Code.{Code}
use Rattle.cv_http.specs.declared.code.Code.TheVariants.{BadRequest, FieldsTooLarge, ContentTooLarge, LengthRequired, NotImplemented}
use Rattle.cv_keys.specs.declared.key.Key.{Key}
use Rattle.cv_pack.specs.declared.header_reader.TheConstants.{HEADER_LIMIT, TOTAL_LIMIT}
use Rattle.cv_session.specs.Turns.{Wants}
use Rattle.cv_session.specs.Payloads.{is_payload, payload_turn}
use Rattle.cv_session.specs.declared.payload.TheConstants.{MESSAGE_LIMIT}
use Rattle.cv_session.specs.declared.turn.Turn.{Turn}

-- a request as it stands: its body is a text, however it is read
pub record Request : Type 0 where
  pub head : RequestHead
  pub body : List ℕ

-- the most bytes of the body behind a head
abbrev pub body_limit : RequestHead → ℕ
body_limit head = if is_payload head then TOTAL_LIMIT + HEADER_LIMIT + MESSAGE_LIMIT else MESSAGE_LIMIT

-- the bytes of the body that follows a head
abbrev pub body_size : RequestHead → ℕ
body_size head = unwrap_or head.length 0

-- the client waits for the line that asks for the body
abbrev pub waits : RequestHead → Bool
waits head = head.expects && nat_lt 0 (body_size head)

-- that line, or nothing
abbrev pub line_text : Bool → List ℕ
line_text true = continue_line
line_text false = []

-- the bytes are a whole request, and then these
pub record IsRequest (b : List ℕ) (request : Request) (later : List ℕ) : Type 0 where
  pub begins : Begins b request.head (request.body ++ later)
  pub size : length request.body ≡ body_size request.head
  pub limit : body_size request.head ≤ body_limit request.head

-- the bytes begin with something that is refused by this fault
pub data IsBad (b : List ℕ) : HttpFault → Type 0 where
  head_refused : (fault : HttpFault) → Refused b fault → IsBad b fault
  body_refused : (head : RequestHead) (later : List ℕ) → Begins b head later → body_limit head < body_size head → IsBad b BodyTooLarge

-- the bytes end inside a request, behind whose head the line was written or not
pub data EndsInside (b : List ℕ) : Bool → Type 0 where
  inside_head : IsCut b → EndsInside b false
  inside_body : (head : RequestHead) (later : List ℕ) → Begins b head later → body_size head ≤ body_limit head → length later < body_size head → EndsInside b (waits head)

-- the bytes were read to the end of a head, behind which the line was written where its client waits; or not so far
pub data Reached (b : List ℕ) : Bool → Type 0 where
  before_head : Reached b false
  behind_head : (head : RequestHead) (later : List ℕ) → Begins b head later → body_size head ≤ body_limit head → Reached b (waits head)

-- more bytes are waited for: no request is whole in these, and the line was written where its client waits for it
pub data Awaits (b : List ℕ) : Bool → Type 0 where
  awaits_head : IsAwaited b → Awaits b false
  awaits_body : (head : RequestHead) (later : List ℕ) → Begins b head later → body_size head ≤ body_limit head → length later < body_size head → Awaits b (waits head)

-- the code of the reply to a fault, if it has one
abbrev pub code_of_fault : HttpFault → Option Code
code_of_fault BadHead = Some BadRequest
code_of_fault HeadTooLarge = Some FieldsTooLarge
code_of_fault BodyTooLarge = Some ContentTooLarge
code_of_fault NoLength = Some LengthRequired
code_of_fault Coding = Some NotImplemented
code_of_fault Short = None
code_of_fault ReadFault = None
code_of_fault NoMemory = None

-- what the request with this head and body asks: a payload has a rule of its own
pub data WantsAny (repository : List ℕ) (keys : List Key) (head : RequestHead) (body : List ℕ) : Turn → Type 0 where
  payload : is_payload head ≡ true → WantsAny repository keys head body (payload_turn keys head.authorization head.message_size body)
  other : (turn : Turn) → is_payload head ≡ false → Wants repository keys head body turn → WantsAny repository keys head body turn
