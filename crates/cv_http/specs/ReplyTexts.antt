-- A reply as a client reads it (RFC 9112, section 6): up to 16 interim heads, of code 100, then a head of another code, and its
-- body, which is as long as the head says, or else the rest of the input.
use Rattle.std.specs.Prelude.{◌≡◌, ◌≢◌, ◌<◌, ◌≤◌, ◌+◌, ◌++◌, ℕ, List, [], length, Option, Some, None, Result, Ok, Err}
use Rattle.cv_http.specs.Forms.{BeginsAs, RefusedAs, AwaitedAs, CutAs}
use Rattle.cv_http.specs.ReplyHeads.{reply_form}
use Rattle.cv_http.specs.declared.reply_head.ReplyHead.{ReplyHead}
use Rattle.cv_http.specs.declared.http_reply.HttpReply.{HttpReply}
use Rattle.cv_http.specs.declared.fault.HttpFault.{HttpFault}
use Rattle.cv_http.specs.declared.fault.HttpFault.TheVariants.{BadHead, HeadTooLarge, BodyTooLarge, NoLength, Coding, Short, ReadFault, NoMemory}
use Rattle.cv_http.specs.declared.wire.TheConstants.{BODY_LIMIT, INTERIM_LIMIT}

-- ---- heads

-- the code of an interim head: 100 Continue
abbrev pub interim_code : ℕ
interim_code = 100

-- the bytes are so many interim heads, and then these
pub data Passes : ℕ → List ℕ → List ℕ → Type 0 where
  no_more : (b : List ℕ) → Passes 0 b b
  one_more : (n : ℕ) (b later at : List ℕ) (head : ReplyHead) → BeginsAs reply_form b head later → head.code ≡ interim_code
      → Passes n later at → Passes (n + 1) b at

-- the bytes are interim heads within the limit, and then these
pub record Reaches (b at : List ℕ) : Type 0 where
  pub count : ℕ
  pub limit : count ≤ INTERIM_LIMIT
  pub passes : Passes count b at

-- the bytes are interim heads within the limit, this head of another code, and then these
pub record HasFinal (b : List ℕ) (head : ReplyHead) (later : List ℕ) : Type 0 where
  pub at : List ℕ
  pub reaches : Reaches b at
  pub begins : BeginsAs reply_form at head later
  pub final : head.code ≢ interim_code

-- ---- bodies

-- the bytes are a body of the stated length, and then these; or else they are all the body, and the input ends behind them
abbrev pub IsBody : Type 0 → Option ℕ → List ℕ → List ℕ → List ℕ → Type 0
IsBody Ends (Some size) b body later = (b ≡ body ++ later) × (length body ≡ size) × (size ≤ BODY_LIMIT)
IsBody Ends None b body later = (b ≡ body) × (later ≡ []) × (length body ≤ BODY_LIMIT) × Ends

-- the stated length passes the limit, or else the bytes do
abbrev pub IsTooLarge : Option ℕ → List ℕ → Type 0
IsTooLarge (Some size) b = BODY_LIMIT < size
IsTooLarge None b = BODY_LIMIT < length b

-- the bytes are fewer than the stated length
abbrev pub IsShort : Option ℕ → List ℕ → Type 0
IsShort (Some size) b = (size ≤ BODY_LIMIT) × (length b < size)
IsShort None b = ⊥

-- of the body more may come
abbrev pub IsOpen : Option ℕ → List ℕ → Type 0
IsOpen (Some size) b = (size ≤ BODY_LIMIT) × (length b < size)
IsOpen None b = length b ≤ BODY_LIMIT

-- ---- replies

-- the bytes are this reply, and then these. Where its length isn't stated, the input ends behind them
pub record IsReply (Ends : Type 0) (b : List ℕ) (reply : HttpReply) (later : List ℕ) : Type 0 where
  pub head : ReplyHead
  pub behind : List ℕ
  pub final : HasFinal b head behind
  pub code : reply.code ≡ head.code
  pub body : IsBody Ends head.length behind reply.body later

-- the bytes begin with something that is refused by this fault: a head, an interim head past the limit, or a body
pub data IsRefusedReply (b : List ℕ) : HttpFault → Type 0 where
  bad_head : (at : List ℕ) (fault : HttpFault) → Reaches b at → RefusedAs reply_form at fault → IsRefusedReply b fault
  many : (at : List ℕ) → Passes (INTERIM_LIMIT + 1) b at → IsRefusedReply b BadHead
  too_large : (head : ReplyHead) (later : List ℕ) → HasFinal b head later → IsTooLarge head.length later → IsRefusedReply b BodyTooLarge

-- the bytes end before a reply does: before a head, inside one, or inside a body
pub data IsCutReply (b : List ℕ) : Type 0 where
  before_head : Reaches b [] → IsCutReply b
  inside_head : (at : List ℕ) → Reaches b at → CutAs reply_form at → IsCutReply b
  inside_body : (head : ReplyHead) (later : List ℕ) → HasFinal b head later → IsShort head.length later → IsCutReply b

-- the bytes are no whole reply, and have room for more of one: of a head or of a body
pub data IsAwaitedReply (b : List ℕ) : Type 0 where
  awaits_head : (at : List ℕ) → Reaches b at → AwaitedAs reply_form at → IsAwaitedReply b
  awaits_body : (head : ReplyHead) (later : List ℕ) → HasFinal b head later → IsOpen head.length later → IsAwaitedReply b

-- ---- what is read

-- what the bytes read are where no reply was read, for this fault
abbrev pub ReplyLost : List ℕ → HttpFault → Type 0
ReplyLost b BadHead = IsRefusedReply b BadHead
ReplyLost b HeadTooLarge = IsRefusedReply b HeadTooLarge
ReplyLost b BodyTooLarge = IsRefusedReply b BodyTooLarge
ReplyLost b NoLength = ⊥
ReplyLost b Coding = IsRefusedReply b Coding
ReplyLost b Short = IsCutReply b
ReplyLost b ReadFault = IsAwaitedReply b
ReplyLost b NoMemory = Unit {0}

-- what the bytes read are where a reply was asked for, and which of them are still held
abbrev pub ReplyRead : Type 0 → List ℕ → List ℕ → Result HttpReply HttpFault → Type 0
ReplyRead Ends b held (Ok reply) = IsReply Ends b reply held
ReplyRead Ends b held (Err fault) = ReplyLost b fault
