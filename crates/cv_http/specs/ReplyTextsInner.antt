-- A reply as a client reads it (RFC 9112, section 6): up to 16 interim heads, of code 100, then a head of another code, and its
-- body, which is as long as the head says, or else the rest of the input. What only this crate's own functions say.
use Rattle.std.specs.Prelude.{ℕ, List, Option, Result, Ok, Err}
use Rattle.cv_http.specs.declared.reply_head.ReplyHead.{ReplyHead}
use Rattle.cv_http.specs.declared.fault.HttpFault.{HttpFault}
use Rattle.cv_http.specs.declared.fault.HttpFault.TheVariants.{BadHead, HeadTooLarge, BodyTooLarge, NoLength, Coding, Short, ReadFault, NoMemory}
use Rattle.cv_http.specs.ReplyTexts.{HasFinal, IsBody, IsOpen, IsShort, IsTooLarge, ReplyLost}

-- the same where its head was asked for
abbrev pub FinalRead : List ℕ → List ℕ → Result ReplyHead HttpFault → Type 0
FinalRead b held (Ok head) = HasFinal b head held
FinalRead b held (Err fault) = ReplyLost b fault

-- the same where its body was asked for
abbrev pub ReplyBodyRead : Type 0 → Option ℕ → List ℕ → List ℕ → Result (List ℕ) HttpFault → Type 0
ReplyBodyRead Ends size b held (Ok body) = IsBody Ends size b body held
ReplyBodyRead Ends size b held (Err BadHead) = ⊥
ReplyBodyRead Ends size b held (Err HeadTooLarge) = ⊥
ReplyBodyRead Ends size b held (Err BodyTooLarge) = IsTooLarge size b
ReplyBodyRead Ends size b held (Err NoLength) = ⊥
ReplyBodyRead Ends size b held (Err Coding) = ⊥
ReplyBodyRead Ends size b held (Err Short) = IsShort size b
ReplyBodyRead Ends size b held (Err ReadFault) = IsOpen size b
ReplyBodyRead Ends size b held (Err NoMemory) = Unit {0}
