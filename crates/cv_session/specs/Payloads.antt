-- What a payload asks: its message size is judged first, then the authorization, the message, the digest of the pack's header,
-- the pack, and the header's length.
use Rattle.std.specs.Prelude.{◌==◌, ℕ, Bool, true, false, List, Option, Some, None, Result, Ok, Err, bytes_eq, take, drop, length, nat_le, ◌&&◌, if◌then◌else◌}
use Rattle.sha1.specs.Sha1.{sha1}
use Rattle.cv_base.specs.declared.object.Object.{Object}
use Rattle.cv_http.specs.declared.head.RequestHead.{RequestHead}
use Rattle.cv_http.specs.declared.method.Method.{Method}
use Rattle.cv_http.specs.declared.method.Method.TheVariants.{Get, Post, Delete, Other}
use Rattle.cv_keys.specs.declared.key.Key.{Key}
use Rattle.cv_messages.specs.PayloadAsk.{payload_ask_of}
use Rattle.cv_messages.specs.Spelling.{decimal_of, token_of}
use Rattle.cv_messages.specs.declared.message_fault.MessageFault.{MessageFault}
use Rattle.cv_messages.specs.declared.payload_ask.PayloadAsk.{PayloadAsk}
use Rattle.cv_answers.specs.declared.reason.Reason.TheVariants as reason
use Rattle.cv_gate.specs.declared.op.Op.TheVariants as op
use Rattle.cv_pack.specs.Pack.{header_bytes}
use Rattle.cv_pack.specs.Reading.{reading}
use Rattle.cv_pack.specs.declared.pack_fault.PackFault.{PackFault}
use Rattle.cv_messages.specs.Targets.{payloads_target}
use Rattle.cv_session.specs.Turns.{denied, denied_message, signed, token_by}
use Rattle.cv_session.specs.declared.payload.TheConstants.{MESSAGE_LIMIT}
use Rattle.cv_session.specs.declared.turn.Turn.{Turn}
use Rattle.cv_session.specs.declared.turn.Turn.TheVariants.{Step}

abbrev pub is_post : Method → Bool
is_post Post = true
is_post Get = false
is_post Delete = false
is_post Other = false

-- the head is that of a payload
abbrev pub is_payload : RequestHead → Bool
is_payload head = is_post head.method && bytes_eq head.target payloads_target

abbrev pub fitting : ℕ → Option ℕ → Option ℕ
fitting size None = None
fitting size (Some n) = if nat_le n MESSAGE_LIMIT && nat_le n size then Some n else None

-- the bytes of the message at the front of a body of so many bytes, by the value of Message-Size
abbrev pub message_size : Option (List ℕ) → ℕ → Option ℕ
message_size None size = None
message_size (Some text) size = fitting size (decimal_of text)

-- objects that came in a pack under a lease
abbrev pub store_on : List ℕ → PayloadAsk → List Object → Turn
store_on key ask objects =
    if length (header_bytes objects) == ask.header_size
    then Step (op.Store key (token_by (token_of ask.token)) ask.digest objects)
    else denied reason.BadHeaderSize

abbrev pub pack_turn : List ℕ → PayloadAsk → Result (List Object) PackFault → Turn
pack_turn key ask (Err fault) = denied reason.BadPack
pack_turn key ask (Ok objects) = store_on key ask objects

-- a pack that a message announces, under the id of the key that signed it: its header has the digest that the message says, the pack no
-- fault, and the header the length
abbrev pub payload_on : List ℕ → PayloadAsk → List ℕ → Turn
payload_on key ask pack =
    if bytes_eq (sha1 (take ask.header_size pack)) ask.digest then pack_turn key ask (reading pack) else denied reason.BadDigest

abbrev pub payload_by_ask : Result PayloadAsk MessageFault → List ℕ → Key → Turn
payload_by_ask (Ok ask) pack key = payload_on key.id ask pack
payload_by_ask (Err fault) pack key = denied_message fault

abbrev pub payload_from : List Key → Option (List ℕ) → Option ℕ → List ℕ → Turn
payload_from keys header None body = denied reason.BadMessageSize
payload_from keys header (Some n) body = signed keys header (take n body) (payload_by_ask (payload_ask_of (take n body)) (drop n body))

-- what a payload asks, by its Authorization and Message-Size headers and its body
abbrev pub payload_turn : List Key → Option (List ℕ) → Option (List ℕ) → List ℕ → Turn
payload_turn keys header text body = payload_from keys header (message_size text (length body)) body
