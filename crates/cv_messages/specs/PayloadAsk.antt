-- The message of a payload.
use Rattle.std.specs.Prelude.{ℕ, List, codes, Option, Some, None, Result, Ok, Err}
use Rattle.serde_json.specs.Data.{Data, string, number, unsigned, object, member, no_members}
use Rattle.serde_json.specs.Find.{get}
use Rattle.hex.specs.Hex.{encode_lower}
use Rattle.cv_base.specs.Sequence.{◌>>=◌}
use Rattle.cv_json.specs.ObjectText.{object_in}
use Rattle.cv_messages.specs.Member.{text_member, digest_member, size_member}
use Rattle.cv_messages.specs.declared.payload_ask.PayloadAsk.{PayloadAsk}
use Rattle.cv_messages.specs.declared.member.Member.TheVariants.{SessionToken, Digest, HeaderSize}
use Rattle.cv_messages.specs.declared.message_fault.MessageFault.{MessageFault}
use Rattle.cv_messages.specs.declared.message_fault.MessageFault.TheVariants.{NotJson}

-- the message as JSON
abbrev pub payload_ask_data : PayloadAsk → Data
payload_ask_data ask =
    object (member (codes "header_size") (number (unsigned ask.header_size))
    (member (codes "payload_digest") (string (encode_lower ask.digest))
    (member (codes "session_token") (string ask.token) no_members)))

-- the message that an object is, or its first fault
abbrev pub payload_ask_members : Data → Result PayloadAsk MessageFault
payload_ask_members d =
    text_member SessionToken (get (codes "session_token") d) >>= λ token.
    digest_member Digest (get (codes "payload_digest") d) >>= λ digest.
    size_member HeaderSize (get (codes "header_size") d) >>= λ size.
    Ok (record { token = token; digest = digest; header_size = size })

abbrev pub payload_ask_in : Option Data → Result PayloadAsk MessageFault
payload_ask_in None = Err NotJson
payload_ask_in (Some d) = payload_ask_members d

-- the message that a text is, or its first fault
abbrev pub payload_ask_of : List ℕ → Result PayloadAsk MessageFault
payload_ask_of text = payload_ask_in (object_in text)
