-- What is written of a payload's message says that message.
use Rattle.std.proofs.Common.{◌≡◌, Ok, refl}
use Rattle.cv_base.specs.Digest.{IsDigest}
use Rattle.cv_messages.specs.PayloadAsk.{payload_ask_data, payload_ask_members}
use Rattle.cv_messages.specs.declared.payload_ask.PayloadAsk.{PayloadAsk}
use Rattle.cv_messages.proofs.Spellings.{digest_of-encode_lower}

pub payload_back : (ask : PayloadAsk) → IsDigest ask.digest → payload_ask_members (payload_ask_data ask) ≡ Ok ask
payload_back ask is = rw (digest_of-encode_lower ask.digest is) refl
