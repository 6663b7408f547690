-- The message that asks for a lease.
use Rattle.std.specs.Prelude.{ℕ, List, codes, Option, Some, None, Result, Ok, Err}
use Rattle.serde_json.specs.Data.{Data, string, object, member, no_members}
use Rattle.serde_json.specs.Find.{get}
use Rattle.cv_base.specs.Sequence.{◌>>=◌}
use Rattle.cv_json.specs.ObjectText.{object_in}
use Rattle.cv_messages.specs.Member.{text_member}
use Rattle.cv_messages.specs.declared.lease_ask.LeaseAsk.{LeaseAsk}
use Rattle.cv_messages.specs.declared.member.Member.TheVariants.{Path}
use Rattle.cv_messages.specs.declared.message_fault.MessageFault.{MessageFault}
use Rattle.cv_messages.specs.declared.message_fault.MessageFault.TheVariants.{NotJson}

-- the message as JSON
abbrev pub lease_ask_data : LeaseAsk → Data
lease_ask_data ask = object (member (codes "path") (string ask.path) no_members)

abbrev pub lease_ask_in : Option Data → Result LeaseAsk MessageFault
lease_ask_in None = Err NotJson
lease_ask_in (Some d) = text_member Path (get (codes "path") d) >>= λ path. Ok (record { path = path })

-- the message that a text is, or its first fault
abbrev pub lease_ask_of : List ℕ → Result LeaseAsk MessageFault
lease_ask_of text = lease_ask_in (object_in text)
