-- The head of a reply: what httparse accepts, of at most 16,384 bytes, and what it says.
use Rattle.std.specs.Prelude.{ℕ, List, map, Option}
use Rattle.httparse.specs.Grammar.{ResponseHead as ParsedReply, IsResponseHead, MayBecomeResponse, print_response, status_code}
use Rattle.httparse.specs.Spans.{name_and_value}
use Rattle.cv_http.specs.Fields.{length_of}
use Rattle.cv_http.specs.FieldFaults.{lengths_of, fields_fault}
use Rattle.cv_http.specs.Forms.{Form}
use Rattle.cv_http.specs.declared.reply_head.ReplyHead.{ReplyHead}
use Rattle.cv_http.specs.declared.fault.HttpFault.{HttpFault}

-- the names and values of the fields
abbrev pub fields_of : ParsedReply → List (List ℕ × List ℕ)
fields_of h = map name_and_value h.fields

-- the first fault of a whole head, if it has one
abbrev pub fault_of_reply : ParsedReply → Option HttpFault
fault_of_reply h = fields_fault (fields_of h)

-- what a head says
abbrev pub reply_head_of : ParsedReply → ReplyHead
reply_head_of h = record { code = status_code h; length = length_of (lengths_of (fields_of h)) }

-- the form of a reply's head
abbrev pub reply_form : Form ParsedReply ReplyHead
reply_form = record { print = print_response; IsHead = IsResponseHead; MayBecome = MayBecomeResponse; fault = fault_of_reply; says = reply_head_of }
