-- What is answered to a turn, by what the desk answered.
use Rattle.std.specs.Prelude.{◌≡◌, ◌≢◌, ◌∷◌, ℕ, List, [], Option, Ok, Err, Bool}
use Rattle.std.specs.declared.option.Option.TheVariants.{Some, None}
use Rattle.sha1.specs.Sha1.{sha1}
use Rattle.serde_json.specs.Written.{compact_text}
use Rattle.cv_base.specs.declared.id.ObjectId.{ObjectId}
use Rattle.cv_ports.specs.Shelf.{Suits}
use Rattle.cv_ports.specs.declared.shelf.ShelfFault.{ShelfFault}
use Rattle.cv_ports.specs.declared.shelf.ShelfFault.TheVariants.{NoMemory as no_memory}
use Rattle.cv_http.specs.Replies.{reply, text_of}
use Rattle.cv_http.specs.declared.code.Code.{Code}
use Rattle.cv_http.specs.declared.code.Code.TheVariants.{Success, NotFound, ServerError}
use Rattle.cv_http.specs.declared.body_kind.BodyKind.TheVariants.{Json, Octets, Text}
use Rattle.cv_manifest.specs.declared.manifest.TheConstants.{TIME_TO_LIVE}
use Rattle.cv_manifest.specs.Manifest.{manifest, manifest_text}
use Rattle.cv_manifest.specs.declared.head.Head.{Head}
use Rattle.cv_answers.specs.Answer.{answer_data}
use Rattle.cv_answers.specs.declared.answer.Answer.{Answer as MessageData}
use Rattle.cv_answers.specs.declared.answer.Answer.TheVariants.{Refused}
use Rattle.cv_answers.specs.declared.refusal.Refusal.{Refusal}
use Rattle.cv_gate.specs.declared.lease_line.LeaseLine.{LeaseLine}
use Rattle.cv_gate.specs.declared.op.Op.{Op}
use Rattle.cv_gate.specs.declared.reply.Reply.{Reply as ReplyData}
use Rattle.cv_gate.specs.Desk.{Call, asked, listed, fetched, told}
use Rattle.cv_session.specs.Answers.{answer_of, leases_answer, repositories_answer}
use Rattle.cv_session.specs.declared.target.Resource.TheVariants.{Manifest, Object}
use Rattle.cv_session.specs.declared.turn.Turn.{Turn}
use Rattle.cv_session.specs.declared.turn.Turn.TheVariants as turn
use Rattle.cv_session.specs.declared.response.Response.{Response}
use Rattle.cv_session.specs.declared.response.Response.TheVariants.{Content, Fixed, Message, Reply}

-- ---- the bytes of a reply

-- the reply with an answer of the interface
abbrev pub message_reply : MessageData → Bool → List ℕ
message_reply message last = reply Success Json last (compact_text (answer_data message))

-- the reply with a code alone
abbrev pub code_reply : Code → Bool → List ℕ
code_reply code last = reply code Text last (text_of code)

-- the bytes of the reply with an answer
abbrev pub reply_of : Response → Bool → List ℕ
reply_of (Content bytes) last = reply Success Octets last bytes
reply_of (Fixed code) last = code_reply code last
reply_of (Message message) last = message_reply message last
reply_of (Reply replied) last = message_reply (answer_of replied) last

-- ---- what comes of a turn

-- the answer to a turn by the calls of the desk that were made for it, or none where memory was wanted for the answer or its reply
pub data Answers (repository : List ℕ) (seal : List ℕ → List ℕ) : Turn → List Call → Option Response → Type 0 where
  newest : (head : Head) → Answers repository seal (turn.Serve Manifest) (told head ∷ []) (Some (Content (manifest_text seal (manifest repository TIME_TO_LIVE head))))
  object : (id : ObjectId) (bytes : List ℕ) → sha1 bytes ≡ id.hash → Answers repository seal (turn.Serve (Object id)) (fetched id (Ok (Some bytes)) ∷ []) (Some (Content bytes))
  absent : (id : ObjectId) → Answers repository seal (turn.Serve (Object id)) (fetched id (Ok None) ∷ []) (Some (Fixed NotFound))
  failed : (id : ObjectId) (fault : ShelfFault) → fault ≢ no_memory → Suits id (Err fault) → Answers repository seal (turn.Serve (Object id)) (fetched id (Err fault) ∷ []) (Some (Fixed ServerError))
  repositories : Answers repository seal turn.Repositories [] (Some (Message (repositories_answer repository)))
  leases : (now : ℕ) (lines : List LeaseLine) → Answers repository seal turn.Leases (listed now (Some lines) ∷ []) (Some (Message (leases_answer repository lines)))
  step : (o : Op) (now : ℕ) (r : ReplyData) → Answers repository seal (turn.Step o) (asked o now r ∷ []) (Some (Reply r))
  denied : (refusal : Refusal) → Answers repository seal (turn.Deny refusal) [] (Some (Message (Refused refusal)))
  refused : (code : Code) → Answers repository seal (turn.Refuse code) [] (Some (Fixed code))
  -- memory was wanted
  unlisted : (now : ℕ) (lines : Option (List LeaseLine)) → Answers repository seal turn.Leases (listed now lines ∷ []) None
  unfetched : (id : ObjectId) → Answers repository seal (turn.Serve (Object id)) (fetched id (Err no_memory) ∷ []) None
  unsaid : {asked_ : Turn} {calls : List Call} (answer : Response) → Answers repository seal asked_ calls (Some answer) → Answers repository seal asked_ calls None
