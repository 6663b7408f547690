-- What a request asks: for a lease, a commit and a lease's end the authorization is judged first, then the message, the
-- repository and the path.
use Rattle.std.specs.Prelude.{◌≡◌, ◌≢◌, ◌==◌, ℕ, List, Option, Some, None, Result, Ok, Err, bytes_eq, drop, length, if◌then◌else◌}
use Rattle.std.specs.List.{before_first}
use Rattle.cv_base.specs.Path.{Path}
use Rattle.cv_base.specs.PathText.{path_of}
use Rattle.cv_base.specs.declared.path_fault.PathFault.{PathFault}
use Rattle.cv_base.specs.declared.token.Token.{Token}
use Rattle.cv_keys.specs.Header.{checked}
use Rattle.cv_keys.specs.declared.key.Key.{Key}
use Rattle.cv_keys.specs.declared.auth_fault.AuthFault.{AuthFault}
use Rattle.cv_keys.specs.declared.auth_fault.AuthFault.TheVariants as auth
use Rattle.cv_messages.specs.CommitAsk.{commit_ask_of}
use Rattle.cv_messages.specs.LeaseAsk.{lease_ask_of}
use Rattle.cv_messages.specs.Spelling.{token_of}
use Rattle.cv_messages.specs.declared.commit_ask.CommitAsk.{CommitAsk}
use Rattle.cv_messages.specs.declared.lease_ask.LeaseAsk.{LeaseAsk}
use Rattle.cv_messages.specs.declared.message_fault.MessageFault.{MessageFault}
use Rattle.cv_messages.specs.declared.message_fault.MessageFault.TheVariants as message
use Rattle.cv_answers.specs.declared.reason.Reason.{Reason}
use Rattle.cv_answers.specs.declared.reason.Reason.TheVariants as reason
use Rattle.cv_answers.specs.declared.refusal.Refusal.TheVariants.{Plain, MissingMember, WrongType, BadValue}
use Rattle.cv_gate.specs.declared.op.Op.TheVariants as op
use Rattle.cv_http.specs.declared.head.RequestHead.{RequestHead}
use Rattle.cv_http.specs.declared.method.Method.TheVariants.{Get, Post, Delete, Other}
use Rattle.cv_http.specs.declared.code.Code.TheVariants.{NotFound, NotImplemented}
use Rattle.cv_messages.specs.Targets.{leases_target, lease_target}
use Rattle.cv_session.specs.Targets.{Names, NamesNothing, repositories_target}
use Rattle.cv_session.specs.declared.target.Resource.{Resource}
use Rattle.cv_session.specs.declared.turn.Turn.{Turn}
use Rattle.cv_session.specs.declared.turn.Turn.TheVariants.{Serve, Repositories, Leases, Step, Deny, Refuse}

-- ---- refusals without a step

-- a refusal that says its reason alone
abbrev pub denied : Reason → Turn
denied why = Deny (Plain why)

-- the refusal of a request whose Authorization header has this fault
abbrev pub denied_header : AuthFault → Turn
denied_header auth.NoHeader = denied reason.NoAuthorization
denied_header auth.BadHeader = denied reason.BadAuthorization
denied_header auth.UnknownKey = denied reason.UnknownKey
denied_header auth.WrongMac = denied reason.WrongMac
denied_header auth.NoMemory = denied reason.NoMemory

-- the refusal of a message that has this fault
abbrev pub denied_message : MessageFault → Turn
denied_message message.NotJson = denied reason.NotJson
denied_message (message.Missing member) = Deny (MissingMember member)
denied_message (message.WrongType member) = Deny (WrongType member)
denied_message (message.BadValue member) = Deny (BadValue member)
denied_message message.NoMemory = denied reason.NoMemory

-- ---- under a key

abbrev pub signed_by : Result Key AuthFault → (Key → Turn) → Turn
signed_by (Ok key) asks = asks key
signed_by (Err fault) asks = denied_header fault

-- what is asked under the key that signed the message by this header, or why none did
abbrev pub signed : List Key → Option (List ℕ) → List ℕ → (Key → Turn) → Turn
signed keys header message asks = signed_by (checked keys header message) asks

-- ---- a lease

-- a lease on the path that a text says
abbrev pub lease_by_path : Key → Result Path PathFault → Turn
lease_by_path key (Ok path) = Step (op.Lease key.id path)
lease_by_path key (Err fault) = denied reason.BadPath

-- a lease on what a text says: the repository's name, and behind it nothing or the text of a path
abbrev pub lease_on : List ℕ → List ℕ → Key → Turn
lease_on repository text key =
    if bytes_eq (before_first (λ b. b == 47) text) repository
    then lease_by_path key (path_of (drop (length repository) text))
    else denied reason.UnknownRepository

abbrev pub lease_by_ask : List ℕ → Result LeaseAsk MessageFault → Key → Turn
lease_by_ask repository (Ok ask) key = lease_on repository ask.path key
lease_by_ask repository (Err fault) key = denied_message fault

-- what a request for a lease asks, by its Authorization header and its body
abbrev pub lease_turn : List ℕ → List Key → Option (List ℕ) → List ℕ → Turn
lease_turn repository keys header body = signed keys header body (lease_by_ask repository (lease_ask_of body))

-- ---- of a lease

-- the token of a text; a text that is no token's is taken for 0-0, which no lease has
abbrev pub token_by : Option Token → Token
token_by None = record { epoch = 0; number = 0 }
token_by (Some token) = token

abbrev pub commit_by_ask : Token → Result CommitAsk MessageFault → Key → Turn
commit_by_ask token (Ok ask) key = Step (op.Commit key.id token ask.old_root ask.new_root ask.tag)
commit_by_ask token (Err fault) key = denied_message fault

-- what a request for a commit asks, by its Authorization header, the text of the token and its body
abbrev pub commit_turn : List Key → Option (List ℕ) → List ℕ → List ℕ → Turn
commit_turn keys header text body = signed keys header text (commit_by_ask (token_by (token_of text)) (commit_ask_of body))

-- what a request for the end of a lease asks, by its Authorization header and the text of the token
abbrev pub end_turn : List Key → Option (List ℕ) → List ℕ → Turn
end_turn keys header text = signed keys header text (λ key. Step (op.Cancel key.id (token_by (token_of text))))

-- ---- any request

-- the target is none of the interface, and names no resource of the repository
abbrev pub IsUnknown : List ℕ → List ℕ → Type 0
IsUnknown repository target = (target ≢ repositories_target) × (target ≢ leases_target) × NamesNothing repository target

-- what the request with this head and body asks, if it is no payload
pub data Wants (repository : List ℕ) (keys : List Key) (head : RequestHead) (body : List ℕ) : Turn → Type 0 where
  unknown_method : head.method ≡ Other → Wants repository keys head body (Refuse NotImplemented)
  resource : (resource : Resource) → head.method ≡ Get → Names repository head.target resource → Wants repository keys head body (Serve resource)
  repositories : head.method ≡ Get → head.target ≡ repositories_target → Wants repository keys head body Repositories
  leases : head.method ≡ Get → head.target ≡ leases_target → Wants repository keys head body Leases
  nothing_there : head.method ≡ Get → IsUnknown repository head.target → Wants repository keys head body (Refuse NotFound)
  lease : head.method ≡ Post → head.target ≡ leases_target → Wants repository keys head body (lease_turn repository keys head.authorization body)
  commit : (text : List ℕ) → head.method ≡ Post → head.target ≡ lease_target text → Wants repository keys head body (commit_turn keys head.authorization text body)
  no_post : head.method ≡ Post → head.target ≢ leases_target → ((text : List ℕ) → head.target ≢ lease_target text) → Wants repository keys head body (Refuse NotFound)
  end : (text : List ℕ) → head.method ≡ Delete → head.target ≡ lease_target text → Wants repository keys head body (end_turn keys head.authorization text)
  no_delete : head.method ≡ Delete → ((text : List ℕ) → head.target ≢ lease_target text) → Wants repository keys head body (Refuse NotFound)
