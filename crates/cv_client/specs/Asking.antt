-- A link is read behind its request alone, and until a whole reply came.
use Rattle.std.specs.Prelude.{◌≡◌, ◌⊎◌, ℕ, List, Contains, IsSome}
use Rattle.cv_base.specs.Told.{WhereTold}
use Rattle.cv_ports.specs.Dial.{Came, Back}
use Rattle.cv_ports.specs.Streams.{Look, front}
use Rattle.cv_http.specs.ReplyTexts.{IsAwaitedReply}
use Rattle.cv_http.specs.Requests.{request_text}
use Rattle.cv_http.specs.declared.outgoing.Outgoing.{Outgoing}
use Rattle.cv_client.specs.Exchange.{Links}

-- A read of a link began when the link had passed on the whole request, as it tells under this condition, and when what it had given of all
-- that it sends was no whole reply.
pub record IsBehind (request : Outgoing) (link : Came) (Tells : Type 0) (look : Look) : Type 0 where
  pub whole : WhereTold look.passed (λ b. b ≡ request_text request)
  pub told : Tells → IsSome look.passed
  pub got : List ℕ
  pub split : WhereTold link.given (λ given. front given link.left ≡ front got look.left)
  pub awaits : IsAwaitedReply got

-- the link came back to a dial
abbrev pub CameBack : Came → Links → Type 0
CameBack link links = WhereTold links (λ s. Contains s.events (Back link))

-- a link came back, and a read of it began behind its request
pub record IsRead (request : Outgoing) (before after : Links) (look : Look) : Type 0 where
  pub link : Came
  pub back : CameBack link after
  pub behind : IsBehind request link (IsSome before) look

-- Each read of a link that a dial had not noted before began when that link had passed on a whole request and given no whole reply. A dial
-- that told still tells, also of the links that had come back to it, and so does each such read.
pub record AsksFirst {N : Type 0} (came : N → Links) (looks : N → Look → Type 0) (before after : N) : Type 0 where
  pub tells : IsSome (came before) → IsSome (came after)
  pub keeps : (link : Came) → CameBack link (came before) → CameBack link (came after)
  pub each : (look : Look) → looks after look → looks before look ⊎ ((request : Outgoing) × IsRead request (came before) (came after) look)
