-- Requests on a connection (RFC 9112): a head, and a body as long as the head says. What only this crate's own functions say.
use Rattle.std.specs.Prelude.{ℕ, List}
use Rattle.cv_http.specs.declared.head.RequestHead.{RequestHead}
use Rattle.cv_keys.specs.declared.key.Key.{Key}
use Rattle.cv_session.specs.TurnsInner.{IsGood}
use Rattle.cv_session.specs.declared.turn.Turn.{Turn}
use Rattle.cv_session.specs.Requests.{WantsAny}

-- the same, where the gate takes the op or the refusal can be written
abbrev pub Asks : List ℕ → List Key → RequestHead → List ℕ → Turn → Type 0
Asks repository keys head body turn = WantsAny repository keys head body turn × IsGood turn
