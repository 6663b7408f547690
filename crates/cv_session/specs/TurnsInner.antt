-- What a request asks: for a lease, a commit and a lease's end the authorization is judged first, then the message, the
-- repository and the path. What only this crate's own functions say.
use Rattle.std.specs.Prelude.{◌≡◌, true}
use Rattle.cv_answers.specs.Refusal.{is_refusal}
use Rattle.cv_gate.specs.Step.{IsOp}
use Rattle.cv_session.specs.declared.turn.Turn.{Turn}
use Rattle.cv_session.specs.declared.turn.Turn.TheVariants.{Step, Deny}

-- the gate takes the op of a step, and a refusal can be written
abbrev pub IsGood : Turn → Type 0
IsGood (Step o) = IsOp o
IsGood (Deny refusal) = is_refusal refusal ≡ true
IsGood other = Unit {0}
