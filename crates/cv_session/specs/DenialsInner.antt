-- Requests that ask for a step, or are denied.
use Rattle.std.specs.Prelude.{◌≡◌, true, Result, Ok, Err}
use Rattle.cv_answers.specs.Refusal.{is_refusal}
use Rattle.cv_answers.specs.declared.reason.Reason.TheVariants as reason
use Rattle.cv_gate.specs.Step.{IsOp}
use Rattle.cv_gate.specs.declared.op.Op.{Op}
use Rattle.cv_session.specs.Turns.{denied}
use Rattle.cv_session.specs.declared.denial.Denial.{Denial}
use Rattle.cv_session.specs.declared.denial.Denial.TheVariants.{Refused, NoMemory}
use Rattle.cv_session.specs.declared.turn.Turn.{Turn}
use Rattle.cv_session.specs.declared.turn.Turn.TheVariants.{Step, Deny}

-- the turn that a denial stands for
abbrev pub turn_of : Denial → Turn
turn_of (Refused refusal) = Deny refusal
turn_of NoMemory = denied reason.NoMemory

-- the turn is this refusal, which can be written, unless memory was wanted
abbrev pub Denies : Turn → Denial → Type 0
Denies turn (Refused refusal) = (turn ≡ Deny refusal) × (is_refusal refusal ≡ true)
Denies turn NoMemory = Unit {0}

-- the turn is this step, which the gate takes, or is denied
abbrev pub Asks : Turn → Result Op Denial → Type 0
Asks turn (Ok o) = (turn ≡ Step o) × IsOp o
Asks turn (Err denial) = Denies turn denial
