-- Requests that ask for a step, or are denied.
use Rattle.std.proofs.Common.{◌≡◌, ℕ, ◌<◌, ◌^◌, List, sym, ap, subst, ◌∙◌}
use Rattle.std.specs.Prelude.{Some, None, Result, Ok, Err, IfOk, IsErrAnd}
use Rattle.cv_base.specs.Token.{token_text}
use Rattle.cv_base.specs.declared.token.Token.{Token}
use Rattle.cv_base.specs.declared.memory.NoMemory.{NoMemory}
use Rattle.cv_gate.specs.declared.op.Op.{Op}
use Rattle.cv_messages.specs.Spelling.{IsToken, token_of}
use Rattle.cv_messages.proofs.Laws.{token_of-token_text, token_of-None}
use Rattle.cv_session.specs.DenialsInner.{Asks, Denies}
use Rattle.cv_session.specs.Turns.{token_by}
use Rattle.cv_session.specs.TurnsInner.{IsGood}
use Rattle.cv_session.specs.declared.denial.Denial.{Denial}
use Rattle.cv_session.specs.declared.turn.Turn.{Turn}

-- what is denied asks for no step
pub asks_denied : (turn : Turn) (asked : Result Op Denial) (denial : Denial) → IsErrAnd asked (λ d. d ≡ denial) → Denies turn denial → Asks turn asked
asks_denied turn (Ok o) denial h denies = absurd h
asks_denied turn (Err d) denial h denies = subst (Denies turn) (sym h) denies

-- a token that was read is the one that the text says
pub read_token : (text : List ℕ) (token : Token) → IsToken token → text ≡ token_text token → token ≡ token_by (token_of text)
read_token text token is same = ap token_by (sym (ap token_of same ∙ token_of-token_text token is))

-- and where none was read, none stands there
pub no_token : (text : List ℕ) → ((token : Token) → token.epoch < 2 ^ 64 → token.number < 2 ^ 64 → text ≡ token_text token → None ≡ Some token)
    → token_by None ≡ token_by (token_of text)
no_token text found = ap token_by (sym (token_of-None text (λ token is same. let none = found token is.epoch is.number same in cc)))

-- what is known of the turn is known of the one that was made
pub made_known : (P : Turn → Type 0) (turn : Turn) (made : Result Turn NoMemory) → IfOk made (λ m. (m ≡ turn) × IsGood m) → P turn → IfOk made P
made_known P turn (Ok m) is known = subst P (sym is.0) known
made_known P turn (Err e) is known = tt

-- and it is good
pub made_good : (turn : Turn) (made : Result Turn NoMemory) → IfOk made (λ m. (m ≡ turn) × IsGood m) → IfOk made IsGood
made_good turn (Ok m) is = is.1
made_good turn (Err e) is = tt
