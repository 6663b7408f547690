-- How a reply is read: its interim heads, its head and its body.
use Rattle.std.proofs.Common.{◌≡◌, ◌≢◌, ◌≤◌, ◌+◌, ◌++◌, ℕ, List, refl, subst}
use Rattle.std.specs.Prelude.{Option, Some, None, Ok, Err}
use Rattle.cv_ports.specs.Streams.{Look}
use Rattle.cv_http.specs.Forms.{BeginsAs, AwaitedAs}
use Rattle.cv_http.specs.ReplyHeads.{reply_form}
use Rattle.cv_http.specs.ReplyTexts.{interim_code, Passes, no_more, one_more, Reaches, HasFinal, IsBody, IsOpen, IsReply, bad_head, too_large, IsCutReply, before_head, inside_head, inside_body, IsAwaitedReply, awaits_head, awaits_body, ReplyLost}
use Rattle.cv_http.specs.ReplyTextsInner.{ReplyBodyRead}
use Rattle.cv_http.specs.Wires.{WireView, Draws, Looks, Beside, HeadReadAs}
use Rattle.cv_http.specs.declared.reply_head.ReplyHead.{ReplyHead}
use Rattle.cv_http.specs.declared.fault.HttpFault.{HttpFault}
use Rattle.cv_http.specs.declared.fault.HttpFault.TheVariants.{BadHead, HeadTooLarge, BodyTooLarge, NoLength, Coding, Short, ReadFault, NoMemory}
use Rattle.cv_http.specs.declared.wire.TheConstants.{INTERIM_LIMIT}
use Rattle.cv_http.proofs.Refusals.{reply_needs_none}
use Rattle.cv_http.proofs.Streams.{begins_on, draws_reads, looks_then}

-- ---- heads

pub passes_on : {n : ℕ} {b at : List ℕ} (l : List ℕ) → Passes n b at → Passes n (b ++ l) (at ++ l)
passes_on l (no_more b) = no_more (b ++ l)
passes_on l (one_more n b later at head begins code more) = one_more n (b ++ l) (later ++ l) (at ++ l) head (begins_on l begins) code (passes_on l more)

-- one more behind them
passes_then : {n : ℕ} {b at : List ℕ} (later : List ℕ) (head : ReplyHead) → Passes n b at → BeginsAs reply_form at head later → head.code ≡ interim_code → Passes (n + 1) b later
passes_then later head (no_more b) begins code = one_more 0 b later later head begins code (no_more later)
passes_then later head (one_more n b next at first is was more) begins code = one_more (n + 1) b next later first is was (passes_then later head more begins code)

pub reaches_on : {n : ℕ} {b at : List ℕ} (l : List ℕ) → n ≤ INTERIM_LIMIT → Passes n b at → Reaches (b ++ l) (at ++ l)
reaches_on {n} l within passes = record { count = n; limit = within; passes = passes_on l passes }

pub final_on : {b later : List ℕ} {head : ReplyHead} (l : List ℕ) → HasFinal b head later → HasFinal (b ++ l) head (later ++ l)
final_on l f = record { at = f.at ++ l; reaches = reaches_on l f.reaches.limit f.reaches.passes; begins = begins_on l f.begins; final = f.final }

module _ {n : ℕ} {b held : List ℕ} (more held' : List ℕ) (passes : Passes n b held) where
  -- an interim head more
  pub one_passed : (head : ReplyHead) → head.code ≡ interim_code → BeginsAs reply_form (held ++ more) head held' → Passes (n + 1) (b ++ more) held'
  one_passed head code begins = passes_then held' head (passes_on more passes) begins code

  module _ (within : n ≤ INTERIM_LIMIT) where
    -- a head of another code
    pub final_found : (head : ReplyHead) → head.code ≢ interim_code → BeginsAs reply_form (held ++ more) head held' → HasFinal (b ++ more) head held'
    final_found head final begins = record { at = held ++ more; reaches = reaches_on more within passes; begins = begins; final = final }

    -- no head
    pub final_lost : (fault : HttpFault) → HeadReadAs reply_form (held ++ more) held' (Err fault) → ReplyLost (b ++ more) fault
    final_lost BadHead is = bad_head (held ++ more) BadHead (reaches_on more within passes) is.0
    final_lost HeadTooLarge is = bad_head (held ++ more) HeadTooLarge (reaches_on more within passes) is.0
    final_lost BodyTooLarge is = bad_head (held ++ more) BodyTooLarge (reaches_on more within passes) is.0
    final_lost NoLength is = reply_needs_none (held ++ more) NoLength is.0 refl
    final_lost Coding is = bad_head (held ++ more) Coding (reaches_on more within passes) is.0
    final_lost Short is = inside_head (held ++ more) (reaches_on more within passes) is.0
    final_lost ReadFault is = awaits_head (held ++ more) (reaches_on more within passes) is.0
    final_lost NoMemory is = tt

    -- no bytes of one
    pub final_none : (found : Option ReplyHead) → ((head : ReplyHead) → found ≡ Some head → ⊥) → HeadReadAs reply_form (held ++ more) held' (Ok found) → IsCutReply (b ++ more)
    final_none None lacks is = before_head (subst (Reaches (b ++ more)) is.0 (reaches_on more within passes))
    final_none (Some head) lacks is = absurd (lacks head refl)

module _ {R : Type 0} (left given : R → Option (List ℕ)) (looks : R → Look → Type 0) (w0 w w' : WireView R) (passed : Option (List ℕ)) where
  -- a read began before a head, or inside one, behind interim heads
  pub interim_looks : {n : ℕ} → n ≤ INTERIM_LIMIT → Draws left given w0 w (λ b. Passes n b w.held) → Looks left looks w0 w (Beside passed IsAwaitedReply)
      → Looks left looks w w' (Beside passed (AwaitedAs reply_form)) → Looks left looks w0 w' (Beside passed IsAwaitedReply)
  interim_looks {n} within draws first then_ =
      looks_then left looks w0 w w' (λ b. Passes n b w.held) (Beside passed (AwaitedAs reply_form)) (Beside passed IsAwaitedReply) first (draws_reads left given w0 w _ draws) then_
      (λ b more passed' passes is. (awaits_head (w.held ++ more) (reaches_on more within passes) is.0, is.1))

  -- or inside a body behind a head
  pub body_looks : (head : ReplyHead) → Draws left given w0 w (λ b. HasFinal b head w.held) → Looks left looks w0 w (Beside passed IsAwaitedReply)
      → Looks left looks w w' (Beside passed (IsOpen head.length)) → Looks left looks w0 w' (Beside passed IsAwaitedReply)
  body_looks head draws first then_ =
      looks_then left looks w0 w w' (λ b. HasFinal b head w.held) (Beside passed (IsOpen head.length)) (Beside passed IsAwaitedReply) first (draws_reads left given w0 w _ draws) then_
      (λ b more passed' final is. (awaits_body head (w.held ++ more) (final_on more final) is.0, is.1))

-- ---- replies

-- no body behind a head
pub body_lost : (Ends : Type 0) (b more held held' : List ℕ) (head : ReplyHead) (fault : HttpFault) → HasFinal b head held
    → ReplyBodyRead Ends head.length (held ++ more) held' (Err fault) → ReplyLost (b ++ more) fault
body_lost Ends b more held held' head BadHead final is = absurd is
body_lost Ends b more held held' head HeadTooLarge final is = absurd is
body_lost Ends b more held held' head BodyTooLarge final is = too_large head (held ++ more) (final_on more final) is
body_lost Ends b more held held' head NoLength final is = is
body_lost Ends b more held held' head Coding final is = absurd is
body_lost Ends b more held held' head Short final is = inside_body head (held ++ more) (final_on more final) is
body_lost Ends b more held held' head ReadFault final is = awaits_body head (held ++ more) (final_on more final) is
body_lost Ends b more held held' head NoMemory final is = tt

-- a body behind a head
pub replied : (Ends : Type 0) (b more held held' body : List ℕ) (head : ReplyHead) → HasFinal b head held → IsBody Ends head.length (held ++ more) body held'
    → IsReply Ends (b ++ more) (record { code = head.code; body = body }) held'
replied Ends b more held held' body head final is = record { head = head; behind = held ++ more; final = final_on more final; code = refl; body = is }
