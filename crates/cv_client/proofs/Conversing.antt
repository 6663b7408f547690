-- What a link tells once a request was written and its reply was read.
use Rattle.std.proofs.Common.{◌≡◌, ◌≤◌, ◌⊎◌, ◌++◌, ℕ, List, [], refl, sym, ap, subst, ◌∙◌, inl, inr, append-nil, arith}
use Rattle.std.specs.Prelude.{Bool, true, false, nat_lt, ◌||◌, if◌then◌else◌, Option, Some, None, IsSome}
use Rattle.std.specs.declared.result.Result.TheVariants.{Err}
use Rattle.std.proofs.lemmas.Option.{none-some}
use Rattle.std.proofs.lemmas.Bool.{lt-ltb, false≢true}
use Rattle.cv_base.specs.Counts.{Rose, raised}
use Rattle.cv_base.specs.Told.{WhereTold}
use Rattle.cv_ports.specs.Streams.{Look, front, onto, Wrote}
use Rattle.cv_ports.specs.Dial.{Came, after_back}
use Rattle.cv_http.specs.Requests.{request_text}
use Rattle.cv_http.specs.ReplyTexts.{IsAwaitedReply, ReplyLost}
use Rattle.cv_http.specs.Wires.{WireView, Looks, Beside, HasEnded}
use Rattle.cv_http.specs.declared.outgoing.Outgoing.{Outgoing}
use Rattle.cv_http.specs.declared.fault.HttpFault.{HttpFault}
use Rattle.cv_http.specs.declared.fault.HttpFault.TheVariants.{BadHead, HeadTooLarge, BodyTooLarge, NoLength, Coding, Short, ReadFault, NoMemory}
use Rattle.cv_http.specs.declared.reply.SendFault.{SendFault}
use Rattle.cv_http.specs.declared.reply.SendFault.TheVariants as send_fault
use Rattle.cv_client.specs.Asking.{IsBehind}
use Rattle.cv_client.specs.Exchange.{Converses, IsTold, TookFront, TookAll, bad, write_failed, read_failed, no_memory}
use Rattle.cv_client.specs.FaultsInner.{of_send, of_read}

-- what comes onto nothing is all that is told then
pub all_of : (old : Option (List ℕ)) (new : Option (List ℕ)) (text : List ℕ) → WhereTold old (λ b. b ≡ []) → new ≡ onto old text → WhereTold new (λ b. b ≡ text)
all_of None new text fresh is = λ b told. absurd (none-some b (sym is ∙ told))
all_of (Some old) new text fresh is = λ b told. (let e : Some b ≡ Some (old ++ text) = sym told ∙ is in let same : b ≡ old ++ text = cc in same ∙ ap (λ (o : List ℕ). o ++ text) (fresh old refl))

-- what was told before is told then
onto_told : (old : Option (List ℕ)) (text : List ℕ) → IsSome old → IsSome (onto old text)
onto_told None text is = is
onto_told (Some bytes) text is = refl

front_told : (text : List ℕ) (new : Option (List ℕ)) → IsSome (front text new) → IsSome new
front_told text None is = is
front_told text (Some bytes) is = refl

wrote_told : {old new : Option (List ℕ)} {text : List ℕ} → Wrote old new text → IsSome old → IsSome new
wrote_told {old} {new} wrote is = subst IsSome (sym wrote.taken) (onto_told old wrote.written is)

-- a link whose request wasn't passed on is told
pub told_unsent : (c c' : Came) (text : List ℕ) → Wrote c.taken c'.taken text → c'.passed ≡ c.passed → c'.given ≡ c.given → c'.left ≡ c.left → IsTold c → IsTold c'
told_unsent c c' text wrote held gave left is = record {
  given = subst IsSome (sym gave) is.given;
  left = subst IsSome (sym left) is.left;
  taken = wrote_told wrote is.taken;
  passed = subst IsSome (sym held) is.passed;
}

-- and so is one that was read behind its request
pub told_sent : (c c' : Came) (text got : List ℕ) → Wrote c.taken c'.taken text → c'.passed ≡ c'.taken → c'.given ≡ onto c.given got → c.left ≡ front got c'.left → IsTold c → IsTold c'
told_sent c c' text got wrote flushed gave left is =
    let taken : IsSome c'.taken = wrote_told wrote is.taken in record {
      given = subst IsSome (sym gave) (onto_told c.given got is.given);
      left = front_told got c'.left (subst IsSome left is.left);
      taken = taken;
      passed = subst IsSome (sym flushed) taken;
    }

-- what is passed on of it is all
pub all_passed : (old taken passed : Option (List ℕ)) (text : List ℕ) → WhereTold old (λ b. b ≡ []) → taken ≡ onto old text → passed ≡ taken → WhereTold passed (λ b. b ≡ text)
all_passed old taken passed text fresh is flushed = λ b told. all_of old taken text fresh is b (sym flushed ∙ told)

-- what a link gave, and then what it has left, is what it had left at first
pub all_sent : (old given left first : Option (List ℕ)) (got : List ℕ) → WhereTold old (λ b. b ≡ []) → given ≡ onto old got → first ≡ front got left → WhereTold given (λ b. front b left ≡ first)
all_sent old given left first got fresh gave had = λ b told. ap (λ (g : List ℕ). front g left) (all_of old given got fresh gave b told) ∙ sym had

-- and was when each read began, where no whole reply had come
pub all_looked : {R : Type 0} (left : R → Option (List ℕ)) (looks : R → Look → Type 0) (w w' : WireView R) (now : R) (link : Came) (request : Outgoing) (old passed : Option (List ℕ))
    → now ≡ w'.source → w.held ≡ [] → ((look : Look) → looks w.source look → ⊥) → Looks left looks w w' (Beside passed IsAwaitedReply) → WhereTold passed (λ b. b ≡ request_text request)
    → (IsSome old → IsSome passed) → WhereTold link.given (λ given. front given link.left ≡ left w.source) → (look : Look) → looks now look → IsBehind request link (IsSome old) look
all_looked left looks w w' now link request old passed same none unread seen whole tells sent look is = elim (seen look (subst (λ s. looks s look) same is)) [
  | inl noted ↦ absurd (unread look noted)
  | inr at ↦ record {
    whole = λ b told. whole b (sym at.are.1 ∙ told);
    told = λ was. subst IsSome (sym at.are.1) (tells was);
    got = at.got;
    split = λ given told. sent given told ∙ at.told;
    awaits = subst (λ (held : List ℕ). IsAwaitedReply (held ++ at.got)) none at.are.0;
  }
]

-- what was passed on is told where it was before
pub passed_told : {old old_passed new passed : Option (List ℕ)} {text : List ℕ} → Wrote old new text → old_passed ≡ old → passed ≡ new → IsSome old_passed → IsSome passed
passed_told wrote before flushed is = subst IsSome (sym flushed) (wrote_told wrote (subst IsSome before is))

-- of a text that was to be written onto nothing a front is told
pub front_of : (old new : Option (List ℕ)) (request : Outgoing) → WhereTold old (λ b. b ≡ []) → Wrote old new (request_text request) → WhereTold new (TookFront request)
front_of old new request fresh wrote = λ b told. record {
  more = wrote.unwritten;
  split = wrote.split ∙ ap (λ (w : List ℕ). w ++ wrote.unwritten) (sym (all_of old new wrote.written fresh wrote.taken b told));
}

-- the bytes that were read are told
pub told_of : (P : List ℕ → Type 0) (old new : Option (List ℕ)) (got : List ℕ) → WhereTold old (λ b. b ≡ []) → new ≡ onto old got → P got → WhereTold new P
told_of P old new got fresh gave are = λ b told. subst P (sym (all_of old new got fresh gave b told)) are

-- what the link took and gave where the request wasn't written
pub unsent : (request : Outgoing) (c : Came) (fault : SendFault) → WhereTold c.taken (TookFront request) → WhereTold c.given (λ b. b ≡ []) → Converses request c (Err (of_send fault))
unsent request c send_fault.WriteFault took none = write_failed took none
unsent request c send_fault.NoMemory took none = no_memory took

-- a request of which all was taken
whole_front : (request : Outgoing) (c : Came) → TookAll request c → WhereTold c.taken (TookFront request)
whole_front request c took = λ b told. record { more = []; split = sym (took.taken b told) ∙ sym (append-nil b) }

-- and where no reply was read
pub unread : (request : Outgoing) (c : Came) (fault : HttpFault) → TookAll request c → WhereTold c.given (λ b. ReplyLost b fault)
    → (fault ≡ Short → HasEnded c.left) → Converses request c (Err (of_read fault))
unread request c BadHead took lost ended = bad took (λ b told. inl (BadHead, lost b told))
unread request c HeadTooLarge took lost ended = bad took (λ b told. inl (HeadTooLarge, lost b told))
unread request c BodyTooLarge took lost ended = bad took (λ b told. inl (BodyTooLarge, lost b told))
unread request c NoLength took lost ended = bad took (λ b told. absurd (lost b told))
unread request c Coding took lost ended = bad took (λ b told. inl (Coding, lost b told))
unread request c Short took lost ended = bad took (λ b told. inr (lost b told, ended refl))
unread request c ReadFault took lost ended = read_failed took lost
unread request c NoMemory took lost ended = no_memory (whole_front request c took)

-- a count that may have been raised when a link came back
module _ (before mid : ℕ) (later : before ≤ mid) where
  raised_by_one : (a b : Bool) → (a ≡ true) ⊎ (b ≡ true) → Rose 1 before (if a || b then raised mid else mid)
  raised_by_one true b some = omega (arith, later)
  raised_by_one false true some = omega (arith, later)
  raised_by_one false false (inl is) = absurd (false≢true is)
  raised_by_one false false (inr is) = absurd (false≢true is)

  some_fault : {reads writes : ℕ} → Rose 1 0 reads ⊎ Rose 1 0 writes → (nat_lt 0 reads ≡ true) ⊎ (nat_lt 0 writes ≡ true)
  some_fault {reads} (inl rose) = inl (lt-ltb 0 reads (omega (arith, rose)))
  some_fault {reads} {writes} (inr rose) = inr (lt-ltb 0 writes (omega (arith, rose)))

-- and rose where one of the link's halves counted a fault
pub back_rose : (before mid after reads writes : ℕ) → before ≤ mid → Rose 1 0 reads ⊎ Rose 1 0 writes → after ≡ after_back reads writes mid → Rose 1 before after
back_rose before mid after reads writes later some counted =
    subst (λ (x : ℕ). Rose 1 before x) (sym counted) (raised_by_one before mid later (nat_lt 0 reads) (nat_lt 0 writes) (some_fault before mid later some))
