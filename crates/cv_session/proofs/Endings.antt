-- How a session ends: with the reply to a request, or where no turn was read.
use Rattle.std.proofs.Common.{◌≡◌, ◌∙◌, ℕ, List, refl, ap, sym, arith, true, false, inl, inr}
use Rattle.std.specs.Prelude.{Option, Bool, ◌≢◌, ◌⊎◌, ◌||◌, is_some, if◌then◌else◌}
use Rattle.std.specs.declared.option.Option.TheVariants.{Some, None}
use Rattle.std.proofs.lemmas.Bool.Decides.{nat_tests}
use Rattle.cv_http.specs.declared.fault.HttpFault.TheVariants.{Short, ReadFault as Unread_}
use Rattle.cv_gate.specs.Desk.{Call}
use Rattle.cv_session.specs.Exchanges.{ends, is_full}
use Rattle.cv_session.specs.ExchangesInner.{end_after, Handles, EndsBy, whole, front, nothing, answered, unanswered, refused, broken_off, cut_short, not_read, no_memory, not_said}
use Rattle.cv_session.specs.Requests.{code_of_fault}
use Rattle.cv_session.specs.Standing.{Standing}
use Rattle.cv_session.specs.declared.exchange.TheConstants.{REQUEST_LIMIT}
use Rattle.cv_session.specs.declared.response.Response.{Response}
use Rattle.cv_session.specs.declared.request.Unread.{Unread}
use Rattle.cv_session.specs.declared.request.Unread.TheVariants.{Fault, Unsaid}
use Rattle.cv_session.specs.declared.session_end.SessionEnd.{SessionEnd}
use Rattle.cv_session.specs.declared.session_end.SessionEnd.TheVariants.{Closed, Bad, ReadFault, WriteFault, Clean, JournalFull, NoMemory}
use Rattle.cv_session.specs.declared.turn.Turn.{Turn}

-- ---- how a reply ends a session

pub end_of : (full_ last : Bool) (end : SessionEnd) → Some end ≡ (if full_ then Some JournalFull else if last then Some Closed else None)
    → ((full_ ≡ true) × (end ≡ JournalFull)) ⊎ ((full_ ≡ false) × (last ≡ true) × (end ≡ Closed))
end_of true last end is = inl (refl, cc)
end_of false true end is = inr (refl, refl, cc)
end_of false false end is = cc

pub goes_of : (full_ last : Bool) → None ≡ (if full_ then Some JournalFull else if last then Some Closed else None) → (full_ ≡ false) × (last ≡ false)
goes_of true last is = cc
goes_of false true is = cc
goes_of false false is = (refl, refl)

pub last_of : (full_ last : Bool) → (full_ || last) ≡ is_some (if full_ then Some JournalFull else if last then Some Closed else None)
last_of true last = refl
last_of false true = refl
last_of false false = refl

end_kind : (answer : Response) (last : Bool) (end : SessionEnd) → Some end ≡ end_after answer last → (end ≡ Closed) ⊎ (end ≡ JournalFull)
end_kind answer last end is = elim (end_of (is_full answer) last end is) [ inl whole_ ↦ inr whole_.1 | inr goes ↦ inl goes.2 ]

not_ended : (answer : Response) (last : Bool) (n : ℕ) → end_after answer (ends last n) ≡ None → n ≢ REQUEST_LIMIT
not_ended answer last n h = grind (arith, nat_tests)

-- the answer to a request ends a session by none of the ends of reading
abbrev is_behind_request : SessionEnd → Bool
is_behind_request Closed = true
is_behind_request JournalFull = true
is_behind_request WriteFault = true
is_behind_request NoMemory = true
is_behind_request _ = false

module _ {K : Type 0} {does : K → List Call → K → Type 0} {repository : List ℕ} {seal : List ℕ → List ℕ} {turn : Turn} {last : Bool} {taken taken' : Option (List ℕ)} {before after : Standing K} where
  behind_request : (end : SessionEnd) → Handles does repository seal turn last taken taken' before after (Some end) → is_behind_request end ≡ true
  behind_request end (answered answer _ d (whole _ end_is legible took)) =
      elim (end_kind answer last end end_is) [ inl closed_ ↦ ap is_behind_request closed_ | inr full_ ↦ ap is_behind_request full_ ]
  behind_request _ (answered answer _ d (front legible took)) = refl
  behind_request _ (answered answer _ d (nothing same)) = refl
  behind_request _ (unanswered d same) = refl

  pub not_by_reading : {end : SessionEnd} (other : SessionEnd) → is_behind_request other ≡ false → Handles does repository seal turn last taken taken' before after (Some end) → end ≢ other
  not_by_reading {end} other none handles same =
      let is = behind_request end handles in let both : is_behind_request other ≡ true = ap is_behind_request (sym same) ∙ is in cc

  -- the next request may still be answered
  pub goes_below : (asks : Bool) (n : ℕ) → last ≡ ends asks n → Handles does repository seal turn last taken taken' before after None → n ≢ REQUEST_LIMIT
  goes_below asks n is (answered answer _ d (whole _ end_is legible took)) = not_ended answer asks n (sym (ap (end_after answer) is) ∙ sym end_is)

-- ---- how a session ends where no turn was read

pub not_clean : {why : Unread} {taken taken' : Option (List ℕ)} {end : SessionEnd} → EndsBy why taken taken' end → end ≢ Clean
not_clean (refused other code same has said) is = cc
not_clean (broken_off other code same has said) is = cc
not_clean (cut_short same stays) is = cc
not_clean (not_read same stays) is = cc
not_clean (no_memory other same read stays) is = cc
not_clean (not_said same stays) is = cc

pub by_short : {why : Unread} {taken taken' : Option (List ℕ)} {end : SessionEnd} → EndsBy why taken taken' end → end ≡ Bad Short → why ≡ Fault Short
by_short (refused other code same has said) is = let e : other ≡ Short = cc in let none : None ≡ Some code = sym (ap code_of_fault e) ∙ has in cc
by_short (broken_off other code same has said) is = cc
by_short (cut_short same stays) is = same
by_short (not_read same stays) is = cc
by_short (no_memory other same read stays) is = cc
by_short (not_said same stays) is = cc

pub by_read_fault : {why : Unread} {taken taken' : Option (List ℕ)} {end : SessionEnd} → EndsBy why taken taken' end → end ≡ ReadFault → why ≡ Fault Unread_
by_read_fault (refused other code same has said) is = cc
by_read_fault (broken_off other code same has said) is = cc
by_read_fault (cut_short same stays) is = cc
by_read_fault (not_read same stays) is = same
by_read_fault (no_memory other same read stays) is = cc
by_read_fault (not_said same stays) is = cc

pub by_unsaid : {why : Unread} {taken taken' : Option (List ℕ)} {end : SessionEnd} → EndsBy why taken taken' end → why ≡ Unsaid → end ≡ WriteFault
by_unsaid (refused other code same has said) is = let both : Unsaid ≡ Fault other = sym is ∙ same in cc
by_unsaid (broken_off other code same has said) is = refl
by_unsaid (cut_short same stays) is = let both : Unsaid ≡ Fault Short = sym is ∙ same in cc
by_unsaid (not_read same stays) is = let both : Unsaid ≡ Fault Unread_ = sym is ∙ same in cc
by_unsaid (no_memory other same read stays) is = let both : Unsaid ≡ Fault other = sym is ∙ same in cc
by_unsaid (not_said same stays) is = refl

pub ends_unread : {why : Unread} {taken taken' : Option (List ℕ)} {end : SessionEnd} → EndsBy why taken taken' end → why ≡ Fault Unread_ → end ≡ ReadFault
ends_unread (refused other code same has said) is = let e : other ≡ Unread_ = cc in let none : None ≡ Some code = sym (ap code_of_fault e) ∙ has in cc
ends_unread (broken_off other code same has said) is = let e : other ≡ Unread_ = cc in let none : None ≡ Some code = sym (ap code_of_fault e) ∙ has in cc
ends_unread (cut_short same stays) is = let both : Fault Short ≡ Fault Unread_ = sym same ∙ is in cc
ends_unread (not_read same stays) is = refl
ends_unread (no_memory other same read stays) is = let e : other ≡ Unread_ = cc in absurd (read e)
ends_unread (not_said same stays) is = let both : Unsaid ≡ Fault Unread_ = sym same ∙ is in cc
