-- A session, exchange after exchange.
use Rattle.std.proofs.Common.{◌≡◌, ◌≢◌, ◌+◌, ◌++◌, ◌∷◌, ℕ, suc, List, [], length, refl, ap, sym, subst, ◌∙◌, append-nil, append_assoc, arith, true, false, inl, inr, Ok, Err}
use Rattle.std.specs.Prelude.{Option, Bool, ◌||◌, is_some}
use Rattle.std.specs.declared.option.Option.TheVariants.{Some, None}
use Rattle.std.specs.List.{AllByRecursion}
use Rattle.std.proofs.lemmas.List.{length-append, map-append}
use Rattle.std.proofs.lemmas.Grind.{flat_map-append}
use Rattle.cv_base.proofs.Laws.{all_push}
use Rattle.cv_ports.specs.Streams.{Look, onto, Wrote}
use Rattle.cv_ports.proofs.Laws.{onto_twice, onto_none}
use Rattle.cv_http.specs.Heads.{Begins}
use Rattle.cv_http.specs.Replies.{continue_line}
use Rattle.cv_http.specs.Wires.{WireView, Draws, Looks}
use Rattle.cv_http.specs.declared.fault.HttpFault.{HttpFault}
use Rattle.cv_http.specs.declared.fault.HttpFault.TheVariants.{BadHead, HeadTooLarge, BodyTooLarge, NoLength, Coding, Short, ReadFault as Unread_, NoMemory as Lacking}
use Rattle.cv_http.specs.declared.code.Code.{Code}
use Rattle.cv_http.proofs.Lemmas.{begins_on, looks_none, looks_as, looks_then}
use Rattle.cv_keys.specs.declared.key.Key.{Key}
use Rattle.cv_gate.specs.Desk.{Call}
use Rattle.cv_session.specs.Asking.{Turned, refusing, IsNext, Opens, clean, closed, cut}
use Rattle.cv_session.specs.Asking.EndsWith.{refused as asked_refused}
use Rattle.cv_session.specs.Exchanges.{ends, is_full}
use Rattle.cv_session.specs.ExchangesInner.{IsWhy, IsAsking, Gets, end_after, Handles, EndsBy, fault, whole, front, nothing, answered, unanswered, refused, broken_off, cut_short, not_read, no_memory, not_said}
use Rattle.cv_session.specs.ExchangesInner.Gets.{whole as read_whole, ended as read_end, unsaid as line_unsaid}
use Rattle.cv_session.specs.Requests.{Request, IsRequest, IsBad, Reached, waits, line_text, code_of_fault}
use Rattle.cv_session.specs.Responses.{unsaid, reply_of}
use Rattle.cv_session.specs.ResponsesInner.{Does}
use Rattle.cv_session.specs.Said.{IsLegible}
use Rattle.cv_session.specs.Responses.{refused as refusal}
use Rattle.cv_session.specs.Sessions.{Exchange, turns, calls_of, is_last, saying, sayings, IsWritten, IsAnswered, Opened, IsLast, Ended, by_bytes, full, unread, broken, broken_line, forgotten, silent, IsUpToDate, ReadsUpToDate, PassedOn, Session}
use Rattle.cv_session.specs.Sessions.Comes.{request as next_request, fault as next_fault}
use Rattle.cv_session.specs.Standing.{Standing, Made}
use Rattle.cv_session.specs.declared.response.Response.{Response}
use Rattle.cv_session.specs.declared.response.Response.TheVariants.{Fixed}
use Rattle.cv_session.specs.declared.request.Asked.{Asked}
use Rattle.cv_session.specs.declared.request.Unread.{Unread}
use Rattle.cv_session.specs.declared.request.Unread.TheVariants.{Fault, Unsaid}
use Rattle.cv_session.specs.declared.session_end.SessionEnd.{SessionEnd}
use Rattle.cv_session.specs.declared.session_end.SessionEnd.TheVariants.{Clean, Closed, Bad, WriteFault, NoMemory}
use Rattle.cv_session.proofs.Endings.{end_of, goes_of, last_of, by_unsaid}
use Rattle.cv_session.proofs.Mades.{HasNone, HasMore, made_none, made_on}
use Rattle.cv_session.proofs.Writing.{code_legible}

-- ---- one exchange more

sayings_more : (es : List Exchange) (e : Exchange) → sayings (es ++ e ∷ []) ≡ sayings es ++ saying e
sayings_more es e = flat_map-append saying es (e ∷ []) ∙ ap (λ l. sayings es ++ l) (append-nil (saying e))

calls_more : (es : List Exchange) (e : Exchange) → calls_of (es ++ e ∷ []) ≡ calls_of es ++ e.calls
calls_more es e = flat_map-append (λ (x : Exchange). x.calls) es (e ∷ []) ∙ ap (λ l. calls_of es ++ l) (append-nil e.calls)

turns_more : (es : List Exchange) (e : Exchange) → turns (es ++ e ∷ []) ≡ turns es ++ e.asked ∷ []
turns_more es e = map-append (λ (x : Exchange). x.asked) es (e ∷ [])

turns_count : (es : List Exchange) → length (turns es) ≡ length es
turns_count [] = refl
turns_count (e ∷ es) = ap suc (turns_count es)

-- ---- more bytes behind those that were read

request_more : {b later : List ℕ} {r : Request} (more : List ℕ) → IsRequest b r later → IsRequest (b ++ more) r (later ++ more)
request_more {b} {later} {r} more is = record { begins = subst (Begins (b ++ more) r.head) (append_assoc r.body later more) (begins_on more is.begins); size = is.size; limit = is.limit }

module _ (repository : List ℕ) (keys : List Key) where
  next_more : {n : ℕ} {b later : List ℕ} {t : Turned} (more : List ℕ) → IsNext repository keys n b t later → IsNext repository keys n (b ++ more) t (later ++ more)
  next_more more next = record { request = next.request; is = request_more more next.is; wants = next.wants; waited = next.waited; last = next.last }

  opens_more : (n : ℕ) (b : List ℕ) (ts : List Turned) (later more : List ℕ) → Opens repository keys n b ts later → Opens repository keys n (b ++ more) ts (later ++ more)
  opens_more n b [] later more o = ap (λ x. x ++ more) o
  opens_more n b (t ∷ ts) later more o = (o.0 ++ more, next_more more o.1, o.2, opens_more (n + 1) o.0 ts later more o.3)

  -- one turn more
  opens_push : (n : ℕ) (b : List ℕ) (ts : List Turned) (rest : List ℕ) (t : Turned) (later : List ℕ) → Opens repository keys n b ts rest → IsNext repository keys (n + length ts + 1) rest t later → t.last ≡ false
      → Opens repository keys n b (ts ++ t ∷ []) later
  opens_push n b [] rest t later o next goes =
      let number : n + 0 + 1 ≡ n + 1 = omega arith in
      (later, subst (λ (x : List ℕ). IsNext repository keys (n + 1) x t later) o (subst (λ k. IsNext repository keys k rest t later) number next), goes, refl)
  opens_push n b (u ∷ ts) rest t later o next goes =
      let number : n + length (u ∷ ts) + 1 ≡ n + 1 + length ts + 1 = omega arith in
      (o.0, o.1, o.2, opens_push (n + 1) o.0 ts rest t later o.3 (subst (λ k. IsNext repository keys k rest t later) number next) goes)

opened_more : {repository : List ℕ} {keys : List Key} {seal : List ℕ → List ℕ} {b : List ℕ} {es : List Exchange} {rest : List ℕ} (more : List ℕ) → Opened repository keys seal b es rest → Opened repository keys seal (b ++ more) es (rest ++ more)
opened_more {repository} {keys} {b = b} {es} {rest} more o = record { opens = opens_more repository keys 0 b (turns es) rest more o.opens; open_ = o.open_ }

-- a fault and its answer
refusing_one : Code → Exchange
refusing_one code = record { asked = refusing code; calls = []; answer = Fixed code }

code_written : (code : Code) → IsWritten (refusing_one code)
unfolding refusing_one
code_written code = code_legible code

-- the answer ends no session
abbrev IsGoing : Exchange → Type 0
IsGoing e = is_full e.answer ≡ false

-- ---- the session so far

-- what fits the exchanges fits one more
abbrev pub Grows : (List Exchange → Type 0) → Type 0
Grows Fit = (es : List Exchange) (e : Exchange) → Fit es → Fit (es ++ e ∷ [])

pub record SoFar {K : Type 0} (does : K → List Call → K → Type 0) (repository : List ℕ) (keys : List Key) (seal : List ℕ → List ℕ) (Fit : List Exchange → Type 0) (b held : List ℕ) (taken : Option (List ℕ))
    (before : Standing K) (count : ℕ)
    (taken' : Option (List ℕ)) (after : Standing K) : Type 0 where
  pub exchanges : List Exchange
  pub answered_ : AllByRecursion (IsAnswered repository keys seal) exchanges
  pub written_ : AllByRecursion IsWritten exchanges
  pub opened : Opened repository keys seal b exchanges held
  pub number : length exchanges ≡ count
  pub said : taken' ≡ onto taken (sayings exchanges)
  pub made : Made does before (calls_of exchanges) after
  pub reads : Fit exchanges

-- how the session comes out, or how it goes on
abbrev pub ComesOut : {K : Type 0} (does : K → List Call → K → Type 0) (repository : List ℕ) (keys : List Key) (seal : List ℕ → List ℕ) (Fit : List Exchange → Type 0) (Passed : List ℕ → Type 0) (b held : List ℕ) (taken : Option (List ℕ))
    (before : Standing K) (count : ℕ)
    (taken' : Option (List ℕ)) (after : Standing K) → Option SessionEnd → Type 0
ComesOut does repository keys seal Fit Passed b held taken before count taken' after None = SoFar does repository keys seal Fit b held taken before count taken' after
ComesOut does repository keys seal Fit Passed b held taken before count taken' after (Some end) = Session does repository keys seal Fit Passed b held taken taken' before after end

pub begin : {K : Type 0} (does : K → List Call → K → Type 0) → HasNone does → (repository : List ℕ) (keys : List Key) (seal : List ℕ → List ℕ) (Fit : List Exchange → Type 0) → Fit [] → (b : List ℕ) (o : Option (List ℕ)) (s : Standing K)
    → SoFar does repository keys seal Fit b b o s 0 o s
begin does none repository keys seal Fit fits b o s = record {
  exchanges = [];
  answered_ = tt;
  written_ = tt;
  opened = record { opens = refl; open_ = tt };
  number = refl;
  said = onto_none o;
  made = made_none does none s;
  reads = fits;
}

-- a fault that has a reply is one by which bytes are refused, and no line was written
has_reply : (b : List ℕ) (line : Bool) (why : HttpFault) (code : Code) → code_of_fault why ≡ Some code → IsWhy b line why → IsBad b why × (line ≡ false)
has_reply b line BadHead code has why = why
has_reply b line HeadTooLarge code has why = why
has_reply b line BodyTooLarge code has why = why
has_reply b line NoLength code has why = why
has_reply b line Coding code has why = why
has_reply b line Short code has why = cc
has_reply b line Unread_ code has why = cc
has_reply b line Lacking code has why = cc

module _ {K : Type 0} {does : K → List Call → K → Type 0} {repository : List ℕ} {keys : List Key} {seal : List ℕ → List ℕ} {Fit : List Exchange → Type 0} {taken : Option (List ℕ)} {before : Standing K} where
  -- the same over more bytes
  pub so_more : {b held : List ℕ} {count : ℕ} {taken' : Option (List ℕ)} {after : Standing K} (more : List ℕ) → SoFar does repository keys seal Fit b held taken before count taken' after
      → SoFar does repository keys seal Fit (b ++ more) (held ++ more) taken before count taken' after
  so_more {b} {held} more s = record {
    exchanges = s.exchanges;
    answered_ = s.answered_;
    written_ = s.written_;
    opened = opened_more more s.opened;
    number = s.number;
    said = s.said;
    made = s.made;
    reads = s.reads;
  }

  module _ (follows : HasMore does) (grows : Grows Fit) {b later : List ℕ} {count : ℕ} {taken' : Option (List ℕ)} {after : Standing K} (s : SoFar does repository keys seal Fit b later taken before count taken' after) where
    -- what was said, with the line of a request or without it
    said_line : (line : Bool) (taken'' : Option (List ℕ)) → taken'' ≡ onto taken' (line_text line) → taken'' ≡ onto taken (sayings s.exchanges ++ line_text line)
    said_line line taken'' took = took ∙ ap (λ o. onto o (line_text line)) s.said ∙ onto_twice taken (sayings s.exchanges) (line_text line)

    said_one : (e : Exchange) (taken'' : Option (List ℕ)) → taken'' ≡ onto taken' (saying e) → taken'' ≡ onto taken (sayings (s.exchanges ++ e ∷ []))
    said_one e taken'' took = took ∙ ap (λ o. onto o (saying e)) s.said ∙ onto_twice taken (sayings s.exchanges) (saying e) ∙ ap (onto taken) (sym (sayings_more s.exchanges e))

    -- the calls that were made
    made_same : Made does before (calls_of s.exchanges ++ []) after
    made_same = subst (λ (calls : List Call). Made does before calls after) (sym (append-nil (calls_of s.exchanges))) s.made

    made_more : {after' : Standing K} (calls : List Call) → Made does after calls after' → Made does before (calls_of s.exchanges ++ calls) after'
    made_more {after'} calls made = made_on does follows (calls_of s.exchanges) calls before after after' s.made made

    made_one : {after' : Standing K} (e : Exchange) → Made does after e.calls after' → Made does before (calls_of (s.exchanges ++ e ∷ [])) after'
    made_one {after'} e made = subst (λ (calls : List Call). Made does before calls after') (sym (calls_more s.exchanges e)) (made_more e.calls made)

    made_last : {after' : Standing K} (e : Exchange) → Made does after e.calls after' → Made does before (calls_of (s.exchanges ++ e ∷ []) ++ []) after'
    made_last {after'} e made = subst (λ (calls : List Call). Made does before calls after') (sym (append-nil (calls_of (s.exchanges ++ e ∷ [])))) (made_one e made)

    -- the session ends with these exchanges
    ends_here : {Passed : List ℕ → Type 0} {held : List ℕ} {taken'' : Option (List ℕ)} {end : SessionEnd} → Ended repository keys seal b Passed held taken s.exchanges [] taken'' end → Session does repository keys seal Fit Passed b held taken taken'' before after end
    ends_here ended_ = record { exchanges = s.exchanges; answered = s.answered_; legible = s.written_; others = []; ended = ended_; made = made_same; reads = s.reads }

    ends_beside : {Passed : List ℕ → Type 0} {held : List ℕ} {taken'' : Option (List ℕ)} {after' : Standing K} {end : SessionEnd} (calls : List Call) → Made does after calls after' → Ended repository keys seal b Passed held taken s.exchanges calls taken'' end
        → Session does repository keys seal Fit Passed b held taken taken'' before after' end
    ends_beside calls made ended_ = record { exchanges = s.exchanges; answered = s.answered_; legible = s.written_; others = calls; ended = ended_; made = made_more calls made; reads = s.reads }

    -- the session ends with one exchange more
    ends_with_one : {Passed : List ℕ → Type 0} {held : List ℕ} {taken'' : Option (List ℕ)} {after' : Standing K} {end : SessionEnd} (e : Exchange) → IsAnswered repository keys seal e → IsWritten e → Made does after e.calls after'
        → Ended repository keys seal b Passed held taken (s.exchanges ++ e ∷ []) [] taken'' end → Session does repository keys seal Fit Passed b held taken taken'' before after' end
    ends_with_one e is written made ended_ = record {
      exchanges = s.exchanges ++ e ∷ [];
      answered = all_push (IsAnswered repository keys seal) s.exchanges e s.answered_ is;
      legible = all_push IsWritten s.exchanges e s.written_ written;
      others = [];
      ended = ended_;
      made = made_last e made;
      reads = grows s.exchanges e s.reads;
    }

    said_last : (e : Exchange) (taken'' : Option (List ℕ)) → taken'' ≡ onto taken' (saying e) → taken'' ≡ onto taken (sayings (s.exchanges ++ e ∷ []) ++ line_text false)
    said_last e taken'' took = said_one e taken'' took ∙ ap (onto taken) (sym (append-nil (sayings (s.exchanges ++ e ∷ []))))

    pub ends_clean : {Passed : List ℕ → Type 0} {held : List ℕ} {taken'' : Option (List ℕ)} → later ≡ [] → held ≡ later → taken'' ≡ taken' → Session does repository keys seal Fit Passed b held taken taken'' before after Clean
    ends_clean {taken'' = taken''} none still same =
        ends_here
        (by_bytes false Clean taken''
        (record { first = turns s.exchanges; rest = later; final = []; split = sym (append-nil (turns s.exchanges)); opens = s.opened.opens; ends_ = clean none })
        (still ∙ none) s.opened.open_ (said_line false taken'' (same ∙ onto_none taken')))

    -- a fault is answered
    module _ (none : HasNone does) (why : HttpFault) (code : Code) (is_bad : IsBad later why) (has_code : code_of_fault why ≡ Some code) where
      ends_bad : {Passed : List ℕ → Type 0} {held : List ℕ} (taken'' : Option (List ℕ)) → taken'' ≡ onto taken' (reply_of (Fixed code) true) → Session does repository keys seal Fit Passed b held taken taken'' before after (Bad why)
      unfolding refusing_one
      ends_bad taken'' took =
          ends_with_one (refusing_one code) (refusal code) (code_written code) (made_none does none after)
          (by_bytes false (Bad why) taken''
          (record {
            first = turns s.exchanges;
            rest = later;
            final = refusing code ∷ [];
            split = turns_more s.exchanges (refusing_one code);
            opens = s.opened.opens;
            ends_ = asked_refused why code is_bad has_code;
          })
          tt
          (all_push IsGoing s.exchanges (refusing_one code) s.opened.open_ refl) (said_last (refusing_one code) taken'' took))

      breaks_refusing : {Passed : List ℕ → Type 0} {held : List ℕ} (taken'' : Option (List ℕ)) → Wrote taken' taken'' (reply_of (Fixed code) true) → Passed (sayings s.exchanges ++ line_text false)
          → Session does repository keys seal Fit Passed b held taken taken'' before after WriteFault
      unfolding refusing_one
      breaks_refusing taken'' took passed =
          ends_beside [] (made_none does none after)
          (broken (refusing_one code) later taken'' s.opened (next_fault why code is_bad has_code refl) (refusal code) (code_written code)
          (subst (λ (o : Option (List ℕ)). Wrote o taken'' (reply_of (Fixed code) true)) (said_line false taken' (onto_none taken')) took) passed)

    -- without the line nothing was taken
    no_line : {line : Bool} {taken1 : Option (List ℕ)} → line ≡ false → taken1 ≡ onto taken' (line_text line) → taken1 ≡ taken'
    no_line {line} {taken1} is took = took ∙ ap (λ l. onto taken' (line_text l)) is ∙ sym (onto_none taken')

    -- the session ends where no turn was read
    by_fault_end : (none : HasNone does) {Passed : List ℕ → Type 0} {held : List ℕ} (why : HttpFault) (line : Bool) (taken1 taken2 : Option (List ℕ)) (end : SessionEnd) → Reached later line → IsWhy later line why → taken1 ≡ onto taken' (line_text line)
        → (end ≡ WriteFault → line ≡ false → Passed (sayings s.exchanges ++ line_text false)) → EndsBy (Fault why) taken1 taken2 end → Session does repository keys seal Fit Passed b held taken taken2 before after end
    by_fault_end none why line taken1 taken2 _ reached is took passed (refused other code same has said) =
        let here : why ≡ other = cc in
        let refuses = has_reply later line other code has (subst (IsWhy later line) here is) in
        ends_bad none other code refuses.0 has taken2 (said ∙ ap (λ o. onto o (reply_of (Fixed code) true)) (no_line refuses.1 took))
    by_fault_end none why line taken1 taken2 _ reached is took passed (broken_off other code same has said) =
        let here : why ≡ other = cc in
        let refuses = has_reply later line other code has (subst (IsWhy later line) here is) in
        breaks_refusing none other code refuses.0 has taken2 (subst (λ (o : Option (List ℕ)). Wrote o taken2 (reply_of (Fixed code) true)) (no_line refuses.1 took) said)
        (passed refl refuses.1)
    by_fault_end none why line taken1 taken2 _ reached is took passed (cut_short same stays) =
        let here : why ≡ Short = cc in
        ends_here
        (by_bytes line (Bad Short) taken2
        (record {
          first = turns s.exchanges;
          rest = later;
          final = [];
          split = sym (append-nil (turns s.exchanges));
          opens = s.opened.opens;
          ends_ = cut line (subst (IsWhy later line) here is);
        })
        tt s.opened.open_ (said_line line taken2 (stays ∙ took)))
    by_fault_end none why line taken1 taken2 _ reached is took passed (not_read same stays) =
        let here : why ≡ Unread_ = cc in
        ends_here (unread later line taken2 s.opened (subst (IsWhy later line) here is) (said_line line taken2 (stays ∙ took)))
    by_fault_end none why line taken1 taken2 _ reached is took passed (no_memory other same read stays) = ends_here (forgotten later line taken2 s.opened reached (said_line line taken2 (stays ∙ took)))
    by_fault_end none why line taken1 taken2 _ reached is took passed (not_said same stays) = cc

    by_line_end : {Passed : List ℕ → Type 0} {held : List ℕ} (taken1 taken2 : Option (List ℕ)) (end : SessionEnd) → Reached later true → Wrote taken' taken1 continue_line → Passed (sayings s.exchanges)
        → EndsBy Unsaid taken1 taken2 end → Session does repository keys seal Fit Passed b held taken taken2 before after end
    by_line_end taken1 taken2 _ reached took passed (refused other code same has said) = cc
    by_line_end taken1 taken2 _ reached took passed (broken_off other code same has said) = cc
    by_line_end taken1 taken2 _ reached took passed (cut_short same stays) = cc
    by_line_end taken1 taken2 _ reached took passed (not_read same stays) = cc
    by_line_end taken1 taken2 _ reached took passed (no_memory other same read stays) = cc
    by_line_end taken1 taken2 _ reached took passed (not_said same stays) =
        ends_here
        (broken_line later taken2 s.opened reached
        (subst (λ (o : Option (List ℕ)). Wrote o taken2 continue_line) s.said (subst (λ (o : Option (List ℕ)). Wrote taken' o continue_line) (sym stays) took)) passed)

    pub ends_by : (none : HasNone does) {Passed : List ℕ → Type 0} {held : List ℕ} {taken1 taken2 : Option (List ℕ)} {why : Unread} {end : SessionEnd} → Gets repository keys later held taken' taken1 (Err why)
        → (why ≡ Unsaid → Passed (sayings s.exchanges)) → (why ≢ Unsaid → end ≡ WriteFault → taken1 ≡ taken' → Passed (sayings s.exchanges ++ line_text false)) → EndsBy why taken1 taken2 end → Session does repository keys seal Fit Passed b held taken taken2 before after end
    ends_by none {taken1 = taken1} {taken2 = taken2} {end = end} (fault why line reached is took) in_line in_reply by =
        by_fault_end none why line taken1 taken2 end reached is took (λ broke unlined. in_reply (λ e. cc) broke (no_line unlined took)) by
    ends_by none {taken1 = taken1} {taken2 = taken2} {end = end} (line_unsaid reached took) in_line in_reply by = by_line_end taken1 taken2 end reached took (in_line refl) by

    -- the exchange of the request that comes next is the last
    last_one : {held : List ℕ} (t : Turned) → IsNext repository keys (length s.exchanges + 1) later t held → (e : Exchange) → e.asked ≡ t → IsLast repository keys seal b (s.exchanges ++ e ∷ []) held
    last_one {held} t next e same = record {
      first = s.exchanges;
      last_ = e;
      split = refl;
      rest = later;
      opened = s.opened;
      next = subst (λ (x : Turned). IsNext repository keys (length s.exchanges + 1) later x held) (sym same) next;
    }

    -- one request more
    module _ {held : List ℕ} (t : Turned) (next : IsNext repository keys (length s.exchanges + 1) later t held) {taken1 : Option (List ℕ)} (took_line : taken1 ≡ onto taken' (line_text t.waited)) {after' : Standing K} where
      nothing_said : {Passed : List ℕ → Type 0} {taken2 : Option (List ℕ)} → Does does repository seal t.what None after after' → taken2 ≡ taken1 → Session does repository keys seal Fit Passed b held taken taken2 before after' NoMemory
      nothing_said {taken2} d same = ends_beside d.calls d.made (silent t d.calls later taken2 s.opened next d.answers (said_line t.waited taken2 (same ∙ took_line)))

      module _ (answer : Response) (d : Does does repository seal t.what (Some answer) after after') where
        one : Exchange
        one = record { asked = t; calls = d.calls; answer = answer }

        -- the line and then the reply
        takes_both : (taken2 : Option (List ℕ)) → taken2 ≡ onto taken1 (reply_of answer (is_last one)) → taken2 ≡ onto taken' (saying one)
        unfolding one
        takes_both taken2 took = took ∙ ap (λ o. onto o (reply_of answer (is_full answer || t.last))) took_line ∙ onto_twice taken' (line_text t.waited) (reply_of answer (is_full answer || t.last))

        -- the reply was said
        pub whole_comes : (Passed : List ℕ → Type 0) (end : Option SessionEnd) (taken2 : Option (List ℕ)) → end ≡ end_after answer t.last → IsLegible answer
            → taken2 ≡ onto taken1 (reply_of answer (is_some end)) → ComesOut does repository keys seal Fit Passed b held taken before (count + 1) taken2 after' end
        unfolding one last_one
        whole_comes Passed None taken2 end_is legible took =
            let goes = goes_of (is_full answer) t.last end_is in
            let count = turns_count s.exchanges in
            let at : length s.exchanges + 1 ≡ 0 + length (turns s.exchanges) + 1 = omega (arith, count) in
            let closes : is_some (end_after answer t.last) ≡ is_last one = sym (last_of (is_full answer) t.last) in
            let said = takes_both taken2 (took ∙ ap (λ l. onto taken1 (reply_of answer l)) (ap is_some end_is ∙ closes)) in
            record {
              exchanges = s.exchanges ++ one ∷ [];
              answered_ = all_push (IsAnswered repository keys seal) s.exchanges one s.answered_ d.answers;
              written_ = all_push IsWritten s.exchanges one s.written_ legible;
              opened = record {
                opens =
                    subst (λ (ts : List Turned). Opens repository keys 0 b ts held) (sym (turns_more s.exchanges one))
                    (opens_push repository keys 0 b (turns s.exchanges) later t held s.opened.opens (subst (λ k. IsNext repository keys k later t held) at next) goes.1);
                open_ = all_push IsGoing s.exchanges one s.opened.open_ goes.0;
              };
              number = length-append s.exchanges (one ∷ []) ∙ ap (λ n. n + 1) s.number;
              said = said_one one taken2 said;
              made = made_one one d.made;
              reads = grows s.exchanges one s.reads;
            }
        whole_comes Passed (Some end) taken2 end_is legible took =
            let closes : is_some (end_after answer t.last) ≡ is_last one = sym (last_of (is_full answer) t.last) in
            let said = takes_both taken2 (took ∙ ap (λ l. onto taken1 (reply_of answer l)) (ap is_some end_is ∙ closes)) in
            elim (end_of (is_full answer) t.last end end_is) [
              | inl is ↦
                  subst (λ (x : SessionEnd). Session does repository keys seal Fit Passed b held taken taken2 before after' x) (sym is.1)
                  (ends_with_one one d.answers legible d.made (full (last_one t next one refl) taken2 is.0 (said_one one taken2 said)))
              | inr is ↦
                  subst (λ (x : SessionEnd). Session does repository keys seal Fit Passed b held taken taken2 before after' x) (sym is.2)
                  (ends_with_one one d.answers legible d.made
                  (by_bytes false Closed taken2
                  (record {
                    first = turns s.exchanges;
                    rest = later;
                    final = t ∷ [];
                    split = turns_more s.exchanges one;
                    opens = s.opened.opens;
                    ends_ = closed t held (subst (λ k. IsNext repository keys k later t held) (ap (λ n. n + 1) (sym (turns_count s.exchanges))) next) is.1;
                  })
                  (last_one t next one refl)
                  (all_push IsGoing s.exchanges one s.opened.open_ is.0) (said_last one taken2 said)))
            ]

        -- a front of the reply was said
        front_comes : {Passed : List ℕ → Type 0} (taken2 : Option (List ℕ)) → IsLegible answer → Wrote taken1 taken2 (reply_of answer (is_some (end_after answer t.last))) → Passed (sayings s.exchanges ++ line_text t.waited)
            → Session does repository keys seal Fit Passed b held taken taken2 before after' WriteFault
        unfolding one
        front_comes taken2 legible took passed =
            let closes : is_some (end_after answer t.last) ≡ is_last one = sym (last_of (is_full answer) t.last) in
            let took_reply = subst (λ (l : Bool). Wrote taken1 taken2 (reply_of answer l)) closes took in
            ends_beside d.calls d.made
            (broken one later taken2 s.opened (next_request next) d.answers legible
            (subst (λ (o : Option (List ℕ)). Wrote o taken2 (reply_of answer (is_last one))) (said_line t.waited taken1 took_line) took_reply) passed)

      -- what comes of the request
      pub comes : (Passed : List ℕ → Type 0) {end : Option SessionEnd} {taken2 : Option (List ℕ)} → (end ≡ Some WriteFault → Passed (sayings s.exchanges ++ line_text t.waited)) → Handles does repository seal t.what t.last taken1 taken2 after after' end
          → ComesOut does repository keys seal Fit Passed b held taken before (count + 1) taken2 after' end
      comes Passed {taken2 = taken2} passed (answered answer _ d (whole end end_is legible took)) = whole_comes answer d Passed end taken2 end_is legible took
      comes Passed {taken2 = taken2} passed (answered answer _ d (front legible took)) = front_comes answer d taken2 legible took (passed refl)
      comes Passed passed (answered answer _ d (nothing same)) = nothing_said (record { calls = d.calls; answers = unsaid answer d.answers; made = d.made }) same
      comes Passed passed (unanswered d same) = nothing_said d same

-- ---- when the source is read

module _ {R : Type 0} (left : R → Option (List ℕ)) (looks : R → Look → Type 0) {repository : List ℕ} {keys : List Key} {seal : List ℕ → List ℕ} (w0 : WireView R) {taken passed : Option (List ℕ)} where
  pub up_to_date_grows : (w : WireView R) → Grows (ReadsUpToDate repository keys seal left looks w0 w taken passed)
  up_to_date_grows w es e reads = λ was.
      looks_as left looks w0 w (IsUpToDate repository keys seal taken es) (IsUpToDate repository keys seal taken (es ++ e ∷ [])) (reads was) (λ b passed' is. record {
        first = is.first;
        later = is.later ++ e ∷ [];
        split = ap (λ l. l ++ e ∷ []) is.split ∙ append_assoc is.first is.later (e ∷ []);
        rest = is.rest;
        line = is.line;
        opened = is.opened;
        awaits = is.awaits;
        said = is.said;
      })

  pub up_to_date_none : ReadsUpToDate repository keys seal left looks w0 w0 taken passed []
  up_to_date_none = λ was. looks_none left looks w0 w0 (IsUpToDate repository keys seal taken []) refl

  -- what was read for the next request was read where all before it was said
  pub up_to_date_on : {K : Type 0} {does : K → List Call → K → Type 0} {before after : Standing K} {count : ℕ} {taken' passed' : Option (List ℕ)} (given : R → Option (List ℕ)) (w w' : WireView R)
      → Draws left given w0 w (λ b. SoFar does repository keys seal (ReadsUpToDate repository keys seal left looks w0 w taken passed) b w.held taken before count taken' after)
      → (passed ≡ taken → passed' ≡ taken') → (passed' ≡ taken' → Looks left looks w w' (IsAsking taken'))
      → Draws left given w0 w (λ b. SoFar does repository keys seal (ReadsUpToDate repository keys seal left looks w0 w' taken passed) b w.held taken before count taken' after)
  up_to_date_on {taken' = taken'} given w w' so flushed asks =
      let s = so.are in
      record {
        got = so.got;
        told = so.told;
        gave = so.gave;
        are = record {
          exchanges = s.exchanges;
          answered_ = s.answered_;
          written_ = s.written_;
          opened = s.opened;
          number = s.number;
          said = s.said;
          made = s.made;
          reads = λ was.
              looks_then left looks w0 w w' (λ b. Opened repository keys seal b s.exchanges w.held) (IsAsking taken') (IsUpToDate repository keys seal taken s.exchanges) (s.reads was)
              (record { got = so.got; told = so.told; are = s.opened }) (asks (flushed was)) (λ b more passed'' opened asking. record {
                first = s.exchanges;
                later = [];
                split = sym (append-nil s.exchanges);
                rest = w.held ++ more;
                line = asking.line;
                opened = opened_more more opened;
                awaits = asking.awaits;
                said = asking.said ∙ ap (λ o. onto o (line_text asking.line)) s.said ∙ onto_twice taken (sayings s.exchanges) (line_text asking.line);
              });
        };
      }

-- ---- the steps of the loop, whose names are that of the desk

module _ {K : Type 0} {does : K → List Call → K → Type 0} {repository name : List ℕ} {keys : List Key} {seal : List ℕ → List ℕ} {Fit : List Exchange → Type 0} {b later held : List ℕ} {taken : Option (List ℕ)} {before : Standing K} {count : ℕ}
    {taken' : Option (List ℕ)} {after : Standing K} (none : HasNone does) (follows : HasMore does) (grows : Grows Fit) (s : SoFar does repository keys seal Fit b later taken before count taken' after) (named : name ≡ repository) where
  pub clean_end : {Passed : List ℕ → Type 0} {taken1 : Option (List ℕ)} → Gets name keys later held taken' taken1 (Ok None) → Session does repository keys seal Fit Passed b held taken taken1 before after Clean
  clean_end (read_end is still same) = ends_clean follows grows s is still same

  pub other_end : {passed passed1 passed2 taken1 taken2 : Option (List ℕ)} {why : Unread} {end : SessionEnd} → Gets name keys later held taken' taken1 (Err why)
      → (why ≡ Unsaid → passed ≡ taken → passed1 ≡ taken') → (why ≢ Unsaid → passed ≡ taken → passed1 ≡ taken1) → (end ≡ WriteFault → passed2 ≡ passed1)
      → EndsBy why taken1 taken2 end → Session does repository keys seal Fit (PassedOn taken passed passed2) b held taken taken2 before after end
  other_end {taken1 = taken1} {why = why} gets line reply stays by =
      ends_by follows grows s none (subst (λ (n : List ℕ). Gets n keys later held taken' taken1 (Err why)) named gets)
      (λ is was. stays (by_unsaid by is) ∙ line is was ∙ s.said)
      (λ other broke unlined was. stays broke ∙ reply other was ∙ said_line follows grows s false taken1 (unlined ∙ onto_none taken')) by

  pub answered_one : {desk_name : List ℕ} {passed passed1 passed2 taken1 taken2 : Option (List ℕ)} {asked : Asked} {last : Bool} {after' : Standing K} {end : Option SessionEnd} → desk_name ≡ repository
      → Gets name keys later held taken' taken1 (Ok (Some asked)) → last ≡ ends asked.last (count + 1)
      → (passed ≡ taken → passed1 ≡ taken1) → (end ≡ Some WriteFault → passed2 ≡ passed1) → Handles does desk_name seal asked.turn last taken1 taken2 after after' end
      → ComesOut does repository keys seal Fit (PassedOn taken passed passed2) b held taken before (count + 1) taken2 after' end
  answered_one {passed = passed} {passed2 = passed2} {taken1 = taken1} {taken2 = taken2} {asked = asked} {last = last} {after' = after'} {end = end} desk gets last_is reply stays handles =
      one_of (subst (λ (n : List ℕ). Gets n keys later held taken' taken1 (Ok (Some asked))) named gets)
      (subst (λ (n : List ℕ). Handles does n seal asked.turn last taken1 taken2 after after' end) desk handles)
    where
      one_of : Gets repository keys later held taken' taken1 (Ok (Some asked)) → Handles does repository seal asked.turn last taken1 taken2 after after' end
          → ComesOut does repository keys seal Fit (PassedOn taken passed passed2) b held taken before (count + 1) taken2 after' end
      one_of (read_whole request _ is wants asks took) done =
          comes follows grows s (record { what = asked.turn; waited = waits request.head; last = last })
          (record { request = request; is = is; wants = wants; waited = refl; last = last_is ∙ ap (λ l. ends l (count + 1)) asks ∙ ap (λ n. ends request.head.last (n + 1)) (sym s.number) })
          took (PassedOn taken passed passed2) (λ broke was. stays broke ∙ reply was ∙ said_line follows grows s (waits request.head) taken1 took) done
