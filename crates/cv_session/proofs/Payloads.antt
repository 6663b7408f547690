-- Reading a payload.
use Rattle.std.proofs.Common.{◌≡◌, ◌≤◌, ◌<◌, ◌+◌, ◌-◌, ◌++◌, ◌∷◌, ℕ, zero, suc, List, [], length, take, drop, refl, ap, sym, subst, ◌∙◌, arith, Ok, Err, inl, inr, append_assoc, length-append}
use Rattle.std.specs.Prelude.{Option, Result, IfOk, min, IsErrAnd, MatchResult}
use Rattle.std.specs.declared.option.Option.TheVariants.{Some, None}
use Rattle.std.specs.List.{AllByRecursion}
use Rattle.std.proofs.lemmas.Bool.Decides.{nat_tests}
use Rattle.std.proofs.lemmas.List.{take_min}
use Rattle.std.proofs.Math.Seq.{take-append_seam, drop-append_seam}
use Rattle.sha1.specs.Sha1.{sha1, Holds}
use Rattle.sha1.specs.declared.Sha1.{Sha1}
use Rattle.cv_base.specs.Sequence.{◌>>=◌}
use Rattle.cv_base.specs.Unless.{IsUnless}
use Rattle.cv_base.specs.declared.object.Object.{Object}
use Rattle.cv_base.proofs.Laws.{bytes_itself}
use Rattle.cv_ports.specs.Streams.{Look}
use Rattle.cv_http.specs.Wires.{WireView, Draws, Looks, Beside, BodyRead, PieceRead}
use Rattle.cv_http.specs.declared.fault.HttpFault.{HttpFault}
use Rattle.cv_http.specs.declared.fault.HttpFault.TheVariants as http
use Rattle.cv_http.proofs.Lemmas.{draws_then, draws_none, draws_reads, looks_as, looks_then, body_looks}
use Rattle.cv_keys.specs.declared.key.Key.{Key}
use Rattle.cv_answers.specs.declared.reason.Reason.TheVariants as reason
use Rattle.cv_answers.specs.declared.refusal.Refusal.{Refusal}
use Rattle.cv_messages.specs.PayloadAsk.{payload_ask_of}
use Rattle.cv_messages.specs.Spelling.{decimal_of}
use Rattle.cv_messages.specs.declared.payload_ask.PayloadAsk.{PayloadAsk}
use Rattle.cv_gate.specs.Step.{IsSent}
use Rattle.cv_pack.specs.Pack.{IsPacked}
use Rattle.cv_pack.specs.PackReader.{Fed, pack_of, pack_in}
use Rattle.cv_pack.specs.Reading.{reading}
use Rattle.cv_pack.specs.declared.pack_fault.PackFault.{PackFault}
use Rattle.cv_pack.specs.declared.pack_fault.PackFault.TheVariants.{NoMemory}
use Rattle.cv_pack.specs.declared.pack_reader.PackReader.{PackReader}
use Rattle.cv_session.specs.DenialsInner.{Denies}
use Rattle.cv_session.specs.Payloads.{fitting, message_size, payload_by_ask, payload_on, payload_from, payload_turn}
use Rattle.cv_session.specs.PayloadsInner.{Came, ReadsBody, LooksWithin, Says, refused_pack}
use Rattle.cv_session.specs.Turns.{signed, denied}
use Rattle.cv_session.specs.TurnsInner.{IsGood}
use Rattle.cv_session.specs.declared.denial.Denial.{Denial}
use Rattle.cv_session.specs.declared.denial.Denial.TheVariants.{Refused}
use Rattle.cv_session.specs.declared.payload.Announced.{Announced}
use Rattle.cv_session.specs.declared.turn.Turn.{Turn}
use Rattle.cv_session.specs.declared.turn.Turn.TheVariants.{Deny}

-- what a pack has may be sent
pub are_sent : (objects : List Object) → AllByRecursion IsPacked objects → AllByRecursion IsSent objects
are_sent [] all = tt
are_sent (o ∷ objects) all = ((rw (sym all.0.hash) refl, all.0.kind), are_sent objects all.1)

-- ---- what came so far

take_nothing : {A : Type 0} (n : ℕ) → let none : List A = [] in take n none ≡ none
take_nothing zero = refl
take_nothing (suc n) = refl

take_both : {A : Type 0} (n : ℕ) (xs ys : List A) → take n (xs ++ ys) ≡ take n xs ++ take (n - length xs) ys
take_both {A} n [] ys =
    let none : List A = [] in
    let same : n ≡ n - length none = omega arith in
    ap (λ k. take k ys) same ∙ ap (λ (l : List A). l ++ take (n - length none) ys) (sym (take_nothing n))
take_both zero (x ∷ xs) ys =
    let same : 0 ≡ 0 - length (x ∷ xs) = omega arith in ap (λ k. take k ys) same
take_both (suc n) (x ∷ xs) ys =
    let same : n - length xs ≡ suc n - length (x ∷ xs) = omega arith in
    ap (λ l. x ∷ l) (take_both n xs ys ∙ ap (λ k. take n xs ++ take k ys) same)

-- the first bytes of what came, with a piece
pub hashed : (most before count : ℕ) (fed piece : List ℕ) → length fed ≡ before → count ≡ min (most - before) (length piece) → take most fed ++ take count piece ≡ take most (fed ++ piece)
hashed most before count fed piece size is =
    ap (λ l. take most fed ++ l) (ap (λ n. take n piece) is ∙ take_min (most - before) piece ∙ ap (λ n. take (most - n) piece) (sym size)) ∙ sym (take_both most fed piece)

-- ---- the bytes read

-- fewer bytes were there than were asked for, where the input ended or the source failed
shorter : {A B : Type 0} (P : List ℕ → A → Type 0) (Q : List ℕ → B → Type 0) (b b' held held' : List ℕ) (size size' : ℕ) (fault : HttpFault)
    → (length b < size → length b' < size') → BodyRead size P b held (Err fault) → BodyRead size' Q b' held' (Err fault)
shorter P Q b b' held held' size size' http.Short less short = less short
shorter P Q b b' held held' size size' http.BadHead less short = tt
shorter P Q b b' held held' size size' http.HeadTooLarge less short = tt
shorter P Q b b' held held' size size' http.BodyTooLarge less short = tt
shorter P Q b b' held held' size size' http.NoLength less short = tt
shorter P Q b b' held held' size size' http.Coding less short = tt
shorter P Q b b' held held' size size' http.ReadFault less short = less short
shorter P Q b b' held held' size size' http.NoMemory less short = tt

pieceless : {A : Type 0} (P : List ℕ → A → Type 0) (b b' held held' : List ℕ) (size : ℕ) (fault : HttpFault)
    → (b ≡ [] → length b' < size) → PieceRead b held (Err fault) → BodyRead size P b' held' (Err fault)
pieceless P b b' held held' size http.Short less none = less none
pieceless P b b' held held' size http.BadHead less none = tt
pieceless P b b' held held' size http.HeadTooLarge less none = tt
pieceless P b b' held held' size http.BodyTooLarge less none = tt
pieceless P b b' held held' size http.NoLength less none = tt
pieceless P b b' held held' size http.Coding less none = tt
pieceless P b b' held held' size http.ReadFault less none = less none
pieceless P b b' held held' size http.NoMemory less none = tt

module _ {R : Type 0} (left given : R → Option (List ℕ)) where
  pub came_none : (w : WireView R) (So : List ℕ → Type 0) → So [] → Draws left given w w (λ b. Came 0 So b w.held)
  came_none w So so = draws_none left given w (λ b. Came 0 So b w.held) (record { body = []; split = refl; size = refl; so = so })

  -- a piece more
  pub came_on : (w0 w w' : WireView R) (count : ℕ) (piece : List ℕ) (So So' : List ℕ → Type 0) → Draws left given w0 w (λ b. Came count So b w.held)
      → Draws left given w w' (λ b. b ≡ piece ++ w'.held) → ((body : List ℕ) → length body ≡ count → So body → So' (body ++ piece))
      → Draws left given w0 w' (λ b. Came (count + length piece) So' b w'.held)
  came_on w0 w w' count piece So So' came is so =
      draws_then left given w0 w w' (λ b. Came count So b w.held) (λ b. b ≡ piece ++ w'.held) (λ b. Came (count + length piece) So' b w'.held) came is (λ b more was now. record {
        body = was.body ++ piece;
        split = ap (λ x. x ++ more) was.split ∙ append_assoc was.body w.held more ∙ ap (λ x. was.body ++ x) now ∙ sym (append_assoc was.body piece w'.held);
        size = length-append was.body piece ∙ ap (λ k. k + length piece) was.size;
        so = so was.body was.size was.so;
      })

  -- no piece more
  pub came_short : {A : Type 0} (P : List ℕ → A → Type 0) (w0 w w' : WireView R) (count size : ℕ) (So : List ℕ → Type 0) (fault : HttpFault) → Draws left given w0 w (λ b. Came count So b w.held)
      → Draws left given w w' (λ b. PieceRead b w'.held (Err fault)) → count < size → ReadsBody left given w0 w' size P (Err fault)
  came_short P w0 w w' count size So fault came is below =
      draws_then left given w0 w w' (λ b. Came count So b w.held) (λ b. PieceRead b w'.held (Err fault)) (λ b. BodyRead size P b w'.held (Err fault)) came is (λ b more was now.
      pieceless P (w.held ++ more) (b ++ more) w'.held w'.held size fault (λ none.
      let all : length (b ++ more) ≡ length was.body + length (w.held ++ more) =
      ap length (ap (λ x. x ++ more) was.split ∙ append_assoc was.body w.held more) ∙ length-append was.body (w.held ++ more) in
      let rest : length (w.held ++ more) ≡ 0 = ap length none in
      let count_is = was.size in omega (arith, all, rest, count_is, below)) now)

-- ---- when the source is read

module _ {R : Type 0} (left given : R → Option (List ℕ)) (looks : R → Look → Type 0) where
  -- one more read began where fewer bytes had come
  pub came_looks : (w0 w w' : WireView R) (passed : Option (List ℕ)) (count size : ℕ) (So : List ℕ → Type 0) → LooksWithin left looks w0 w passed size → Draws left given w0 w (λ b. Came count So b w.held) → count < size
      → Looks left looks w w' (Beside passed (λ b. b ≡ [])) → LooksWithin left looks w0 w' passed size
  came_looks w0 w w' passed count size So first came below then_ =
      let so_many = came.are.size in
      body_looks left looks w0 w w' passed came.are.body size first (record { got = came.got; told = came.told; are = came.are.split }) (omega (arith, so_many, below)) then_

  -- the reads of a message, and those of what follows it
  pub message_looks : (w0 w w' : WireView R) (passed : Option (List ℕ)) (size n : ℕ) (message : List ℕ) → n ≤ size → Looks left looks w0 w (Beside passed (λ b. length b < n))
      → Draws left given w0 w (λ b. BodyRead n (λ body made. made ≡ body) b w.held (Ok message)) → LooksWithin left looks w w' passed (size - n) → LooksWithin left looks w0 w' passed size
  message_looks w0 w w' passed size n message within first reads then_ =
      looks_then left looks w0 w w' (λ b. BodyRead n (λ body made. made ≡ body) b w.held (Ok message)) (Beside passed (λ b. length b < size - n)) (Beside passed (λ b. length b < size))
      (looks_as left looks w0 w (Beside passed (λ b. length b < n)) (Beside passed (λ b. length b < size)) first (λ b passed' was. let below = was.0 in (omega (arith, below, within), was.1))) (draws_reads left given w0 w _ reads) then_ (λ b more passed' was now.
      let all : length (b ++ more) ≡ length was.0 + length (w.held ++ more) = ap length (ap (λ x. x ++ more) was.1 ∙ append_assoc was.0 w.held more) ∙ length-append was.0 (w.held ++ more) in
      let count = was.2 in
      let below = now.0 in
      (omega (arith, all, count, below, within), now.1))

-- what a pack that came was fed to
abbrev pub Fed_ : PackReader → Sha1 → ℕ → List ℕ → Type 0
Fed_ reader hasher most body = Fed reader body × Holds hasher (take most body)

pub fed_none : (reader : PackReader) (hasher : Sha1) (most : ℕ) → Fed reader [] → Holds hasher [] → Fed_ reader hasher most []
fed_none reader hasher most fed holds = (fed, subst (Holds hasher) (sym (take_nothing most)) holds)

-- ---- at the end

faulty : (key : List ℕ) (ask : PayloadAsk) (pack digest : List ℕ) (fault : PackFault) → digest ≡ ask.digest → digest ≡ sha1 (take ask.header_size pack) → reading pack ≡ Err fault
    → (denied reason.BadPack ≡ payload_on key ask pack) × IsGood (denied reason.BadPack)
faulty key ask pack digest fault same is reads =
    (rw (bytes_itself (sha1 (take ask.header_size pack)) ask.digest (sym is ∙ same), reads) refl, refl)

-- a fault of a pack is that of its bytes
read_fault : (read : Result (List Object) PackFault) (fault : PackFault) → Err fault ≡ (read >>= λ os. Ok (pack_of os)) → read ≡ Err fault
read_fault (Ok os) fault is = cc
read_fault (Err other) fault is = cc

known_fault : (pack : List ℕ) (fault : PackFault) → (fault ≡ NoMemory → ⊥) → IsUnless NoMemory (Err fault) (pack_in pack) → reading pack ≡ Err fault
known_fault pack fault known is = elim is [ inl lacking ↦ absurd (known lacking) | inr at ↦ read_fault (reading pack) fault at ]

pub refuses : (key : List ℕ) (ask : PayloadAsk) (pack digest : List ℕ) (fault : PackFault) → digest ≡ ask.digest → digest ≡ sha1 (take ask.header_size pack) → IsUnless NoMemory (Err fault) (pack_in pack)
    → IfOk (refused_pack fault) (λ turn. (turn ≡ payload_on key ask pack) × IsGood turn)
refuses key ask pack digest NoMemory same is reads = tt
refuses key ask pack digest fault same is reads = faulty key ask pack digest fault same is (known_fault pack fault (λ e. cc) reads)

-- what was denied announces nothing
pub announces_none : (says : Turn) (P : Announced → Type 0) (r : Result Announced Denial) (denial : Denial) → IsErrAnd r (λ d. d ≡ denial) → Denies says denial → MatchResult r P (Denies says)
announces_none says P (Ok a) denial h denies = absurd h
announces_none says P (Err d) denial h denies = subst (Denies says) (sym h) denies

module _ {R : Type 0} (left given : R → Option (List ℕ)) where
  -- what was passed over says the refusal
  pub turn_denied : (w w' : WireView R) (size : ℕ) (says : List ℕ → Turn) (refusal : Refusal) (P : List ℕ → Unit {0} → Type 0) (made : Unit {0}) → ReadsBody left given w w' size P (Ok made)
      → ((pack : List ℕ) → Denies (says pack) (Refused refusal)) → ReadsBody left given w w' size (Says says) (Ok (Deny refusal))
  turn_denied w w' size says refusal P made p denies = record {
    got = p.got;
    told = p.told;
    gave = p.gave;
    are = (p.are.0, p.are.1, p.are.2, (sym (denies p.are.0).0, (denies []).1));
  }

  -- where fewer bytes were there, nothing was made
  pub not_passed : {A B : Type 0} (P : List ℕ → A → Type 0) (Q : List ℕ → B → Type 0) (w w' : WireView R) (size size' : ℕ) (fault : HttpFault) → size ≤ size'
      → ReadsBody left given w w' size P (Err fault) → ReadsBody left given w w' size' Q (Err fault)
  not_passed P Q w w' size size' fault within p = record {
    got = p.got;
    told = p.told;
    gave = p.gave;
    are = shorter P Q (w.held ++ p.got) (w.held ++ p.got) w'.held w'.held size size' fault (λ less. omega (arith, less, within)) p.are;
  }

  -- nothing was read
  pub no_memory : {A : Type 0} (P : List ℕ → A → Type 0) (w : WireView R) (size : ℕ) → ReadsBody left given w w size P (Err http.NoMemory)
  no_memory P w size = draws_none left given w (λ b. BodyRead size P b w.held (Err http.NoMemory)) tt

  -- what a pack says is what was announced
  pub turn_announced : (w w' : WireView R) (size : ℕ) (says : List ℕ → Turn) (a : Announced) (r : Result Turn HttpFault) → ReadsBody left given w w' size (Says (payload_on a.key a.ask)) r
      → ((pack : List ℕ) → says pack ≡ payload_on a.key a.ask pack) → ReadsBody left given w w' size (Says says) r
  turn_announced w w' size says a (Ok turn) p same = record {
    got = p.got;
    told = p.told;
    gave = p.gave;
    are = (p.are.0, p.are.1, p.are.2, (p.are.3.0 ∙ sym (same p.are.0), p.are.3.1));
  }
  turn_announced w w' size says a (Err fault) p same = not_passed (Says (payload_on a.key a.ask)) (Says says) w w' size size fault (omega arith) p

-- a message and the pack behind it
take_message : (message pack : List ℕ) (n : ℕ) → length message ≡ n → take n (message ++ pack) ≡ message
take_message message pack n is = ap (λ k. take k (message ++ pack)) (sym is) ∙ take-append_seam message pack

drop_message : (message pack : List ℕ) (n : ℕ) → length message ≡ n → drop n (message ++ pack) ≡ pack
drop_message message pack n is = ap (λ k. drop k (message ++ pack)) (sym is) ∙ drop-append_seam message pack

-- the size of a message is within that of the body
pub message_within : (text : Option (List ℕ)) (size n : ℕ) → message_size text size ≡ Some n → n ≤ size
message_within None size n is = cc
message_within (Some t) size n is = by (decimal_of t) is
  where
    by : (o : Option ℕ) → fitting size o ≡ Some n → n ≤ size
    by None e = cc
    by (Some m) e = grind (arith, nat_tests)

-- what a message and a pack say
says_payload : (keys : List Key) (header text : Option (List ℕ)) (size n : ℕ) (message pack : List ℕ) → message_size text size ≡ Some n → length message ≡ n → length (message ++ pack) ≡ size
    → payload_turn keys header text (message ++ pack) ≡ signed keys header message (payload_by_ask (payload_ask_of message) pack)
says_payload keys header text size n message pack counted is all =
    ap (λ k. payload_from keys header (message_size text k) (message ++ pack)) all
    ∙ ap (λ o. payload_from keys header o (message ++ pack)) counted
    ∙ ap (λ m. signed keys header m (payload_by_ask (payload_ask_of m) (drop n (message ++ pack)))) (take_message message pack n is)
    ∙ ap (λ p. signed keys header message (payload_by_ask (payload_ask_of message) p)) (drop_message message pack n is)

-- a message was read, and then the rest
pub payload_read : {R : Type 0} (left given : R → Option (List ℕ)) (keys : List Key) (header text : Option (List ℕ)) (w0 w w' : WireView R) (size n : ℕ) (message : List ℕ) (r : Result Turn HttpFault)
    → message_size text size ≡ Some n → ReadsBody left given w0 w n (λ body made. made ≡ body) (Ok message)
    → ReadsBody left given w w' (size - n) (Says (λ pack. signed keys header message (payload_by_ask (payload_ask_of message) pack))) r
    → ReadsBody left given w0 w' size (Says (payload_turn keys header text)) r
payload_read left given keys header text w0 w w' size n message (Ok turn) counted first then_ =
    draws_then left given w0 w w' (λ b. BodyRead n (λ body made. made ≡ body) b w.held (Ok message))
    (λ b. BodyRead (size - n) (Says (λ pack. signed keys header message (payload_by_ask (payload_ask_of message) pack))) b w'.held (Ok turn))
    (λ b. BodyRead size (Says (payload_turn keys header text)) b w'.held (Ok turn)) first then_ (λ b more was now.
    let within = message_within text size n counted in
    let is : length message ≡ n = ap length was.3 ∙ was.2 in
    let rest = now.2 in
    let all : length (message ++ now.0) ≡ size = length-append message now.0 ∙ omega (arith, is, rest, within) in (
      message ++ now.0,
      ap (λ x. x ++ more) (was.1 ∙ ap (λ x. x ++ w.held) (sym was.3)) ∙ append_assoc message w.held more ∙ ap (λ x. message ++ x) now.1 ∙ sym (append_assoc message now.0 w'.held),
      all,
      (now.3.0 ∙ sym (says_payload keys header text size n message now.0 counted is all), now.3.1),
    ))
payload_read left given keys header text w0 w w' size n message (Err fault) counted first then_ =
    draws_then left given w0 w w' (λ b. BodyRead n (λ body made. made ≡ body) b w.held (Ok message))
    (λ b. BodyRead (size - n) (Says (λ pack. signed keys header message (payload_by_ask (payload_ask_of message) pack))) b w'.held (Err fault))
    (λ b. BodyRead size (Says (payload_turn keys header text)) b w'.held (Err fault)) first then_ (λ b more was now.
    let within = message_within text size n counted in
    let all : length (b ++ more) ≡ length was.0 + length (w.held ++ more) =
    ap length (ap (λ x. x ++ more) was.1 ∙ append_assoc was.0 w.held more) ∙ length-append was.0 (w.held ++ more) in
    let count = was.2 in
    shorter (Says (λ pack. signed keys header message (payload_by_ask (payload_ask_of message) pack))) (Says (payload_turn keys header text)) (w.held ++ more) (b ++ more) w'.held w'.held (size - n) size fault (λ less. omega (arith, within, all, count, less)) now)
