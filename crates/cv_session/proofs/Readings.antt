-- Reading a request.
use Rattle.std.proofs.Common.{◌≡◌, ◌≢◌, ◌<◌, ◌≤◌, ◌++◌, ℕ, List, length, refl, sym, subst, ◌∙◌, true, false, Ok, Err}
use Rattle.std.specs.Prelude.{Option, Result}
use Rattle.std.specs.declared.option.Option.TheVariants.{Some, None}
use Rattle.cv_ports.specs.Streams.{Look, onto}
use Rattle.cv_ports.proofs.Laws.{onto_none}
use Rattle.cv_http.specs.Faults.{IsBodyFault, IsHeadFault}
use Rattle.cv_http.specs.Heads.{Begins, IsAwaited}
use Rattle.cv_http.specs.Wires.{WireView, Draws, Looks, Beside, HeadRead, BodyRead}
use Rattle.cv_http.specs.declared.head.RequestHead.{RequestHead}
use Rattle.cv_http.specs.declared.fault.HttpFault.{HttpFault}
use Rattle.cv_http.specs.declared.fault.HttpFault.TheVariants.{BadHead, HeadTooLarge, BodyTooLarge, NoLength, Coding, Short, ReadFault, NoMemory}
use Rattle.cv_http.proofs.Lemmas.{begins_on, draws_as, draws_then, draws_reads, looks_as, looks_then}
use Rattle.cv_keys.specs.declared.key.Key.{Key}
use Rattle.cv_session.specs.Payloads.{is_payload, payload_turn}
use Rattle.cv_session.specs.PayloadsInner.{ReadsBody, LooksWithin, Says}
use Rattle.cv_session.specs.Turns.{Wants}
use Rattle.cv_session.specs.TurnsInner.{IsGood}
use Rattle.cv_session.specs.declared.turn.Turn.{Turn}
use Rattle.cv_session.specs.Requests.{head_refused, body_refused, inside_head, inside_body, Reached, before_head, behind_head, awaits_head, awaits_body, WantsAny, body_size, body_limit, waits, line_text}
use Rattle.cv_session.specs.RequestsInner.{Asks}
use Rattle.cv_session.specs.Requests.WantsAny.{payload as payload_wants, other as other_wants}
use Rattle.cv_session.specs.ExchangesInner.{IsWhy, IsAsking, IsAskingBehind, Gets, GetsBehind, whole, ended, fault, unsaid, behind, large, breaks, unsaid_behind}
use Rattle.cv_session.specs.declared.request.Asked.{Asked}
use Rattle.cv_session.specs.declared.request.Unread.{Unread}
use Rattle.cv_session.specs.declared.request.Unread.TheVariants.{Fault}

inside_why : {b later : List ℕ} {head : RequestHead} → Begins b head later → (why : HttpFault) → IsBodyFault why → body_size head ≤ body_limit head → (why ≢ NoMemory → length later < body_size head) → IsWhy b (waits head) why
inside_why {later = later} {head = head} begins Short is limit short = inside_body head later begins limit (short (λ e. cc))
inside_why {later = later} {head = head} begins ReadFault is limit short = awaits_body head later begins limit (short (λ e. cc))
inside_why begins NoMemory is limit short = tt
inside_why begins BadHead is limit short = absurd is
inside_why begins HeadTooLarge is limit short = absurd is
inside_why begins BodyTooLarge is limit short = absurd is
inside_why begins NoLength is limit short = absurd is
inside_why begins Coding is limit short = absurd is

-- the first bytes were a head, and what was read then was read behind it
module _ {repository : List ℕ} {keys : List Key} {b later : List ℕ} {head : RequestHead} (begins : Begins b head later) {held : List ℕ} {taken taken' : Option (List ℕ)} where
  pub gets_asked : {asked : Asked} → GetsBehind repository keys head later held taken taken' (Ok asked) → Gets repository keys b held taken taken' (Ok (Some asked))
  gets_asked (behind asked body limit split size asks last took) =
      whole (record { head = head; body = body }) asked (record { begins = subst (λ (l : List ℕ). Begins b head l) split begins; size = size; limit = limit }) asks.0 last took

  pub gets_unread : {why : Unread} → GetsBehind repository keys head later held taken taken' (Err why) → Gets repository keys b held taken taken' (Err why)
  gets_unread (large is same) = fault BodyTooLarge false before_head (body_refused head later begins is, refl) (same ∙ onto_none taken)
  gets_unread (breaks why limit is short took) = fault why (waits head) (behind_head head later begins limit) (inside_why begins why is limit short) took
  gets_unread (unsaid_behind limit waits_is took) = unsaid (subst (Reached b) waits_is (behind_head head later begins limit)) took

-- no head was read
module _ {repository : List ℕ} {keys : List Key} {b held : List ℕ} {taken : Option (List ℕ)} where
  pub head_fault : (why : HttpFault) → IsHeadFault why → HeadRead b held (Err why) → Gets repository keys b held taken taken (Err (Fault why))
  head_fault Short is read = fault Short false before_head (inside_head read.0) (onto_none taken)
  head_fault ReadFault is read = fault ReadFault false before_head (awaits_head read.0) (onto_none taken)
  head_fault NoMemory is read = fault NoMemory false before_head tt (onto_none taken)
  head_fault BadHead is read = fault BadHead false before_head (head_refused BadHead read.0, refl) (onto_none taken)
  head_fault HeadTooLarge is read = fault HeadTooLarge false before_head (head_refused HeadTooLarge read.0, refl) (onto_none taken)
  head_fault BodyTooLarge is read = absurd is
  head_fault NoLength is read = fault NoLength false before_head (head_refused NoLength read.0, refl) (onto_none taken)
  head_fault Coding is read = fault Coding false before_head (head_refused Coding read.0, refl) (onto_none taken)

-- a fault says the same whatever was to be made
same_fault : {A B : Type 0} (P : List ℕ → A → Type 0) (Q : List ℕ → B → Type 0) (b held : List ℕ) (size : ℕ) (why : HttpFault) → BodyRead size P b held (Err why) → BodyRead size Q b held (Err why)
same_fault P Q b held size Short read = read
same_fault P Q b held size BadHead read = tt
same_fault P Q b held size HeadTooLarge read = tt
same_fault P Q b held size BodyTooLarge read = tt
same_fault P Q b held size NoLength read = tt
same_fault P Q b held size Coding read = tt
same_fault P Q b held size ReadFault read = read
same_fault P Q b held size NoMemory read = tt

-- where no memory was wanted, fewer bytes were there
short_body : {A : Type 0} (P : List ℕ → A → Type 0) (b held : List ℕ) (size : ℕ) (why : HttpFault) → IsBodyFault why → BodyRead size P b held (Err why) → why ≢ NoMemory → length b < size
short_body P b held size Short is read some = read
short_body P b held size BadHead is read some = absurd is
short_body P b held size HeadTooLarge is read some = absurd is
short_body P b held size BodyTooLarge is read some = absurd is
short_body P b held size NoLength is read some = absurd is
short_body P b held size Coding is read some = absurd is
short_body P b held size ReadFault is read some = read
short_body P b held size NoMemory is read some = absurd (some refl)

module _ {R : Type 0} (left given : R → Option (List ℕ)) (repository : List ℕ) (keys : List Key) where
  -- the turn of a body
  pub turn_of_payload : (w w' : WireView R) (head : RequestHead) (r : Result Turn HttpFault) → is_payload head ≡ true
      → ReadsBody left given w w' (body_size head) (Says (payload_turn keys head.authorization head.message_size)) r → ReadsBody left given w w' (body_size head) (Asks repository keys head) r
  turn_of_payload w w' head (Ok turn) is read = draws_as left given w w' _ _ read (λ b said. (
    said.0,
    said.1,
    said.2,
    (subst (WantsAny repository keys head said.0) (sym said.3.0) (payload_wants is), said.3.1),
  ))
  turn_of_payload w w' head (Err why) is read = draws_as left given w w' _ _ read (λ b. same_fault (Says (payload_turn keys head.authorization head.message_size)) (Asks repository keys head) b w'.held (body_size head) why)

  pub turn_of_other : (w w' : WireView R) (head : RequestHead) (body : List ℕ) (turn : Turn) → is_payload head ≡ false
      → Draws left given w w' (λ b. BodyRead (body_size head) (λ text made. made ≡ text) b w'.held (Ok body)) → Wants repository keys head body turn → IsGood turn
      → ReadsBody left given w w' (body_size head) (Asks repository keys head) (Ok turn)
  turn_of_other w w' head body turn is read wants good = draws_as left given w w' _ _ read (λ b said. (
    said.0,
    said.1,
    said.2,
    (other_wants turn is (subst (λ (x : List ℕ). Wants repository keys head x turn) said.3 wants), good),
  ))

  -- what was read behind a head
  pub behind_whole : (w w' : WireView R) (taken taken' : Option (List ℕ)) (head : RequestHead) (turn : Turn) → body_size head ≤ body_limit head → ReadsBody left given w w' (body_size head) (Asks repository keys head) (Ok turn)
      → taken' ≡ onto taken (line_text (waits head)) → Draws left given w w' (λ b. GetsBehind repository keys head b w'.held taken taken' (Ok (record { turn = turn; last = head.last })))
  behind_whole w w' taken taken' head turn limit read took = draws_as left given w w' _ _ read (λ b said. behind (record { turn = turn; last = head.last }) said.0 limit said.1 said.2 said.3 refl took)

  pub behind_fault : (w w' : WireView R) (taken taken' : Option (List ℕ)) (head : RequestHead) (why : HttpFault) → body_size head ≤ body_limit head → IsBodyFault why → ReadsBody left given w w' (body_size head) (Asks repository keys head) (Err why)
      → taken' ≡ onto taken (line_text (waits head)) → Draws left given w w' (λ b. GetsBehind repository keys head b w'.held taken taken' (Err (Fault why)))
  behind_fault w w' taken taken' head why limit is read took = draws_as left given w w' _ _ read (λ b said. breaks why limit is (short_body (Asks repository keys head) b w'.held (body_size head) why is said) took)

  -- a head was read, and then what follows it
  pub read_whole : (w0 w w' : WireView R) (taken taken' : Option (List ℕ)) (head : RequestHead) (asked : Asked) → Draws left given w0 w (λ b. HeadRead b w.held (Ok (Some head)))
      → Draws left given w w' (λ b. GetsBehind repository keys head b w'.held taken taken' (Ok asked)) → Draws left given w0 w' (λ b. Gets repository keys b w'.held taken taken' (Ok (Some asked)))
  read_whole w0 w w' taken taken' head asked first then_ = draws_then left given w0 w w' _ _ _ first then_ (λ b more begins gets. gets_asked (begins_on more begins) gets)

  pub read_unread : (w0 w w' : WireView R) (taken taken' : Option (List ℕ)) (head : RequestHead) (why : Unread) → Draws left given w0 w (λ b. HeadRead b w.held (Ok (Some head)))
      → Draws left given w w' (λ b. GetsBehind repository keys head b w'.held taken taken' (Err why)) → Draws left given w0 w' (λ b. Gets repository keys b w'.held taken taken' (Err why))
  read_unread w0 w w' taken taken' head why first then_ = draws_then left given w0 w w' _ _ _ first then_ (λ b more begins gets. gets_unread (begins_on more begins) gets)

  pub read_fault : (w w' : WireView R) (taken : Option (List ℕ)) (why : HttpFault) → IsHeadFault why → Draws left given w w' (λ b. HeadRead b w'.held (Err why)) → Draws left given w w' (λ b. Gets repository keys b w'.held taken taken (Err (Fault why)))
  read_fault w w' taken why is read = draws_as left given w w' _ _ read (λ b said. head_fault why is said)

  pub read_end : (w w' : WireView R) (taken : Option (List ℕ)) → Draws left given w w' (λ b. HeadRead b w'.held (Ok None)) → Draws left given w w' (λ b. Gets repository keys b w'.held taken taken (Ok None))
  read_end w w' taken read = draws_as left given w w' _ _ read (λ b said. ended said.0 said.1 refl)

-- ---- when the source is read

module _ {R : Type 0} (left : R → Option (List ℕ)) (looks : R → Look → Type 0) where
  -- for a head
  pub asks_head : (w w' : WireView R) (taken passed : Option (List ℕ)) → passed ≡ taken → Looks left looks w w' (Beside passed IsAwaited) → Looks left looks w w' (IsAsking taken)
  asks_head w w' taken passed was first =
      looks_as left looks w w' (Beside passed IsAwaited) (IsAsking taken) first (λ b passed' is. record { line = false; awaits = awaits_head is.0; said = is.1 ∙ was ∙ onto_none taken })

  -- for a body, where the line was said
  pub asks_body : (w w' : WireView R) (head : RequestHead) (taken passed : Option (List ℕ)) → body_size head ≤ body_limit head → passed ≡ onto taken (line_text (waits head))
      → LooksWithin left looks w w' passed (body_size head) → Looks left looks w w' (IsAskingBehind head taken)
  asks_body w w' head taken passed limit said first =
      looks_as left looks w w' (Beside passed (λ b. length b < body_size head)) (IsAskingBehind head taken) first (λ b passed' is. record { limit = limit; short = is.0; said = is.1 ∙ said })

  -- for a head, and then for what follows it
  pub asks_behind : (given : R → Option (List ℕ)) (w0 w w' : WireView R) (taken : Option (List ℕ)) (head : RequestHead) → Looks left looks w0 w (IsAsking taken) → Draws left given w0 w (λ b. HeadRead b w.held (Ok (Some head)))
      → Looks left looks w w' (IsAskingBehind head taken) → Looks left looks w0 w' (IsAsking taken)
  asks_behind given w0 w w' taken head first reads then_ =
      looks_then left looks w0 w w' (λ b. HeadRead b w.held (Ok (Some head))) (IsAskingBehind head taken) (IsAsking taken) first (draws_reads left given w0 w _ reads) then_ (λ b more passed' begins is. record {
        line = waits head;
        awaits = awaits_body head (w.held ++ more) (begins_on more begins) is.limit is.short;
        said = is.said;
      })
