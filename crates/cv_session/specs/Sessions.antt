-- What is said to a connection.
use Rattle.std.specs.Prelude.{◌≡◌, ◌+◌, ◌++◌, ◌∷◌, ◌||◌, ℕ, List, [], length, map, Bool, true, false, Option}
use Rattle.std.specs.declared.option.Option.TheVariants.{Some, None}
use Rattle.std.specs.List.{flat_map, AllByRecursion}
use Rattle.cv_ports.specs.Streams.{Look, onto, Wrote}
use Rattle.cv_http.specs.Replies.{continue_line}
use Rattle.cv_http.specs.Wires.{WireView, Looks}
use Rattle.cv_http.specs.declared.fault.HttpFault.{HttpFault}
use Rattle.cv_http.specs.declared.code.Code.{Code}
use Rattle.cv_keys.specs.declared.key.Key.{Key}
use Rattle.cv_gate.specs.Desk.{Call}
use Rattle.cv_session.specs.Asking.{Turned, refusing, IsNext, Opens, IsAsked}
use Rattle.cv_session.specs.Exchanges.{is_full}
use Rattle.cv_session.specs.Requests.{IsBad, Reached, Awaits, line_text, code_of_fault}
use Rattle.cv_session.specs.Responses.{Answers, reply_of}
use Rattle.cv_session.specs.Said.{IsLegible}
use Rattle.cv_session.specs.Standing.{Standing, Made}
use Rattle.cv_session.specs.declared.response.Response.{Response}
use Rattle.cv_session.specs.declared.session_end.SessionEnd.{SessionEnd}
use Rattle.cv_session.specs.declared.session_end.SessionEnd.TheVariants.{Clean, Closed, Bad, ReadFault, WriteFault, JournalFull, NoMemory}

-- what was asked, what the desk was asked for it and answered, and the answer
pub record Exchange : Type 0 where
  pub asked : Turned
  pub calls : List Call
  pub answer : Response

abbrev pub turns : List Exchange → List Turned
turns = map (λ e. e.asked)

abbrev pub calls_of : List Exchange → List Call
calls_of = flat_map (λ e. e.calls)

-- the reply closes the connection: the bytes end the session with it, or the gate's journal is full
abbrev pub is_last : Exchange → Bool
is_last e = is_full e.answer || e.asked.last

-- what is said in an exchange: the line that asks for the body, where it is waited for, and the reply
abbrev pub saying : Exchange → List ℕ
saying e = line_text e.asked.waited ++ reply_of e.answer (is_last e)

abbrev pub sayings : List Exchange → List ℕ
sayings = flat_map saying

-- the answer is one as the program writes it
abbrev pub IsWritten : Exchange → Type 0
IsWritten e = IsLegible e.answer

-- of what was said the sink passed on this by flushes, and no more, if all that it had taken was passed on at first
abbrev pub PassedOn : (taken passed passed' : Option (List ℕ)) → List ℕ → Type 0
PassedOn taken passed passed' said = passed ≡ taken → passed' ≡ onto taken said

module _ (repository : List ℕ) (keys : List Key) (seal : List ℕ → List ℕ) where
  -- the answer is one to what was asked, by what the desk answered
  abbrev pub IsAnswered : Exchange → Type 0
  IsAnswered e = Answers repository seal e.asked.what e.calls (Some e.answer)

  -- behind so many requests this turn comes next, and behind a request these bytes
  pub data Comes (count : ℕ) (rest : List ℕ) (t : Turned) (later : List ℕ) : Type 0 where
    request : IsNext repository keys (count + 1) rest t later → Comes count rest t later
    fault : (why : HttpFault) (code : Code) → IsBad rest why → code_of_fault why ≡ Some code → t ≡ refusing code → Comes count rest t later

  module _ (b : List ℕ) where
    -- b begins by asking for these exchanges, none of which ended the session, and then this is left
    pub record Opened (es : List Exchange) (rest : List ℕ) : Type 0 where
      pub opens : Opens repository keys 0 b (turns es) rest
      pub open_ : AllByRecursion (λ e. is_full e.answer ≡ false) es

    -- b begins by asking for the first of these exchanges, and then for the last, and then come these bytes
    pub record IsLast (es : List Exchange) (later : List ℕ) : Type 0 where
      pub first : List Exchange
      pub last_ : Exchange
      pub split : es ≡ first ++ last_ ∷ []
      pub rest : List ℕ
      pub opened : Opened first rest
      pub next : IsNext repository keys (length first + 1) rest last_.asked later

    -- what is still held where the session ended by the bytes: nothing at the end of the input, and what follows the last request;
    -- of the other ends nothing is said
    abbrev pub Holds : List Exchange → List ℕ → SessionEnd → Type 0
    Holds es held Clean = held ≡ []
    Holds es held Closed = IsLast es held
    Holds es held (Bad why) = Unit {0}
    Holds es held ReadFault = Unit {0}
    Holds es held WriteFault = Unit {0}
    Holds es held JournalFull = Unit {0}
    Holds es held NoMemory = Unit {0}

    -- how a session ended over the bytes read, of which these are still held: what was said whole in these exchanges, what the desk
    -- was asked besides, and what the sink took; the sink passed on what is so
    pub data Ended (Passed : List ℕ → Type 0) (held : List ℕ) (taken : Option (List ℕ)) (es : List Exchange) : List Call → Option (List ℕ) → SessionEnd → Type 0 where
      -- by the bytes
      by_bytes : (line : Bool) (end : SessionEnd) (taken' : Option (List ℕ)) → IsAsked repository keys b (turns es) line end → Holds es held end → AllByRecursion (λ e. is_full e.answer ≡ false) es
          → taken' ≡ onto taken (sayings es ++ line_text line) → Ended Passed held taken es [] taken' end
      -- by the last reply, that the journal is full
      full : (last : IsLast es held) (taken' : Option (List ℕ)) → is_full last.last_.answer ≡ true → taken' ≡ onto taken (sayings es) → Ended Passed held taken es [] taken' JournalFull
      -- the source failed where more bytes were waited for: all that was whole was answered, and nothing then
      unread : (rest : List ℕ) (line : Bool) (taken' : Option (List ℕ)) → Opened es rest → Awaits rest line → taken' ≡ onto taken (sayings es ++ line_text line) → Ended Passed held taken es [] taken' ReadFault
      -- the sink failed when all before this reply had been said and passed on, the line that asks for the body too, and nothing of the
      -- reply, which is one as the program writes it: it took a front of that, and no later turn was taken
      broken : (e : Exchange) (rest : List ℕ) (taken' : Option (List ℕ)) → Opened es rest → Comes (length es) rest e.asked held → IsAnswered e → IsWritten e
          → Wrote (onto taken (sayings es ++ line_text e.asked.waited)) taken' (reply_of e.answer (is_last e))
          → Passed (sayings es ++ line_text e.asked.waited) → Ended Passed held taken es e.calls taken' WriteFault
      -- the sink failed when all before the line that asks for a body had been said and passed on, and nothing of the line: it took a front
      -- of that, and the desk was asked for nothing more
      broken_line : (rest : List ℕ) (taken' : Option (List ℕ)) → Opened es rest → Reached rest true → Wrote (onto taken (sayings es)) taken' continue_line → Passed (sayings es)
          → Ended Passed held taken es [] taken' WriteFault
      -- memory was wanted where a request was read
      forgotten : (rest : List ℕ) (line : Bool) (taken' : Option (List ℕ)) → Opened es rest → Reached rest line → taken' ≡ onto taken (sayings es ++ line_text line) → Ended Passed held taken es [] taken' NoMemory
      -- memory was wanted for an answer or its reply
      silent : (t : Turned) (calls : List Call) (rest : List ℕ) (taken' : Option (List ℕ)) → Opened es rest → IsNext repository keys (length es + 1) rest t held → Answers repository seal t.what calls None
          → taken' ≡ onto taken (sayings es ++ line_text t.waited) → Ended Passed held taken es calls taken' NoMemory

  -- the bytes b are whole requests of the first exchanges and no whole one more, and all that was said for them was passed on
  pub record IsUpToDate (taken : Option (List ℕ)) (es : List Exchange) (b : List ℕ) (passed : Option (List ℕ)) : Type 0 where
    pub first : List Exchange
    pub later : List Exchange
    pub split : es ≡ first ++ later
    pub rest : List ℕ
    pub line : Bool
    pub opened : Opened b first rest
    pub awaits : Awaits rest line
    pub said : passed ≡ onto taken (sayings first ++ line_text line)

  -- each read of the source began so, if all that the sink had taken was passed on at first
  abbrev pub ReadsUpToDate : {R : Type 0} → (R → Option (List ℕ)) → (R → Look → Type 0) → WireView R → WireView R → Option (List ℕ) → Option (List ℕ) → List Exchange → Type 0
  ReadsUpToDate left looks wire wire' taken passed es = passed ≡ taken → Looks left looks wire wire' (IsUpToDate taken es)

-- A session over the bytes b that were read, of which these are still held: what they ask was said, with the answers of the desk,
-- the reads of the source fit the exchanges, and what the sink passed on is so.
pub record Session {K : Type 0} (does : K → List Call → K → Type 0) (repository : List ℕ) (keys : List Key) (seal : List ℕ → List ℕ) (Fit : List Exchange → Type 0) (Passed : List ℕ → Type 0) (b held : List ℕ) (taken taken' : Option (List ℕ))
    (before after : Standing K) (end : SessionEnd) : Type 0 where
  pub exchanges : List Exchange
  pub answered : AllByRecursion (IsAnswered repository keys seal) exchanges
  pub legible : AllByRecursion IsWritten exchanges
  pub others : List Call
  pub ended : Ended repository keys seal b Passed held taken exchanges others taken' end
  pub made : Made does before (calls_of exchanges ++ others) after
  pub reads : Fit exchanges
