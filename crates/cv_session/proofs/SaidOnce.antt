-- What was written fixes the answers.
use Rattle.std.proofs.Common.{◌≡◌, ◌++◌, ◌∷◌, ℕ, List, [], length, map, take, drop, refl, ap, sym, subst, ◌∙◌, append_assoc, append-nil, Ok, arith}
use Rattle.std.specs.Prelude.{Bool, Result}
use Rattle.std.specs.declared.option.Option.TheVariants.{Some}
use Rattle.std.specs.List.{AllByRecursion}
use Rattle.std.proofs.lemmas.List.{append_cancel_left, take-append-drop, take_all, length-map}
use Rattle.serde_json.specs.Written.{compact_text}
use Rattle.cv_http.specs.Replies.{reply}
use Rattle.cv_http.specs.declared.body_kind.BodyKind.{BodyKind}
use Rattle.cv_http.specs.declared.body_kind.BodyKind.TheVariants.{Json, Octets, Text}
use Rattle.cv_http.specs.declared.code.Code.{Code}
use Rattle.cv_http.specs.declared.code.Code.TheVariants.{Success, NotFound, ServerError}
use Rattle.cv_keys.specs.declared.key.Key.{Key}
use Rattle.cv_messages.specs.declared.message_fault.MessageFault.{MessageFault}
use Rattle.cv_answers.specs.Answer.{answer_data}
use Rattle.cv_answers.specs.AnswerText.{answer_of as answer_in_text}
use Rattle.cv_answers.specs.declared.answer.Answer.{Answer as MessageData}
use Rattle.cv_gate.specs.Desk.{Call}
use Rattle.cv_gate.specs.Heads.{IsFront}
use Rattle.cv_session.specs.Asking.{Turned}
use Rattle.cv_session.specs.Answers.{answer_of, leases_answer}
use Rattle.cv_session.specs.Requests.{line_text}
use Rattle.cv_session.specs.Responses.{Answers, reply_of, newest, object, absent, failed, repositories, leases, step, denied, refused}
use Rattle.cv_session.specs.Said.{body_of, said, ReadsBack, IsLegible}
use Rattle.cv_session.specs.Sessions.{Exchange, turns, is_last, sayings, IsWritten, IsAnswered}
use Rattle.cv_session.specs.declared.response.Response.{Response}
use Rattle.cv_session.specs.declared.response.Response.TheVariants.{Content, Fixed, Message, Reply}
use Rattle.cv_session.specs.declared.turn.Turn.{Turn}
use Rattle.cv_session.proofs.ReplyTexts.{one_text}

-- ---- one reply

-- the code of the reply with an answer
abbrev code_of : Response → Code
code_of (Fixed code) = code
code_of other = Success

reply_parts : (a : Response) (last : Bool) → (k : BodyKind) × (reply_of a last ≡ reply (code_of a) k last (body_of a))
reply_parts (Content bytes) last = (Octets, refl)
reply_parts (Fixed code) last = (Text, refl)
reply_parts (Message message) last = (Json, refl)
reply_parts (Reply replied) last = (Json, refl)

one_reply : (a a' : Response) (last last' : Bool) (rest rest' : List ℕ) → IsLegible a → IsLegible a' → reply_of a last ++ rest ≡ reply_of a' last' ++ rest'
    → (code_of a ≡ code_of a') × (body_of a ≡ body_of a') × (rest ≡ rest')
one_reply a a' last last' rest rest' is is' same =
    let parts = reply_parts a last in
    let parts' = reply_parts a' last' in
    one_text (code_of a) (code_of a') parts.0 parts'.0 last last' (body_of a) (body_of a') rest rest' is.size is'.size
    (ap (λ l. l ++ rest) (sym parts.1) ∙ same ∙ ap (λ l. l ++ rest') parts'.1)

one_message : (m m' : MessageData) → ReadsBack m → ReadsBack m' → compact_text (answer_data m) ≡ compact_text (answer_data m') → m ≡ m'
one_message m m' back back' same =
    let made : MessageData → Result MessageData MessageFault = λ x. Ok x in
    let both : made m ≡ made m' = sym back ∙ ap answer_in_text same ∙ back' in cc

-- ---- the answers to one turn

module _ (repository : List ℕ) (seal : List ℕ → List ℕ) where
  one_answer : (turn : Turn) (calls calls' : List Call) (a a' : Response) → Answers repository seal turn calls (Some a) → Answers repository seal turn calls' (Some a')
      → IsLegible a → IsLegible a' → code_of a ≡ code_of a' → body_of a ≡ body_of a' → said a ≡ said a'
  one_answer _ _ _ _ _ (newest head) (newest head') is is' code body = ap Content body
  one_answer _ _ _ _ _ (object id bytes hash) (object _ bytes' hash') is is' code body = ap Content body
  one_answer _ _ _ _ _ (object id bytes hash) (absent _) is is' code body = let both : Success ≡ NotFound = code in cc
  one_answer _ _ _ _ _ (object id bytes hash) (failed _ fault other suits) is is' code body = let both : Success ≡ ServerError = code in cc
  one_answer _ _ _ _ _ (absent id) (object _ bytes hash) is is' code body = let both : NotFound ≡ Success = code in cc
  one_answer _ _ _ _ _ (absent id) (absent _) is is' code body = refl
  one_answer _ _ _ _ _ (absent id) (failed _ fault other suits) is is' code body = let both : NotFound ≡ ServerError = code in cc
  one_answer _ _ _ _ _ (failed id fault other suits) (object _ bytes hash) is is' code body = let both : ServerError ≡ Success = code in cc
  one_answer _ _ _ _ _ (failed id fault other suits) (absent _) is is' code body = let both : ServerError ≡ NotFound = code in cc
  one_answer _ _ _ _ _ (failed id fault other suits) (failed _ fault' other' suits') is is' code body = refl
  one_answer _ _ _ _ _ repositories repositories is is' code body = refl
  one_answer _ _ _ _ _ (leases now lines) (leases now' lines') is is' code body =
      ap Message (one_message (leases_answer repository lines) (leases_answer repository lines') is.read is'.read body)
  one_answer _ _ _ _ _ (step o now r) (step _ now' r') is is' code body = ap Message (one_message (answer_of r) (answer_of r') is.read is'.read body)
  one_answer _ _ _ _ _ (denied refusal) (denied _) is is' code body = refl
  one_answer _ _ _ _ _ (refused why) (refused _) is is' code body = refl

  -- ---- all of them

  -- the answers of exchanges begin those of others, where their turns do and what was taken begins with what is said in either
  said_first : (keys : List Key) (es es' : List Exchange) (more more' : List ℕ) → IsFront (turns es) (turns es') → AllByRecursion (IsAnswered repository keys seal) es → AllByRecursion (IsAnswered repository keys seal) es'
      → AllByRecursion IsWritten es → AllByRecursion IsWritten es' → sayings es ++ more ≡ sayings es' ++ more' → map (λ e. said e.answer) es ≡ take (length es) (map (λ e. said e.answer) es')
  said_first keys [] es' more more' front are are' is is' same = refl
  said_first keys (e ∷ es) [] more more' front are are' is is' same = let none : [] ≡ e.asked ∷ (turns es ++ front.more) = front.split in cc
  said_first keys (e ∷ es) (e' ∷ es') more more' front are are' is is' same =
      let both_turns : e'.asked ∷ turns es' ≡ e.asked ∷ (turns es ++ front.more) = front.split in
      let turn : e.asked ≡ e'.asked = cc in
      let later : turns es' ≡ turns es ++ front.more = cc in
      let reply_ : List ℕ = reply_of e.answer (is_last e) ++ (sayings es ++ more) in
      let reply' : List ℕ = reply_of e'.answer (is_last e') ++ (sayings es' ++ more') in
      let both : line_text e.asked.waited ++ reply_ ≡ line_text e.asked.waited ++ reply' =
      sym (said_on (line_text e.asked.waited) (reply_of e.answer (is_last e)) (sayings es) more) ∙ same
      ∙ said_on (line_text e'.asked.waited) (reply_of e'.answer (is_last e')) (sayings es') more' ∙ ap (λ (t : Turned). line_text t.waited ++ reply') (sym turn) in
      let parts = one_reply e.answer e'.answer (is_last e) (is_last e') (sayings es ++ more) (sayings es' ++ more') is.0 is'.0 (append_cancel_left (line_text e.asked.waited) reply_ reply' both) in
      let first : said e.answer ≡ said e'.answer =
      one_answer e.asked.what e.calls e'.calls e.answer e'.answer are.0 (subst (λ (t : Turned). Answers repository seal t.what e'.calls (Some e'.answer)) (sym turn) are'.0) is.0 is'.0 parts.0 parts.1 in
      let rest = said_first keys es es' more more' (record { more = front.more; split = later }) are.1 are'.1 is.1 is'.1 parts.2 in
      rw (first, rest) refl
    where
      said_on : (line reply_ later more : List ℕ) → ((line ++ reply_) ++ later) ++ more ≡ line ++ (reply_ ++ (later ++ more))
      said_on line reply_ later more = append_assoc (line ++ reply_) later more ∙ append_assoc line reply_ (later ++ more)

  pub one_saying : (keys : List Key) (es es' : List Exchange) (more more' : List ℕ) → IsFront (turns es) (turns es') → AllByRecursion (IsAnswered repository keys seal) es → AllByRecursion (IsAnswered repository keys seal) es'
      → AllByRecursion IsWritten es → AllByRecursion IsWritten es' → sayings es ++ more ≡ sayings es' ++ more' → IsFront (map (λ e. said e.answer) es) (map (λ e. said e.answer) es')
  one_saying keys es es' more more' front are are' is is' same =
      let all : List Response = map (λ e. said e.answer) es' in
      record {
        more = drop (length es) all;
        split = sym (take-append-drop (length es) all) ∙ ap (λ l. l ++ drop (length es) all) (sym (said_first keys es es' more more' front are are' is is' same));
      }

  pub same_saying : (keys : List Key) (es es' : List Exchange) (more more' : List ℕ) → turns es ≡ turns es' → AllByRecursion (IsAnswered repository keys seal) es → AllByRecursion (IsAnswered repository keys seal) es'
      → AllByRecursion IsWritten es → AllByRecursion IsWritten es' → sayings es ++ more ≡ sayings es' ++ more' → map (λ e. said e.answer) es ≡ map (λ e. said e.answer) es'
  same_saying keys es es' more more' asked are are' is is' same =
      let all : List Response = map (λ e. said e.answer) es' in
      let size : length es ≡ length all = sym (length-map es (λ e. e.asked)) ∙ ap length asked ∙ length-map es' (λ e. e.asked) ∙ sym (length-map es' (λ e. said e.answer)) in
      let front : IsFront (turns es) (turns es') = record { more = []; split = sym asked ∙ sym (append-nil (turns es)) } in
      said_first keys es es' more more' front are are' is is' same ∙ ap (λ n. take n all) size ∙ take_all (length all) all (omega arith)

-- no reply is a proper front of another
pub no_reply_begins_another : (a a' : Response) (last last' : Bool) (more : List ℕ) → IsLegible a → IsLegible a' → reply_of a' last' ≡ reply_of a last ++ more → more ≡ []
no_reply_begins_another a a' last last' more is is' same = (one_reply a a' last last' more [] is is' (sym same ∙ sym (append-nil (reply_of a' last')))).2
