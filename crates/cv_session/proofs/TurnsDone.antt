-- What comes of a turn.
use Rattle.std.proofs.Common.{◌≡◌, ◌≢◌, ◌≤◌, ◌∷◌, ℕ, List, [], refl, sym, subst, arith, Ok, Err}
use Rattle.std.specs.Prelude.{Option, Result, IfOk}
use Rattle.std.specs.Result.{result_ok}
use Rattle.cv_base.specs.declared.memory.NoMemory.{NoMemory as NoMemoryFault}
use Rattle.cv_session.specs.Answers.{repositories_answer}
use Rattle.std.specs.declared.option.Option.TheVariants.{Some, None}
use Rattle.cv_base.specs.Counts.{HasCause, Rose}
use Rattle.cv_base.specs.declared.id.ObjectId.{ObjectId}
use Rattle.cv_ports.specs.declared.shelf.ShelfFault.{ShelfFault}
use Rattle.cv_ports.specs.declared.shelf.ShelfFault.TheVariants.{Failed, Damaged, NoMemory}
use Rattle.cv_manifest.specs.declared.head.Head.{Head}
use Rattle.cv_gate.specs.declared.lease_line.LeaseLine.{LeaseLine}
use Rattle.cv_gate.specs.declared.op.Op.{Op}
use Rattle.cv_gate.specs.declared.reply.Reply.{Reply}
use Rattle.cv_gate.specs.declared.reply.Reply.TheVariants as reply
use Rattle.cv_gate.specs.Desk.{Call, asked, listed, fetched, told, fault_in_reply, fault_in_fetch}
use Rattle.cv_session.specs.declared.turn.Turn.{Turn}
use Rattle.cv_ports.specs.Shelf.{Suits}
use Rattle.cv_http.specs.declared.code.Code.TheVariants.{NotFound, ServerError}
use Rattle.cv_session.specs.declared.target.Resource.TheVariants.{Object}
use Rattle.cv_session.specs.declared.turn.Turn.TheVariants.{Serve, Repositories}
use Rattle.cv_session.specs.Responses.{Answers, object, absent, failed, unfetched, repositories, unsaid}
use Rattle.cv_session.specs.ResponsesInner.{Does}
use Rattle.cv_session.specs.declared.response.Response.TheVariants.{Content, Fixed, Message}
use Rattle.cv_session.specs.Standing.{Standing, standing, Gives}
use Rattle.cv_session.specs.declared.response.Response.{Response}
use Rattle.cv_session.proofs.Mades.{HasNone, made_none}

fetch_rose : {f f' : ℕ} (r : Result (Option (List ℕ)) ShelfFault) → HasCause f f' (r ≡ Err Failed) → Rose (fault_in_fetch r) f f'
fetch_rose (Ok found) cause = let later = cause.later in omega (arith, later)
fetch_rose (Err Failed) cause = cause.failed refl
fetch_rose (Err (Damaged id found)) cause = let later = cause.later in omega (arith, later)
fetch_rose (Err NoMemory) cause = let later = cause.later in omega (arith, later)

reply_rose : {f f' : ℕ} (r : Reply) → HasCause f f' (r ≡ reply.StoreFailed) → Rose (fault_in_reply r) f f'
reply_rose reply.StoreFailed cause = cause.failed refl
reply_rose _ cause = let later = cause.later in omega (arith, later)

module _ {K : Type 0} {does : K → List Call → K → Type 0} {repository : List ℕ} {seal : List ℕ → List ℕ} where
  -- the desk isn't called
  pub at_rest : {turn : Turn} {answer : Option Response} → HasNone does → (s : Standing K) → Answers repository seal turn [] answer → Does does repository seal turn answer s s
  at_rest none s answers = record { calls = []; answers = answers; made = made_none does none s }

  pub by_repositories : HasNone does → (r : Result Response NoMemoryFault) (s : Standing K) → IfOk r (λ a. a ≡ Message (repositories_answer repository)) → Does does repository seal Repositories (result_ok r) s s
  by_repositories none (Ok answer) s is = rw is (at_rest none s repositories)
  by_repositories none (Err fault) s is = at_rest none s (unsaid _ repositories)

  module _ {A B : K} {f f' : ℕ} where
    pub at_newest : {turn : Turn} {answer : Option Response} {moments : Option (ℕ → ℕ)} (head : Head) → does A (told head ∷ []) B → f ≤ f'
        → Answers repository seal turn (told head ∷ []) answer → Does does repository seal turn answer (standing A moments f) (standing B moments f')
    at_newest head leads later answers = record { calls = told head ∷ []; answers = answers; made = record { does_ = leads; clock = refl; rose = omega (arith, later) } }

    pub at_fetch : {turn : Turn} {answer : Option Response} {moments : Option (ℕ → ℕ)} (id : ObjectId) (r : Result (Option (List ℕ)) ShelfFault)
        → does A (fetched id r ∷ []) B → HasCause f f' (r ≡ Err Failed)
        → Answers repository seal turn (fetched id r ∷ []) answer → Does does repository seal turn answer (standing A moments f) (standing B moments f')
    at_fetch id r leads cause answers = record {
      calls = fetched id r ∷ [];
      answers = answers;
      made = record { does_ = leads; clock = refl; rose = let rose = fetch_rose r cause in omega (arith, rose) };
    }

    pub at_list : {turn : Turn} {answer : Option Response} {clock later : Option (ℕ → ℕ)} (now : ℕ) (lines : Option (List LeaseLine))
        → does A (listed now lines ∷ []) B → f ≤ f' → Gives clock (now ∷ []) later
        → Answers repository seal turn (listed now lines ∷ []) answer → Does does repository seal turn answer (standing A clock f) (standing B later f')
    at_list now lines leads later gives answers = record { calls = listed now lines ∷ []; answers = answers; made = record { does_ = leads; clock = gives; rose = omega (arith, later) } }

    pub at_step : {turn : Turn} {answer : Option Response} {clock later : Option (ℕ → ℕ)} (o : Op) (now : ℕ) (r : Reply)
        → does A (asked o now r ∷ []) B → HasCause f f' (r ≡ reply.StoreFailed) → Gives clock (now ∷ []) later
        → Answers repository seal turn (asked o now r ∷ []) answer → Does does repository seal turn answer (standing A clock f) (standing B later f')
    at_step o now r leads cause gives answers = record {
      calls = asked o now r ∷ [];
      answers = answers;
      made = record { does_ = leads; clock = gives; rose = let rose = reply_rose r cause in omega (arith, rose) };
    }

-- answers by what was fetched
module _ {repository : List ℕ} {seal : List ℕ → List ℕ} (id : ObjectId) {r : Result (Option (List ℕ)) ShelfFault} where
  pub gives_object : (bytes : List ℕ) → r ≡ Ok (Some bytes) → Suits id r → Answers repository seal (Serve (Object id)) (fetched id r ∷ []) (Some (Content bytes))
  gives_object bytes is suits =
      subst (λ (x : Result (Option (List ℕ)) ShelfFault). Answers repository seal (Serve (Object id)) (fetched id x ∷ []) (Some (Content bytes))) (sym is)
      (object id bytes (subst (Suits id) is suits))

  pub gives_none : r ≡ Ok None → Answers repository seal (Serve (Object id)) (fetched id r ∷ []) (Some (Fixed NotFound))
  gives_none is = subst (λ (x : Result (Option (List ℕ)) ShelfFault). Answers repository seal (Serve (Object id)) (fetched id x ∷ []) (Some (Fixed NotFound))) (sym is) (absent id)

  pub gives_failed : (fault : ShelfFault) → r ≡ Err fault → fault ≢ NoMemory → Suits id r → Answers repository seal (Serve (Object id)) (fetched id r ∷ []) (Some (Fixed ServerError))
  gives_failed fault is other suits =
      subst (λ (x : Result (Option (List ℕ)) ShelfFault). Answers repository seal (Serve (Object id)) (fetched id x ∷ []) (Some (Fixed ServerError))) (sym is)
      (failed id fault other (subst (Suits id) is suits))

  pub gives_nothing : r ≡ Err NoMemory → Answers repository seal (Serve (Object id)) (fetched id r ∷ []) None
  gives_nothing is = subst (λ (x : Result (Option (List ℕ)) ShelfFault). Answers repository seal (Serve (Object id)) (fetched id x ∷ []) None) (sym is) (unfetched id)
