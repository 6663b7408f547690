-- What the bytes of a connection ask, by the bytes, the repository's name and the keys alone.
use Rattle.std.specs.Prelude.{◌≡◌, ◌+◌, ◌++◌, ◌∷◌, ℕ, List, [], length, Bool, true, false}
use Rattle.std.specs.declared.option.Option.TheVariants.{Some}
use Rattle.cv_http.specs.declared.fault.HttpFault.{HttpFault}
use Rattle.cv_http.specs.declared.fault.HttpFault.TheVariants.{Short}
use Rattle.cv_http.specs.declared.code.Code.{Code}
use Rattle.cv_keys.specs.declared.key.Key.{Key}
use Rattle.cv_session.specs.Exchanges.{ends}
use Rattle.cv_session.specs.Requests.{Request, IsRequest, IsBad, EndsInside, WantsAny, waits, code_of_fault}
use Rattle.cv_session.specs.declared.turn.Turn.{Turn}
use Rattle.cv_session.specs.declared.turn.Turn.TheVariants.{Refuse}
use Rattle.cv_session.specs.declared.session_end.SessionEnd.{SessionEnd}
use Rattle.cv_session.specs.declared.session_end.SessionEnd.TheVariants.{Clean, Closed, Bad}

-- what is asked; whether the line that asks for the body goes before the reply; and whether by the bytes the session ends with
-- the reply
pub record Turned : Type 0 where
  pub what : Turn
  pub waited : Bool
  pub last : Bool

-- a fault is a turn of its own, which is answered by a code
abbrev pub refusing : Code → Turned
refusing code = record { what = Refuse code; waited = false; last = true }

module _ (repository : List ℕ) (keys : List Key) where
  -- the bytes begin with the request of this number, which asks this, and then these are left
  pub record IsNext (number : ℕ) (b : List ℕ) (t : Turned) (later : List ℕ) : Type 0 where
    pub request : Request
    pub is : IsRequest b request later
    pub wants : WantsAny repository keys request.head request.body t.what
    pub waited : t.waited ≡ waits request.head
    pub last : t.last ≡ ends request.head.last number

  -- behind so many requests, the bytes begin with requests that ask these turns and don't end the session, and then these are left
  abbrev pub Opens : ℕ → List ℕ → List Turned → List ℕ → Type 0
  Opens count b [] later = later ≡ b
  Opens count b (t ∷ ts) later = (rest : List ℕ) × IsNext (count + 1) b t rest × (t.last ≡ false) × Opens (count + 1) rest ts later

  -- behind so many requests, the bytes end the session by these turns, and so; the line of a request that is cut was written or not
  pub data EndsWith (count : ℕ) (b : List ℕ) : List Turned → Bool → SessionEnd → Type 0 where
    clean : b ≡ [] → EndsWith count b [] false Clean
    closed : (t : Turned) (later : List ℕ) → IsNext (count + 1) b t later → t.last ≡ true → EndsWith count b (t ∷ []) false Closed
    refused : (fault : HttpFault) (code : Code) → IsBad b fault → code_of_fault fault ≡ Some code → EndsWith count b (refusing code ∷ []) false (Bad fault)
    cut : (line : Bool) → EndsInside b line → EndsWith count b [] line (Bad Short)

  -- the bytes ask for these turns, and then the session ends so
  pub record IsAsked (b : List ℕ) (ts : List Turned) (line : Bool) (end : SessionEnd) : Type 0 where
    pub first : List Turned
    pub rest : List ℕ
    pub final : List Turned
    pub split : ts ≡ first ++ final
    pub opens : Opens 0 b first rest
    pub ends_ : EndsWith (length first) rest final line end
