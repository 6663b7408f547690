-- What bytes ask is one thing, but for one case.
use Rattle.std.specs.Prelude.{◌≡◌, ℕ, List, Bool}
use Rattle.httparse.specs.Grammar.{EndsInTarget}
use Rattle.cv_http.specs.Heads.{Never, window}
use Rattle.cv_keys.specs.declared.key.Key.{Key}
use Rattle.cv_session.specs.Asking.{Turned, Opens}
use Rattle.cv_session.specs.declared.session_end.SessionEnd.{SessionEnd}

-- the bytes, or the first 16,384 of them, end inside a target, and nothing can follow them that makes them begin with a head, since
-- the target can't become UTF-8: they may be no head, or else be cut or too long
pub record IsOpen (b : List ℕ) : Type 0 where
  pub never : Never b
  pub ends_ : EndsInTarget (window b)

-- the same of what is left behind the first requests
pub record IsOpenBehind (repository : List ℕ) (keys : List Key) (n : ℕ) (b : List ℕ) : Type 0 where
  pub turns_ : List Turned
  pub rest : List ℕ
  pub opens : Opens repository keys n b turns_ rest
  pub open_ : IsOpen rest

-- the same turns, the same line behind them, and the same end
abbrev pub IsOne : List Turned → Bool → SessionEnd → List Turned → Bool → SessionEnd → Type 0
IsOne ts line end ts' line' end' = (ts ≡ ts') × (line ≡ line') × (end ≡ end')
