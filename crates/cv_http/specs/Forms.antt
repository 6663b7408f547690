-- Heads of a form, as requests have one and replies another: whether bytes begin with one of at most 16,384 bytes.
use Rattle.std.specs.Prelude.{◌≡◌, ◌≢◌, ◌<◌, ◌≤◌, ◌++◌, ℕ, List, [], length, take, Option, Some, None}
use Rattle.cv_http.specs.declared.fault.HttpFault.{HttpFault}
use Rattle.cv_http.specs.declared.fault.HttpFault.TheVariants.{BadHead, HeadTooLarge}
use Rattle.cv_http.specs.declared.judge.TheConstants.{HEAD_LIMIT}

-- the bytes that a head may have
abbrev pub window : List ℕ → List ℕ
window = take HEAD_LIMIT

-- a form of heads: the bytes of a head, what makes it one, which bytes may become one, by which fault it is refused, and what
-- it says
pub record Form (P H : Type 0) : Type 1 where
  pub print : P → List ℕ
  pub IsHead : P → Type 0
  pub MayBecome : List ℕ → Type 0
  pub fault : P → Option HttpFault
  pub says : P → H

-- the bytes are this head, and then these
abbrev pub ReadsAs : {P H : Type 0} → Form P H → List ℕ → P → List ℕ → Type 0
ReadsAs form b head later = form.IsHead head × (b ≡ form.print head ++ later)

-- no front of the bytes is a head
abbrev pub HasNone : {P H : Type 0} → Form P H → List ℕ → Type 0
HasNone {P} form b = (head : P) (later : List ℕ) → ¬ (ReadsAs form b head later)

-- the bytes are this head, within the limit, and then these
pub record HasHeadAs {P H : Type 0} (form : Form P H) (b : List ℕ) (head : P) (later : List ℕ) : Type 0 where
  pub reads : ReadsAs form b head later
  pub limit : length (form.print head) ≤ HEAD_LIMIT

-- the bytes are a whole head without fault, which says this, and then these
pub record BeginsAs {P H : Type 0} (form : Form P H) (b : List ℕ) (head : H) (later : List ℕ) : Type 0 where
  pub parsed : P
  pub has : HasHeadAs form b parsed later
  pub faultless : form.fault parsed ≡ None
  pub says : head ≡ form.says parsed

-- no bytes can follow the first 16,384 that make them begin with a head
pub record NeverAs {P H : Type 0} (form : Form P H) (b : List ℕ) : Type 0 where
  pub never : (more : List ℕ) → HasNone form (window b ++ more)

-- the first 16,384 bytes don't begin with a head, and may become one
pub record UnfinishedAs {P H : Type 0} (form : Form P H) (b : List ℕ) : Type 0 where
  pub not_yet : HasNone form (window b)
  pub may : form.MayBecome (window b)

-- the bytes begin with something that is refused by this fault
pub data RefusedAs {P H : Type 0} (form : Form P H) (b : List ℕ) : HttpFault → Type 0 where
  never : NeverAs form b → RefusedAs form b BadHead
  large : HEAD_LIMIT ≤ length b → UnfinishedAs form b → RefusedAs form b HeadTooLarge
  judged : (parsed : P) (later : List ℕ) (fault : HttpFault) → HasHeadAs form b parsed later → form.fault parsed ≡ Some fault → RefusedAs form b fault

-- the bytes begin with no whole head, and have room for more of one
pub record AwaitedAs {P H : Type 0} (form : Form P H) (b : List ℕ) : Type 0 where
  pub short : length b < HEAD_LIMIT
  pub none : HasNone form b

-- the bytes end inside a head
pub record CutAs {P H : Type 0} (form : Form P H) (b : List ℕ) : Type 0 where
  pub some : b ≢ []
  pub short : length b < HEAD_LIMIT
  pub unfinished : UnfinishedAs form b
