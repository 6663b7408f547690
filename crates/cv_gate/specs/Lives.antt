-- Lives between crashes, and what they make.
use Rattle.std.specs.Prelude.{◌≡◌, ◌≢◌, ◌⊎◌, ℕ, ◌+◌, ◌<◌, ⊤, false, List, [], ◌∷◌, ◌++◌, Option, None, Some, AllPairs}
use Rattle.std.specs.List.{filter_map, AllByRecursion, Contains}
use Rattle.std.specs.FinMap.{get}
use Rattle.cv_base.specs.Path.{Path, covers}
use Rattle.cv_base.specs.declared.token.Token.{Token}
use Rattle.cv_base.specs.Token.{last_number}
use Rattle.cv_gate.specs.State.{State}
use Rattle.cv_swap.specs.Kept.{Revision, newest, Kept, IsKept}
use Rattle.cv_gate.specs.Step.{Run}
use Rattle.cv_gate.specs.Kept.{reopened, Pending, Crash}
use Rattle.cv_gate.specs.Laws.{Makes, tokens_given}
use Rattle.cv_gate.specs.declared.op.Op.TheVariants as op
use Rattle.cv_gate.specs.declared.act.Act.{Act}
use Rattle.cv_gate.specs.declared.act.Act.TheVariants as act
use Rattle.cv_gate.specs.declared.reply.Reply.{Reply}
use Rattle.cv_gate.specs.declared.reply.Reply.TheVariants as reply
use Rattle.cv_gate.specs.declared.entry.Entry.{Entry}

-- ---- lives

-- the entries of a gate and the op that the crash cut, if it cut one; or an opening that was cut
pub data Life : Type 0 where
  ran : (entries : List Entry) (pending : Option Pending) → Life
  cut : Life

-- a gate was opened, ran and crashed
pub record Ran (k : Kept) (entries : List Entry) (pending : Option Pending) (k' : Kept) : Type 0 where
  pub room : k.epoch < last_number
  pub end : State
  pub run : Run (reopened k) entries end
  pub crash : Crash end pending k'

-- the opening had raised the epoch or not
abbrev pub Lived : Kept → Life → Kept → Type 0
Lived k (ran entries pending) k' = Ran k entries pending k'
Lived k cut k' = (k' ≡ k) ⊎ ((k.epoch < last_number) × (k' ≡ record k { epoch = k.epoch + 1 }))

abbrev pub Lives : Kept → List Life → Kept → Type 0
Lives k [] k' = k' ≡ k
Lives k (life ∷ lives) k' = (mid : Kept) × Lived k life mid × Lives mid lives k'

-- ---- the leases of a life

-- a lease as its holder knows it
pub record Grant : Type 0 where
  pub token : Token
  pub key : List ℕ
  pub path : Path

-- the lease that an entry granted, if it did
abbrev pub grant_by : List ℕ → Act → Reply → Option Grant
grant_by key (act.Lease path) (reply.Granted token revision root) = Some (record { token = token; key = key; path = path })
grant_by key other_act other_reply = None

abbrev pub grant_of : Entry → Option Grant
grant_of e = grant_by e.key e.act e.reply

abbrev pub grants_of : List Entry → List Grant
grants_of entries = filter_map grant_of entries

-- the lease under which a revision was made
abbrev pub grant_under : Revision → Grant
grant_under new = record { token = new.record_.token; key = new.record_.key; path = new.record_.path }

-- ---- the revisions of lives

-- the revision is one for which an op in progress asked
pub record IsPending (p : Pending) (new : Revision) : Type 0 where
  pub old_root : List ℕ
  pub is : p.op ≡ op.Commit new.record_.key new.record_.token old_root new.record_.offered new.record_.tag

-- the revisions of a life: those that its entries made, and maybe that of the commit in progress
pub data MakesLast : List Entry → Option Pending → List Revision → Type 0 where
  whole : {entries : List Entry} {pending : Option Pending} {news : List Revision} → Makes entries news → MakesLast entries pending news
  last : {entries : List Entry} {p : Pending} {news : List Revision} {new : Revision} → Makes entries news → IsPending p new → MakesLast entries (Some p) (news ++ new ∷ [])

-- the revisions of lives, one after another, each made under a lease that was granted in its life
pub data MadeBy : List Life → List Revision → Type 0 where
  none : MadeBy [] []
  by_run : {entries : List Entry} {pending : Option Pending} {own : List Revision} {lives : List Life} {news : List Revision} → MakesLast entries pending own
      → AllByRecursion (λ new. Contains (grants_of entries) (grant_under new)) own → MadeBy lives news → MadeBy (ran entries pending ∷ lives) (own ++ news)
  by_cut : {lives : List Life} {news : List Revision} → MadeBy lives news → MadeBy (cut ∷ lives) news

-- each revision has but below its path what the one before has
abbrev pub EachReplaces : Revision → List Revision → Type 0
EachReplaces before [] = ⊤
EachReplaces before (new ∷ news) = ((q : Path) → covers new.record_.path q ≡ false → get new.tree q ≡ get before.tree q) × EachReplaces new news

-- the tokens that lives grant, in their order
abbrev pub tokens_of : List Life → List Token
tokens_of [] = []
tokens_of (ran entries pending ∷ lives) = tokens_given entries ++ tokens_of lives
tokens_of (cut ∷ lives) = tokens_of lives

-- what is kept in the end is what was kept, with the revisions that the lives made
pub record Prolongs (k : Kept) (lives : List Life) (k' : Kept) : Type 0 where
  pub kept : IsKept k'
  pub news : List Revision
  pub history : k'.history ≡ k.history ++ news
  pub made : MadeBy lives news
  pub head : Revision
  pub is_newest : newest k.history ≡ Some head
  pub replaces : EachReplaces head news
  pub tokens : AllPairs (λ a b. a ≢ b) (tokens_of lives)
