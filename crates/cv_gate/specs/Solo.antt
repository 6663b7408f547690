-- A desk that asks the gate alone.
use Rattle.std.specs.Prelude.{◌≡◌, ◌<◌, ◌++◌, ◌∷◌, ◌+◌, ℕ, List, [], length, max, true, Option, IfSome, option_map}
use Rattle.std.specs.declared.option.Option.TheVariants.{Some}
use Rattle.cv_gate.specs.Lines.{lines_of}
use Rattle.cv_gate.specs.State.{State}
use Rattle.cv_swap.specs.Kept.{newest}
use Rattle.cv_gate.specs.Step.{Step, Run}
use Rattle.cv_gate.specs.declared.entry.Entry.{Entry}
use Rattle.cv_gate.specs.declared.op.Op.{Op}
use Rattle.cv_gate.specs.declared.reply.Reply.TheVariants.{JournalFull}
use Rattle.cv_gate.specs.Heads.{head_of, heads_since}
use Rattle.cv_gate.specs.declared.entry.TheConstants.{JOURNAL_LIMIT}
use Rattle.cv_gate.specs.Desk.{DeskView, Call, asked, listed, fetched, told, Finds}

-- the desk asks alone, and has seen all from the start on
pub record IsAlone (v : DeskView) : Type 0 where
  pub alone : v.alone ≡ true
  pub run : Run v.start v.seen v.state
  pub heads : v.heads ≡ heads_since v.start v.state

-- where the journal has so many entries a call answers by the state, the journal gains these entries, and then the state is this one
pub data Answers (count : ℕ) (st : State) : Call → List Entry → State → Type 0 where
  steps : (o : Op) (e : Entry) (st' : State) → count < JOURNAL_LIMIT → Step st o e st' → Answers count st (asked o e.now e.reply) (e ∷ []) st'
  full : (o : Op) (now : ℕ) → count ≡ JOURNAL_LIMIT → Answers count st (asked o now JournalFull) [] st
  lists : (now : ℕ) (lines : Option _) → IfSome lines (λ l. l ≡ lines_of (max st.moment now) st.leases) → Answers count st (listed now lines) [] st
  fetches : (id : _) (r : _) → Finds id st.shelf r → Answers count st (fetched id r) [] st
  tells : (head : _) → option_map head_of (newest st.history) ≡ Some head → Answers count st (told head) [] st

-- calls one after another: each answers by the state behind the entries before it
abbrev pub AnswersAll : ℕ → State → List Call → List Entry → State → Type 0
AnswersAll count st [] entries st' = (entries ≡ []) × (st' ≡ st)
AnswersAll count st (c ∷ calls) entries st' =
    (first : List Entry) × (more : List Entry) × (mid : State) × (entries ≡ first ++ more) × Answers count st c first mid
    × AnswersAll (count + length first) mid calls more st'

-- what the calls of a desk that asks alone made
pub record Makes (v : DeskView) (calls : List Call) (v' : DeskView) : Type 0 where
  pub entries : List Entry
  pub answers : AnswersAll (length v.seen) v.state calls entries v'.state
  pub journal : v'.seen ≡ v.seen ++ entries
  pub run : Run v.state entries v'.state
  pub after : IsAlone v'
