-- What is kept is one line of revisions, whatever is asked and whenever the program is cut.
use Rattle.std.specs.Prelude.{◌≡◌, ℕ, List, [], ◌∷◌, ◌++◌}
use Rattle.std.specs.declared.option.Option.{Option}
use Rattle.std.specs.declared.option.Option.TheVariants.{None, Some}
use Rattle.cv_vault.specs.Disk.{Disk, Files, Image, files_now}
use Rattle.cv_vault.specs.Moments.{LeavesOnly}
use Rattle.cv_swap.specs.Kept.{Kept}
use Rattle.cv_swap.specs.Stands.{Stands, AddObjects}
use Rattle.cv_gate.specs.State.{State}
use Rattle.cv_gate.specs.Sound.{AreLeases}
use Rattle.cv_gate.specs.Kept.{reopened, Crash}
use Rattle.cv_gate.specs.Lives.{Life, ran, cut, Lived, Lives, Prolongs}
use Rattle.cv_gate.specs.Desk.{Call, asked}
use Rattle.cv_gate.specs.Solo.{AnswersAll}
use Rattle.cv_gate.specs.declared.entry.Entry.{Entry}
use Rattle.cv_gate.specs.declared.op.Op.{Op}
use Rattle.cv_gate.specs.declared.reply.Reply.{Reply}
use Rattle.cv_top.specs.Seal.{is_seal_by}

-- The life of the program over what was kept, and what a crash left of it: at least the first of its calls were answered, each by the state
-- behind the entries before it, and maybe one more was begun, and the crash left what one may leave of the state behind these; or it was cut
-- while it opened the repository.
pub data IsLife (k : Kept) (least calls : List Call) : Life → Kept → Type 0 where
  opening : {kept : Kept} → least ≡ [] → Lived k cut kept → IsLife k least calls cut kept
  between : (later more : List Call) (entries : List Entry) (end : State) {kept : Kept} → calls ≡ (least ++ later) ++ more → AnswersAll 0 (reopened k) (least ++ later) entries end
      → Crash end None kept → IsLife k least calls (ran entries None) kept
  within : (later more : List Call) (o : Op) (now : ℕ) (r : Reply) (entries : List Entry) (end : State) {kept : Kept} → calls ≡ (least ++ later) ++ asked o now r ∷ more
      → AnswersAll 0 (reopened k) (least ++ later) entries end → Crash end (Some (record { op = o; now = now })) kept
      → IsLife k least calls (ran entries (Some (record { op = o; now = now }))) kept

-- the repository's name and its seal; what was kept first, the lives since then, and what they came to; and the calls of one life more
module _ (name seal : List ℕ) (first : Kept) (lives : List Life) (k : Kept) (calls : List Call) where
  -- the files stand for what was kept first, with the revisions that the lives made, the last of which answered at least these calls
  pub record OnLine (least : List Call) (f : Files) : Type 0 where
    pub life : Life
    pub kept : Kept
    pub is_life : IsLife k least calls life kept
    pub stands : Stands name (is_seal_by seal) f kept
    pub lived : Lives first (lives ++ life ∷ []) kept
    pub line : Prolongs first (lives ++ life ∷ []) kept

  -- or a crash might have left them before, but for files on their way
  pub data Remains (d : Disk) (f : Files) : Type 0 where
    before : (g : Files) → Image d g → AddObjects [] g f → Remains d f
    prolonged : OnLine [] f → Remains d f

-- Behind the first calls of a run the vault stood so; until then a crash leaves no more than their answers, and from then on no less.
pub record Lasts {V : Type 0} (name seal : List ℕ) (first : Kept) (lives : List Life) (k : Kept) (count : V → ℕ) (left : V → ℕ → Files → Type 0) (d : Disk) (least more : List Call) (v mid v' : V) : Type 0 where
  pub until : LeavesOnly count left (Remains name seal first lives k least d) v mid
  pub since : LeavesOnly count left (OnLine name seal first lives k (least ++ more) least) mid v'

-- The headline, of calls that were made on a disk. Whenever a crash comes, the files are on the line, or as they might have been before; once
-- a call was answered they have its answer; in the end they have all. And behind each front of the calls no two live leases overlap.
pub record KeepsLine {V : Type 0} (name seal : List ℕ) (first : Kept) (lives : List Life) (k : Kept) (calls : List Call) (disk : V → Option Disk) (count : V → ℕ) (left : V → ℕ → Files → Type 0) (d : Disk) (v v' : V) : Type 0 where
  pub at_any_time : LeavesOnly count left (Remains name seal first lives k calls d) v v'
  pub once_answered : (done more : List Call) (c : Call) → calls ≡ (done ++ c ∷ []) ++ more → (mid : V) × Lasts name seal first lives k count left d (done ++ c ∷ []) more v mid v'
  pub end : Disk
  pub told : disk v' ≡ Some end
  pub in_the_end : OnLine name seal first lives k calls calls (files_now end)
  pub apart : (done more : List Call) → calls ≡ done ++ more → (entries : List Entry) × (st : State) × AnswersAll 0 (reopened k) done entries st × AreLeases st
