-- Calls of a vault, one after another, by which certain files may come to certain names.
use Rattle.std.specs.Prelude.{◌≡◌, ◌≢◌, ◌⊎◌, ⊤, ℕ, Bool, true, false}
use Rattle.std.specs.declared.option.Option.{Option}
use Rattle.std.specs.declared.option.Option.TheVariants.{None, Some}
use Rattle.cv_base.specs.Told.{WhereTold}
use Rattle.cv_vault.specs.Names.{Name, on_way}
use Rattle.cv_vault.specs.Disk.{Disk, Slot, File, Files, May, Settled, slot}
use Rattle.cv_vault.specs.Moments.{LeavesOnly}

-- From the slot s to the slot s': the file stays, or one of the files that B allows came. What a crash may leave afterwards it might
-- have left before, or it is such a file
pub data Change (B : File → Type 0) (s s' : Slot) : Type 0 where
  Stays : (same : s'.now ≡ s.now) (less : (f : File) → May s' f → May s f) → Change B s s'
  Comes : (came : B s'.now) (less : (f : File) → May s' f → May s f ⊎ B f) → Change B s s'

-- From the disk d to the disk d', nothing came but the files that B allows at each name. The names that `away` tells are left out of account:
-- there files are on their way, and nobody reads what a crash leaves of them
pub record Gains (away : Name → Bool) (B : Name → File → Type 0) (d d' : Disk) : Type 0 where
  pub each : (n : Name) → away n ≡ false → Change (B n) (d n) (d' n)

-- each of the files is one that a crash of the disk d may leave, or one that B allows
pub record Within (away : Name → Bool) (B : Name → File → Type 0) (d : Disk) (f : Files) : Type 0 where
  pub each : (n : Name) → away n ≡ false → May (d n) (f n) ⊎ B n (f n)

-- From v, whose disk is d, to v', whose disk has E: nothing came but the files that B allows, and a crash at any moment on the way leaves nothing else
pub record Walks {V : Type 0} (disk : V → Option Disk) (count : V → ℕ) (left : V → ℕ → Files → Type 0) (away : Name → Bool) (B : Name → File → Type 0)
    (E : Disk → Type 0) (d : Disk) (v v' : V) : Type 0 where
  pub end : Disk
  pub told : disk v' ≡ Some end
  pub gains : Gains away B d end
  pub leaves : LeavesOnly count left (Within away B d) v v'
  pub is : E end

-- no file comes
abbrev pub Nothing : Name → File → Type 0
Nothing n f = ⊥

-- this file comes to this name
abbrev pub ComesTo : Name → File → Name → File → Type 0
ComesTo name file n f = (n ≡ name) × (f ≡ file)

-- nothing comes but to names on the way, and of the other names a crash at any moment leaves what it might have left before
abbrev pub BringsNothing : {V : Type 0} (disk : V → Option Disk) (count : V → ℕ) (left : V → ℕ → Files → Type 0) → V → V → Type 0
BringsNothing disk count left v v' = WhereTold (disk v) (λ d. Walks disk count left on_way Nothing (λ end. ⊤) d v v')

-- under the names that P tells, also those on the way, stands what stood there, as unsure as it was or settled
pub record Spares (P : Name → Type 0) (d d' : Disk) : Type 0 where
  pub each : (n : Name) → P n → (d' n ≡ d n) ⊎ (d' n ≡ slot (d n).now Settled)

-- so it is where the vault tells its disk, which it then goes on to tell; one that tells none goes on to tell none
pub record SparesIn {V : Type 0} (disk : V → Option Disk) (P : Name → Type 0) (v v' : V) : Type 0 where
  pub silent : disk v ≡ None → disk v' ≡ None
  pub tells : (d : Disk) → disk v ≡ Some d → (d' : Disk) × (disk v' ≡ Some d') × Spares P d d'

-- neither of two names
abbrev pub IsNeither : Name → Name → Name → Type 0
IsNeither a b n = (n ≢ a) × (n ≢ b)

-- a walk that leaves the names on the way out of account is one that leaves out any choice of names that has these among it
abbrev pub LeavesOutMore : {V : Type 0} (disk : V → Option Disk) (count : V → ℕ) (left : V → ℕ → Files → Type 0) (B : Name → File → Type 0) (E : Disk → Type 0) → Disk → Type 0
LeavesOutMore {V} disk count left B E d = (away : Name → Bool) → ((n : Name) → on_way n ≡ true → away n ≡ true)
    → (v v' : V) → Walks disk count left on_way B E d v v' → Walks disk count left away B E d v v'
