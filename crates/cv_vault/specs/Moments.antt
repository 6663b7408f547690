-- What a crash might have left at some moment since an earlier one.
use Rattle.std.specs.Prelude.{◌≡◌, ◌⊎◌, ℕ, ◌≤◌}
use Rattle.std.specs.declared.option.Option.{Option}
use Rattle.std.specs.declared.option.Option.TheVariants.{None, Some}
use Rattle.cv_vault.specs.Disk.{Disk, Files, ImageOf}

-- A call of a vault went by, where `disk` is the disk that a vault tells, `count` the number of its changes, and `left v m f`
-- says that a crash of v at some moment since its count was m might have left the files f.
-- The disk changed by R where it is told, and stays told. What a crash might have left since an earlier moment is what it might
-- have left before the call, and the images of the disk after it: a crash inside the call leaves an image from before it or after it.
pub record Calls {V : Type 0} (disk : V → Option Disk) (count : V → ℕ) (left : V → ℕ → Files → Type 0) (R : Disk → Disk → Type 0) (old new : V) : Type 0 where
  pub tells : (d : Disk) → disk old ≡ Some d → (d' : Disk) × (disk new ≡ Some d') × R d d'
  pub silent : disk old ≡ None → disk new ≡ None
  pub later : count old ≤ count new
  pub kept : (m : ℕ) (f : Files) → m ≤ count old → left old m f → left new m f
  pub nothing_else : (m : ℕ) (f : Files) → m ≤ count old → left new m f → left old m f ⊎ ImageOf (disk new) f

-- whatever a crash at some moment from old to new might have left has P
pub record LeavesOnly {V : Type 0} (count : V → ℕ) (left : V → ℕ → Files → Type 0) (P : Files → Type 0) (old new : V) : Type 0 where
  pub later : count old ≤ count new
  pub each : (f : Files) → left new (count old) f → P f
  -- for a run that began earlier
  pub before : (m : ℕ) (f : Files) → m ≤ count old → left new m f → left old m f ⊎ P f

-- nothing but reads went by: the disk is as it was, marks included, and a crash leaves what it might have left before
abbrev pub OnlyReads : {V : Type 0} (disk : V → Option Disk) (count : V → ℕ) (left : V → ℕ → Files → Type 0) → V → V → Type 0
OnlyReads disk count left old new = Calls disk count left (λ d d'. d' ≡ d) old new
