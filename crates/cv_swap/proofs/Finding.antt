-- What the files of a repository say.
use Rattle.std.proofs.Common.{◌≡◌, ℕ, Bool, List, sym, ◌∙◌, subst}
use Rattle.std.specs.Prelude.{IfOk}
use Rattle.std.specs.declared.option.Option.{Option}
use Rattle.std.specs.declared.option.Option.TheVariants.{Some}
use Rattle.std.specs.declared.result.Result.{Result}
use Rattle.std.specs.declared.result.Result.TheVariants.{Ok, Err}
use Rattle.cv_vault.specs.Names.{Name}
use Rattle.cv_vault.specs.Disk.{Disk, File, Files, Reads, files_now}
use Rattle.cv_vault.specs.Moments.{Calls}
use Rattle.cv_vault.specs.declared.vault.VaultFault.{VaultFault}
use Rattle.cv_vault.specs.declared.vault.VaultFault.TheVariants as vault
use Rattle.cv_manifest.specs.declared.head.Head.{Head}
use Rattle.cv_manifest.specs.Manifest.{IsHead}
use Rattle.cv_swap.specs.Stands.{head_name}
use Rattle.cv_swap.specs.Faults.{open_fault_of}
use Rattle.cv_swap.specs.OpeningInner.{FindsHead, IsRead}
use Rattle.cv_swap.specs.declared.open_fault.OpenFault.{OpenFault}
use Rattle.cv_swap.specs.declared.open_fault.OpenFault.TheVariants.{NoRepository, BadManifest, OtherName, BadHistory, BadEpoch, EpochsSpent, Failed, NoMemory}

-- a file that was read stands on the disk
pub read_now : {V : Type 0} {disk : V → Option Disk} {count : V → ℕ} {left : V → ℕ → Files → Type 0} {v v' : V} (n : Name) (x : File) (d : Disk) → disk v ≡ Some d → Calls disk count left (Reads n (Ok x)) v v' → (d n).now ≡ x
read_now n x d e c = let t = c.tells d e in sym t.2.1

-- the head that bytes say
pub finds_head : (name : List ℕ) (is_seal : List ℕ → List ℕ → Bool) (f : Files) (bytes : List ℕ) (r : Result Head OpenFault) → f head_name ≡ Some bytes → IsRead name is_seal bytes r → FindsHead name is_seal f r
finds_head name is_seal f bytes (Ok head) e h = record { text = bytes; present = e; manifest = h.0; says = h.1; named = h.2; is = h.3 }
finds_head name is_seal f bytes (Err NoRepository) e h = absurd h
finds_head name is_seal f bytes (Err (BadManifest fault)) e h = record { text = bytes; present = e; shows = h.0; said = h.1 }
finds_head name is_seal f bytes (Err OtherName) e h = record { text = bytes; present = e; manifest = h.0; says = h.1; other = h.2 }
finds_head name is_seal f bytes (Err (BadHistory fault)) e h = absurd h
finds_head name is_seal f bytes (Err BadEpoch) e h = absurd h
finds_head name is_seal f bytes (Err EpochsSpent) e h = absurd h
finds_head name is_seal f bytes (Err Failed) e h = absurd h
finds_head name is_seal f bytes (Err NoMemory) e h = tt

-- where it can't be read nothing is said of it
pub unread_head : (name : List ℕ) (is_seal : List ℕ → List ℕ → Bool) (f : Files) (r : Result Head OpenFault) (x : VaultFault) → r ≡ Err (open_fault_of x) → FindsHead name is_seal f r
unread_head name is_seal f r vault.Failed is = rw is tt
unread_head name is_seal f r vault.NoMemory is = rw is tt

-- a head that was read can be written
pub head_read : (name : List ℕ) (is_seal : List ℕ → List ℕ → Bool) (bytes : List ℕ) (r : Result Head OpenFault) → IsRead name is_seal bytes r → IfOk r IsHead
head_read name is_seal bytes (Ok head) h = subst IsHead h.3 (record { revision = h.1.say.limits.revision; time = h.1.say.limits.time })
head_read name is_seal bytes (Err fault) h = tt

pub file_now : {V : Type 0} {disk : V → Option Disk} {count : V → ℕ} {left : V → ℕ → Files → Type 0} {v v' : V} (n : Name) (x y : File) (d : Disk) → disk v ≡ Some d → Calls disk count left (Reads n (Ok x)) v v' → x ≡ y → files_now d n ≡ y
file_now n x y d e c is = read_now n x d e c ∙ is
