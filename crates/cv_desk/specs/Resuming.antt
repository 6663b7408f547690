-- A commit in doubt is settled before an op is done.
use Rattle.std.specs.Prelude.{◌≡◌, ◌≢◌, ◌-◌, ℕ, Bool, true, false, List, length}
use Rattle.std.specs.List.{slice_get}
use Rattle.std.specs.declared.option.Option.{Option}
use Rattle.std.specs.declared.option.Option.TheVariants.{None, Some}
use Rattle.std.specs.declared.result.Result.{Result}
use Rattle.std.specs.declared.result.Result.TheVariants.{Ok, Err}
use Rattle.cv_base.specs.Told.{WhereTold}
use Rattle.cv_base.specs.declared.token.Token.{Token}
use Rattle.cv_vault.specs.Names.{on_way}
use Rattle.cv_vault.specs.Disk.{Disk, Files}
use Rattle.cv_vault.specs.Replace.{Found}
use Rattle.cv_vault.specs.Walks.{Walks, Nothing}
use Rattle.cv_vault.specs.declared.vault.VaultFault.{VaultFault}
use Rattle.cv_history.specs.declared.record.Record.{Record}
use Rattle.cv_leases.specs.Leases.{without}
use Rattle.cv_leases.specs.declared.lease.Lease.{Lease}
use Rattle.cv_swap.specs.Line.{LineView, published, swapped}
use Rattle.cv_swap.specs.Stands.{head_name}
use Rattle.cv_swap.specs.declared.stage.Stage.TheVariants as stage
use Rattle.cv_desk.specs.Views.{StateView, at_vault}

-- the token of the lease under which the last of the records was made
abbrev pub token_in : Option Record → Option Token
token_in None = None
token_in (Some r) = Some r.token

abbrev pub newest_token : List Record → Option Token
newest_token records = token_in (slice_get records (length records - 1))

-- the lease with the token has ended
abbrev pub ended : Option Token → List Lease → List Lease
ended None leases = leases
ended (Some token) leases = without token leases

-- the head's file is looked at: it is the manifest for sure, or another, or it isn't known
abbrev pub LooksAtHead : {V S : Type 0} (disk : V → Option Disk) (count : V → ℕ) (left : V → ℕ → Files → Type 0) → LineView V S → Result Bool VaultFault → V → Type 0
LooksAtHead disk count left l r v = WhereTold (disk l.vault) (λ d. Walks disk count left on_way Nothing (Found head_name l.manifest r) d l.vault v)

-- From where an op goes on. Where no commit was in doubt all is as it was. Else the head's file was the manifest: the revision is published,
-- and its lease has ended; or it was another, and nothing came.
pub data Resumes {V S : Type 0} (disk : V → Option Disk) (count : V → ℕ) (left : V → ℕ → Files → Type 0) (s s' : StateView V S) : Type 0 where
  certain : s.line.stage ≢ stage.Doubtful → s' ≡ s → Resumes disk count left s s'
  came : s.line.stage ≡ stage.Doubtful → LooksAtHead disk count left s.line (Ok true) s'.line.vault
      → s' ≡ record s { line = swapped s.line s'.line.vault; leases = ended (newest_token (published s'.line)) s.leases } → Resumes disk count left s s'
  lost : s.line.stage ≡ stage.Doubtful → LooksAtHead disk count left s.line (Ok false) s'.line.vault
      → s' ≡ record s { line = record s.line { vault = s'.line.vault; stage = stage.Calm } } → Resumes disk count left s s'

-- a commit is in doubt, and a fault came when it was to be settled: nothing was done but looks
pub record Awaits {V S : Type 0} (disk : V → Option Disk) (count : V → ℕ) (left : V → ℕ → Files → Type 0) (fault : VaultFault) (s s' : StateView V S) : Type 0 where
  pub doubtful : s.line.stage ≡ stage.Doubtful
  pub looks : LooksAtHead disk count left s.line (Err fault) s'.line.vault
  pub others : s' ≡ at_vault s s'.line.vault
