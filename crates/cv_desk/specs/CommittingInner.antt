-- What a commit does inside a step. What only this crate's own functions say.
use Rattle.std.specs.Prelude.{◌≡◌, ℕ, Bool, List}
use Rattle.std.specs.declared.result.Result.{Result}
use Rattle.std.specs.declared.result.Result.TheVariants.{Ok, Err}
use Rattle.cv_base.specs.Path.{Path}
use Rattle.cv_ports.specs.Shelf.{Shelf}
use Rattle.cv_cut.specs.Good.{IsGood}
use Rattle.cv_cut.specs.Opening.{MayFail}
use Rattle.cv_cut.specs.Reached.{root_place}
use Rattle.cv_cut.specs.declared.load_fault.LoadFault.{LoadFault}
use Rattle.cv_graft.specs.declared.grafted.Grafted.{Grafted}
use Rattle.cv_gate.specs.declared.reply.Reply.{Reply}
use Rattle.cv_desk.specs.Committing.{IsFit, IsUnfit, Readies, reply_at}
use Rattle.std.specs.declared.option.Option.{Option}
use Rattle.cv_base.specs.declared.token.Token.{Token}
use Rattle.cv_vault.specs.Disk.{Disk, Files}
use Rattle.cv_load.specs.declared.known_set.KnownSet.{KnownSet}
use Rattle.cv_leases.specs.Leases.{lease_of}
use Rattle.cv_leases.specs.declared.lease.Lease.{Lease}
use Rattle.cv_swap.specs.Line.{LineView}
use Rattle.cv_manifest.specs.declared.head.Head.{Head}
use Rattle.cv_desk.specs.Views.{StateView}
use Rattle.cv_desk.specs.Known.{KnowsOn}
use Rattle.cv_desk.specs.Refusals.{opposition, refusal_on}
use Rattle.std.specs.declared.option.Option.TheVariants.{None, Some}

-- the offered root is good, or why it isn't
abbrev pub Offers : Shelf → List ℕ → Result (Unit {0}) Reply → Type 0
Offers shelf offered (Ok done) = IsGood shelf offered root_place
Offers shelf offered (Err o) = (fault : LoadFault) × MayFail shelf offered fault × (o ≡ reply_at fault)

-- one or the other
abbrev pub GraftsOffered : Shelf → List ℕ → List ℕ → Path → Result Grafted Reply → Type 0
GraftsOffered shelf newest offered path (Ok g) = IsFit shelf newest offered path g
GraftsOffered shelf newest offered path (Err r) = IsUnfit shelf newest offered path r

-- ---- it is asked

module _ {V S : Type 0} (disk : V → Option Disk) (count : V → ℕ) (left : V → ℕ → Files → Type 0) (is_seal : S → List ℕ → List ℕ → Bool) where
  -- what comes of a commit under a lease: it is opposed, or made ready or not
  pub data CommitsUnder (lease : Lease) (key old_root offered tag : List ℕ) (s : StateView V S) (r : Result Head Reply) (s' : StateView V S) : Type 0 where
    opposed : (o : Reply) → opposition s.line lease.from_revision old_root tag ≡ Some o → r ≡ Err o → s' ≡ s → CommitsUnder lease key old_root offered tag s r s'
    readies : (l : LineView V S) (more : KnownSet) → opposition s.line lease.from_revision old_root tag ≡ None → Readies disk count left is_seal s.known lease key s.moment offered tag s.line l r
        → KnowsOn disk s.line.vault s.known offered r more → s' ≡ record s { line = l; known = more } → CommitsUnder lease key old_root offered tag s r s'

  -- what comes of asking for a commit
  pub data AsksCommit (key : List ℕ) (token : Token) (old_root offered tag : List ℕ) (s : StateView V S) (r : Result Head Reply) (s' : StateView V S) : Type 0 where
    not_own : (o : Reply) → refusal_on (lease_of token s.leases) key ≡ Some o → r ≡ Err o → s' ≡ s → AsksCommit key token old_root offered tag s r s'
    own : (lease : Lease) → refusal_on (lease_of token s.leases) key ≡ None → lease_of token s.leases ≡ Some lease → CommitsUnder lease key old_root offered tag s r s'
        → AsksCommit key token old_root offered tag s r s'
