-- What comes of an op by the leases, the moment and the published revisions alone, whatever the vault tells.
use Rattle.std.specs.Prelude.{◌≡◌, ℕ, ◌+◌, ◌++◌, ◌∷◌, Bool, true, false, List, [], length}
use Rattle.std.specs.declared.option.Option.{Option}
use Rattle.std.specs.declared.option.Option.TheVariants.{None, Some}
use Rattle.cv_base.specs.Path.{Path, parent}
use Rattle.cv_base.specs.Told.{WhereTold}
use Rattle.cv_base.specs.declared.id.ObjectId.{ObjectId}
use Rattle.cv_base.specs.declared.object.Object.{Object}
use Rattle.cv_base.specs.declared.token.Token.{Token}
use Rattle.cv_ports.specs.Calls.{RaisedAtMost}
use Rattle.cv_ports.specs.Shelf.{Shelf}
use Rattle.cv_vault.specs.Names.{on_way}
use Rattle.cv_vault.specs.Disk.{Disk, Files}
use Rattle.cv_vault.specs.Moments.{OnlyReads}
use Rattle.cv_vault.specs.Walks.{Walks}
use Rattle.cv_history.specs.declared.record.Record.{Record}
use Rattle.cv_manifest.specs.declared.head.Head.{Head}
use Rattle.cv_leases.specs.Leases.{lease_of, without}
use Rattle.cv_leases.specs.declared.lease.Lease.{Lease}
use Rattle.cv_objects.specs.Names.{standing_on}
use Rattle.cv_objects.specs.Batches.{Brings}
use Rattle.cv_tree.specs.Tree.{Nodes}
use Rattle.cv_cut.specs.Above.{cuts_above}
use Rattle.cv_graft.specs.Directories.{IsFound}
use Rattle.cv_graft.specs.Graft.{HasWay}
use Rattle.cv_graft.specs.Way.{IsOfWay}
use Rattle.cv_graft.specs.declared.grafted.Grafted.{Grafted}
use Rattle.cv_swap.specs.Kept.{head_with}
use Rattle.cv_swap.specs.Line.{published}
use Rattle.cv_gate.specs.declared.act.Act.{Act}
use Rattle.cv_gate.specs.declared.act.Act.TheVariants as act
use Rattle.cv_gate.specs.declared.reply.Reply.{Reply}
use Rattle.cv_gate.specs.declared.reply.Reply.TheVariants as reply
use Rattle.cv_desk.specs.Views.{StateView, at_vault, next_token, with_lease}
use Rattle.cv_desk.specs.Refusals.{refusal_of, refusal_on, is_unread, is_sending}
use Rattle.cv_desk.specs.Sending.{IsSent}

-- The gate has come to the moment of the op in each of these, so that leases whose deadline has come are gone.

-- nothing was done but reads of the vault
pub record OnlyLooks {V S : Type 0} (disk : V → Option Disk) (count : V → ℕ) (left : V → ℕ → Files → Type 0) (s s' : StateView V S) : Type 0 where
  pub reads : OnlyReads disk count left s.line.vault s'.line.vault
  pub others : s' ≡ record s { line = record s.line { vault = s'.line.vault; taken = s'.line.taken } }

-- by the catalogues that stand on a shelf, the path has a place under a root, or hasn't: it is the root, or its parent is a directory
abbrev pub IsPlaced : Shelf → List ℕ → Path → Bool → Type 0
IsPlaced shelf root [] there = there ≡ true
IsPlaced shelf root (name ∷ names) there = IsFound shelf root (parent (name ∷ names)) there

-- the same on the disk that a vault tells
abbrev pub IsPlacedOn : Option Disk → List ℕ → Path → Bool → Type 0
IsPlacedOn told root path there = WhereTold told (λ d. IsPlaced (standing_on d) root path there)

-- bytes that are said to have another digest are those of a catalogue on the way to the path's parent, on the disk that a vault tells
abbrev pub BlamesParent : Option Disk → List ℕ → Path → Reply → Type 0
BlamesParent told root path (reply.Damaged id found) = WhereTold told (λ d. IsOfWay (standing_on d) root (parent path) id)
BlamesParent told root path other = Unit {0}

-- At most as many catalogues were fetched as the path's parent has names; and where the newest root means a tree on the way, no more than those
-- properly above the parent.
abbrev pub FetchesWay : {V S : Type 0} → (V → Option Disk) → Path → StateView V S → StateView V S → Type 0
FetchesWay disk path s s' = RaisedAtMost (length (parent path)) s.line.taken s'.line.taken × WhereTold (disk s.line.vault) (λ d. (t : Nodes) → HasWay (standing_on d) s.line.head.root t (parent path)
    → RaisedAtMost (length (cuts_above t (parent path))) s.line.taken s'.line.taken)

-- A lease is asked. Where the path or the leases refuse it nothing changes, not even the vault; else the newest tree is looked at, by reads
-- alone, and it isn't read, or the path has no place in it, or the lease is granted under the next number.
pub data LeaseEnds {V S : Type 0} (disk : V → Option Disk) (count : V → ℕ) (left : V → ℕ → Files → Type 0) (key : List ℕ) (path : Path) (s : StateView V S) (r : Reply) (s' : StateView V S) : Type 0 where
  lease_refused : refusal_of s.leases s.moment path ≡ Some r → s' ≡ s → LeaseEnds disk count left key path s r s'
  lease_unread : refusal_of s.leases s.moment path ≡ None → is_unread r ≡ true → BlamesParent (disk s.line.vault) s.line.head.root path r → OnlyLooks disk count left s s' → FetchesWay disk path s s'
      → LeaseEnds disk count left key path s r s'
  lease_placeless : refusal_of s.leases s.moment path ≡ None → r ≡ reply.NoParent → IsPlacedOn (disk s.line.vault) s.line.head.root path false → OnlyLooks disk count left s s' → FetchesWay disk path s s' → LeaseEnds disk count left key path s r s'
  lease_granted : (looked : StateView V S) → refusal_of s.leases s.moment path ≡ None → IsPlacedOn (disk s.line.vault) s.line.head.root path true → OnlyLooks disk count left s looked → FetchesWay disk path s looked
      → r ≡ reply.Granted (next_token s) s.line.head.revision s.line.head.root → s' ≡ with_lease looked key path → LeaseEnds disk count left key path s r s'

-- a batch was sent to the vault, and these ids were found fresh
pub record Sends {V S : Type 0} (disk : V → Option Disk) (count : V → ℕ) (left : V → ℕ → Files → Type 0) (batch : List Object) (s : StateView V S) (r : Reply) (fresh : List ObjectId) (s' : StateView V S) : Type 0 where
  pub walks : WhereTold (disk s.line.vault) (λ d. Walks disk count left on_way (Brings d batch) (IsSent d batch r fresh) d s.line.vault s'.line.vault)
  pub others : s' ≡ at_vault s s'.line.vault

-- Objects are sent under a lease. Where that isn't live or not the key's nothing changes, not even the vault, and no id is noted; else they are
-- sent to it, and noted are the ids that were found fresh.
pub data StoreEnds {V S : Type 0} (disk : V → Option Disk) (count : V → ℕ) (left : V → ℕ → Files → Type 0) (key : List ℕ) (token : Token) (digest : List ℕ) (batch : List Object) (a : Act) (s : StateView V S) (r : Reply) (s' : StateView V S) : Type 0 where
  store_refused : refusal_on (lease_of token s.leases) key ≡ Some r → a ≡ act.Store token digest [] → s' ≡ s → StoreEnds disk count left key token digest batch a s r s'
  sent : (fresh : List ObjectId) → refusal_on (lease_of token s.leases) key ≡ None → is_sending r ≡ true → a ≡ act.Store token digest fresh → Sends disk count left batch s r fresh s'
      → StoreEnds disk count left key token digest batch a s r s'

-- ---- commits

-- the record of the next revision: under this lease and this key, at this moment
abbrev pub next_record : Head → Lease → List ℕ → ℕ → Grafted → List ℕ → List ℕ → Record
next_record head lease key moment g offered tag = record {
  revision = head.revision + 1;
  previous = head.history;
  root = g.root.hash;
  offered = offered;
  token = lease.token;
  path = lease.path;
  key = key;
  time = moment;
  tag = tag;
}

-- nothing was published, and no lease ended or was granted
pub record IsUnpublished {V S : Type 0} (s s' : StateView V S) : Type 0 where
  pub records : published s'.line ≡ published s.line
  pub head : s'.line.head ≡ s.line.head
  pub leases : s'.leases ≡ s.leases
  pub moment : s'.moment ≡ s.moment
  pub next : s'.next ≡ s.next

-- one record more was published, with its head, and the lease ended
pub record IsPublished {V S : Type 0} (new : Record) (size : ℕ) (s s' : StateView V S) : Type 0 where
  pub records : published s'.line ≡ published s.line ++ new ∷ []
  pub head : s'.line.head ≡ head_with new size
  pub leases : s'.leases ≡ without new.token s.leases
  pub moment : s'.moment ≡ s.moment
  pub next : s'.next ≡ s.next
