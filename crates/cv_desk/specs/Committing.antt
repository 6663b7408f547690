-- What a commit does inside a step.
use Rattle.std.specs.Prelude.{◌≡◌, ◌≢◌, ◌⊎◌, ◌+◌, ℕ, Bool, true, List, [], ◌∷◌, ◌++◌, length}
use Rattle.std.specs.declared.option.Option.{Option}
use Rattle.std.specs.declared.option.Option.TheVariants.{None, Some}
use Rattle.std.specs.declared.result.Result.{Result}
use Rattle.std.specs.declared.result.Result.TheVariants.{Ok, Err}
use Rattle.cv_base.specs.Path.{Path}
use Rattle.cv_base.specs.Told.{WhereTold}
use Rattle.cv_base.specs.ObjectId.{object_id}
use Rattle.cv_base.specs.declared.id.Kind.TheVariants.{Catalogue}
use Rattle.cv_base.specs.declared.id.ObjectId.{ObjectId}
use Rattle.cv_base.specs.declared.object.Object.{Object}
use Rattle.cv_base.specs.declared.token.Token.{Token}
use Rattle.cv_ports.specs.Calls.{RaisedAtMost}
use Rattle.cv_ports.specs.Shelf.{Shelf, HasOtherDigest}
use Rattle.cv_vault.specs.Names.{on_way}
use Rattle.cv_vault.specs.Disk.{Disk, Files}
use Rattle.cv_vault.specs.Moments.{OnlyReads}
use Rattle.cv_vault.specs.Replace.{MovedIn}
use Rattle.cv_vault.specs.Walks.{Walks, ComesTo}
use Rattle.cv_vault.specs.declared.vault.VaultFault.{VaultFault}
use Rattle.cv_vault.specs.declared.vault.VaultFault.TheVariants as vault
use Rattle.cv_tree.specs.Tree.{Nodes}
use Rattle.cv_tree.specs.Changes.{has_place}
use Rattle.cv_rows.specs.Catalogue.{Contents}
use Rattle.cv_cut.specs.Above.{replaced, cuts_above}
use Rattle.cv_cut.specs.Catalogues.{SharesKey, IsFull}
use Rattle.cv_cut.specs.Good.{IsGood}
use Rattle.cv_cut.specs.Means.{Means}
use Rattle.cv_cut.specs.Opening.{MayFail}
use Rattle.cv_cut.specs.Reached.{root_place}
use Rattle.cv_cut.specs.declared.load_fault.LoadFault.{LoadFault}
use Rattle.cv_cut.specs.declared.load_fault.LoadFault.TheVariants as load
use Rattle.cv_load.specs.NewFetches.{FetchesNew}
use Rattle.cv_load.specs.declared.known_set.KnownSet.{KnownSet}
use Rattle.cv_graft.specs.Both.{IsGrafted, HasBoth, GivesOffered}
use Rattle.cv_graft.specs.Graft.{Grafts, HasWay}
use Rattle.cv_graft.specs.Joins.{CollidesAt, IsFullAt}
use Rattle.cv_graft.specs.Way.{IsOfEither}
use Rattle.cv_graft.specs.declared.grafted.Grafted.{Grafted}
use Rattle.cv_history.specs.declared.record.Record.{Record}
use Rattle.cv_manifest.specs.declared.head.Head.{Head}
use Rattle.cv_leases.specs.Leases.{lease_of, without}
use Rattle.cv_leases.specs.declared.lease.Lease.{Lease}
use Rattle.cv_objects.specs.Names.{standing_on}
use Rattle.cv_base.specs.Objects.{AreNamed}
use Rattle.cv_objects.specs.Batches.{Brings}
use Rattle.cv_objects.specs.declared.store_fault.StoreFault.{StoreFault}
use Rattle.cv_swap.specs.Kept.{object_of, head_with}
use Rattle.cv_swap.specs.Line.{LineView, published, swapped, LineReads, IsReady, IsDropped}
use Rattle.cv_swap.specs.Publishing.{Prepared}
use Rattle.cv_swap.specs.Stands.{head_name, Publishes}
use Rattle.cv_swap.specs.declared.stage.Stage.TheVariants as stage
use Rattle.cv_gate.specs.Step.{IsFault}
use Rattle.cv_gate.specs.declared.reply.Reply.{Reply}
use Rattle.cv_gate.specs.declared.reply.Reply.TheVariants as reply
use Rattle.cv_desk.specs.Views.{StateView}
use Rattle.cv_desk.specs.Known.{KnowsOn}
use Rattle.cv_desk.specs.Sending.{reply_of}
pub use Rattle.cv_desk.specs.Ends.{next_record}
use Rattle.cv_desk.specs.Ends.{IsUnpublished, IsPublished}
pub use Rattle.cv_desk.specs.Refusals.{has_base, holder_of, taken_by, opposition_by, opposition}
use Rattle.cv_desk.specs.Refusals.{refusal_on, is_unmade}

-- ---- the offered tree

-- how a fault of the offered tree is answered
abbrev pub reply_at : LoadFault → Reply
reply_at (load.Missing id) = reply.MissingObject id
reply_at (load.Bad id) = reply.BadCatalogue id
reply_at load.Failed = reply.StoreFailed
reply_at (load.Damaged id found) = reply.Damaged id found
reply_at load.NoMemory = reply.NoMemory

-- the new tree doesn't fit, and the reply says why
pub data WhyUnfit (t : Nodes) (r : Reply) : Type 0 where
  shares : (a b : Path) → SharesKey t a b → r ≡ reply.PathCollision a b → WhyUnfit t r
  fills : (c : Path) → IsFull t c → ((a b : Path) → SharesKey t a b → ⊥) → r ≡ reply.CatalogueFull c → WhyUnfit t r

-- The reply refuses the new tree by paths of it: what the catalogue that directly holds the path in the newest tree keeps, and what the one in
-- the offered tree has at the path, clash or are too much for one catalogue.
pub data RefusesBoth (shelf : Shelf) (newest offered : List ℕ) (path : Path) (r : Reply) : Type 0 where
  two : (a b : Path) (c o : Contents) → HasBoth shelf newest offered path c o → CollidesAt c o path a b → r ≡ reply.PathCollision a b → RefusesBoth shelf newest offered path r
  one : (d : Path) (c o : Contents) → HasBoth shelf newest offered path c o → IsFullAt c o path d → r ≡ reply.CatalogueFull d → RefusesBoth shelf newest offered path r

-- where the newest root means a tree on the way to the path, the path has a place there
abbrev pub HasPlaceIn : Shelf → List ℕ → Path → Type 0
HasPlaceIn shelf newest path = (t : Nodes) → HasWay shelf newest t path → has_place t path ≡ true

-- Why no tree is made of the newest root and the offered one: the disk failed or memory was wanted, the offered root means none, a
-- catalogue on the way to the path in either has other bytes than its hash says, or the new tree doesn't fit, by the catalogues on both
-- ways, whether or not the newest root means a tree.
pub data IsUnfit (shelf : Shelf) (newest offered : List ℕ) (path : Path) (r : Reply) : Type 0 where
  outside : IsFault r → IsUnfit shelf newest offered path r
  meaningless : (fault : LoadFault) → MayFail shelf offered fault → r ≡ reply_at fault → IsUnfit shelf newest offered path r
  damaged : (id : ObjectId) (found : List ℕ) → IsOfEither shelf newest offered path id → HasOtherDigest shelf id found → r ≡ reply.Damaged id found → IsUnfit shelf newest offered path r
  unfit : IsGood shelf offered root_place → RefusesBoth shelf newest offered path r → HasPlaceIn shelf newest path → ((t n : Nodes) → Means shelf newest t → Means shelf offered n → has_place t path ≡ true → WhyUnfit (replaced t n path) r) → IsUnfit shelf newest offered path r

-- The offered root is good, and the new tree has this root and these catalogues. Whether or not the newest root means a tree, they are what
-- comes of the catalogues on both ways to the path; and at the root the offered one as it is.
pub record IsFit (shelf : Shelf) (newest offered : List ℕ) (path : Path) (g : Grafted) : Type 0 where
  pub good : IsGood shelf offered root_place
  pub grafts : (t n : Nodes) → Means shelf newest t → Means shelf offered n → has_place t path ≡ true → Grafts (replaced t n path) path (Ok g)
  pub placed : HasPlaceIn shelf newest path
  pub way : path ≢ [] → IsGrafted shelf newest offered path g
  pub whole : path ≡ [] → GivesOffered shelf (object_id offered Catalogue) (Ok g)

-- What was fetched to judge the offered root: of the catalogues that are reached from it through unknown ones, no two at one path; nothing
-- where it is known. And then, to graft it, at most as many as the path has names, in each tree: nothing more; or the root is good, and where
-- both roots mean trees, no more than the catalogues properly above the path in the one and in the other.
abbrev pub FetchesOffered : Shelf → KnownSet → List ℕ → List ℕ → Path → ℕ → ℕ → Type 0
FetchesOffered shelf known newest offered path before after = (judged : ℕ) × FetchesNew shelf known offered before judged × RaisedAtMost (length path + length path) judged after × ((after ≡ judged) ⊎ (IsGood shelf offered root_place
    × ((t n : Nodes) → Means shelf newest t → Means shelf offered n → RaisedAtMost (length (cuts_above n path) + length (cuts_above t path)) judged after)))

-- ---- the new revision

-- its objects, in the order in which they are brought
abbrev pub objects_with : Grafted → Record → List Object
objects_with g next = g.added ++ object_of next ∷ []

-- ---- it ends

module _ {V S : Type 0} (disk : V → Option Disk) (count : V → ℕ) (left : V → ℕ → Files → Type 0) where
  -- the head of the line that is ready comes to its name
  abbrev pub Swaps : LineView V S → V → Result (Unit {0}) VaultFault → Type 0
  Swaps l v r = WhereTold (disk l.vault) (λ d. Walks disk count left on_way (ComesTo head_name (Some l.manifest)) (MovedIn d head_name l.manifest r) d l.vault v)

  -- How a commit that is ready ends: its head came and its lease ended, or it is in doubt; or memory was wanted, and nothing was done but
  -- reads of the vault, so that a crash leaves what it might have left before.
  pub data Finishes (token : Token) (s : StateView V S) (r : Reply) (s' : StateView V S) : Type 0 where
    swaps : Swaps s.line s'.line.vault (Ok tt) → r ≡ reply.Committed s.line.next_head.revision s.line.next_head.root
        → s' ≡ record s { line = swapped s.line s'.line.vault; leases = without token s.leases } → Finishes token s r s'
    wavers : Swaps s.line s'.line.vault (Err vault.Failed) → r ≡ reply.StoreFailed
        → s' ≡ record s { line = record s.line { vault = s'.line.vault; stage = stage.Doubtful } } → Finishes token s r s'
    stays : Swaps s.line s'.line.vault (Err vault.NoMemory) → OnlyReads disk count left s.line.vault s'.line.vault → r ≡ reply.NoMemory
        → s' ≡ record s { line = record s.line { vault = s'.line.vault } } → Finishes token s r s'

-- ---- it is made ready

module _ {V S : Type 0} (disk : V → Option Disk) (count : V → ℕ) (left : V → ℕ → Files → Type 0) (is_seal : S → List ℕ → List ℕ → Bool) where
  -- all of a revision but its head is brought to the vault, by what is known of the offered tree; or why it isn't
  pub data Readies (known : KnownSet) (lease : Lease) (key : List ℕ) (moment : ℕ) (offered tag : List ℕ) (l l' : LineView V S) : Result Head Reply → Type 0 where
    unmade : (r : Reply) → is_unmade r ≡ true → LineReads disk count left l l' → WhereTold (disk l.vault) (λ d. FetchesOffered (standing_on d) known l.head.root offered lease.path l.taken l'.taken)
        → WhereTold (disk l.vault) (λ d. IsUnfit (standing_on d) l.head.root offered lease.path r) → Readies known lease key moment offered tag l l' (Err r)
    unprepared : (looked : LineView V S) (g : Grafted) (fault : StoreFault) → LineReads disk count left l looked → WhereTold (disk l.vault) (λ d. FetchesOffered (standing_on d) known l.head.root offered lease.path l.taken looked.taken)
        → WhereTold (disk l.vault) (λ d. IsFit (standing_on d) l.head.root offered lease.path g) → IsDropped looked l'
        → AreNamed (objects_with g (next_record l.head lease key moment g offered tag))
        → WhereTold (disk looked.vault) (λ d. Walks disk count left on_way (Brings d (objects_with g (next_record l.head lease key moment g offered tag)))
        (Prepared d (objects_with g (next_record l.head lease key moment g offered tag)) l'.manifest {X = Head} (Err fault)) d looked.vault l'.vault)
        → Readies known lease key moment offered tag l l' (Err (reply_of fault))
    prepared : (looked : LineView V S) (g : Grafted) → LineReads disk count left l looked → WhereTold (disk l.vault) (λ d. FetchesOffered (standing_on d) known l.head.root offered lease.path l.taken looked.taken)
        → WhereTold (disk l.vault) (λ d. IsFit (standing_on d) l.head.root offered lease.path g)
        → published l' ≡ published l → IsReady looked (next_record l.head lease key moment g offered tag) (head_with (next_record l.head lease key moment g offered tag) g.size) l'
        → Publishes l.name (is_seal l.signer) (Some l'.manifest) (head_with (next_record l.head lease key moment g offered tag) g.size)
        → WhereTold (disk looked.vault) (λ d. Walks disk count left on_way (Brings d (objects_with g (next_record l.head lease key moment g offered tag)))
        (Prepared d (objects_with g (next_record l.head lease key moment g offered tag)) l'.manifest {X = Head} (Ok (head_with (next_record l.head lease key moment g offered tag) g.size))) d looked.vault l'.vault)
        → Readies known lease key moment offered tag l l' (Ok (head_with (next_record l.head lease key moment g offered tag) g.size))

  -- how a commit ends that isn't published: it isn't made ready, or its head doesn't come
  abbrev pub Fails : Token → StateView V S → Result Head Reply → Reply → StateView V S → Type 0
  Fails token s (Ok head) r s' = Finishes disk count left token s r s'
  Fails token s (Err x) r s' = (r ≡ x) × (s' ≡ s)

  -- A commit is asked. Where its lease isn't live or not the key's, or the published revisions oppose it, nothing changes, not even the
  -- vault; else it is made ready or isn't, by what stands on the disk, and its revision is published or isn't.
  pub data CommitEnds (key : List ℕ) (token : Token) (old_root offered tag : List ℕ) (s : StateView V S) (r : Reply) (s' : StateView V S) : Type 0 where
    commit_refused : refusal_on (lease_of token s.leases) key ≡ Some r → s' ≡ s → CommitEnds key token old_root offered tag s r s'
    commit_opposed : (lease : Lease) → refusal_on (lease_of token s.leases) key ≡ None → lease_of token s.leases ≡ Some lease
        → opposition s.line lease.from_revision old_root tag ≡ Some r → s' ≡ s → CommitEnds key token old_root offered tag s r s'
    unpublished : (lease : Lease) (l : LineView V S) (more : KnownSet) (x : Result Head Reply) → refusal_on (lease_of token s.leases) key ≡ None → lease_of token s.leases ≡ Some lease
        → opposition s.line lease.from_revision old_root tag ≡ None → Readies s.known lease key s.moment offered tag s.line l x
        → KnowsOn disk s.line.vault s.known offered x more → Fails token (record s { line = l; known = more }) x r s'
        → is_unmade r ≡ true → IsUnpublished s s' → CommitEnds key token old_root offered tag s r s'
    commit_published : (lease : Lease) (g : Grafted) (l : LineView V S) → refusal_on (lease_of token s.leases) key ≡ None → lease_of token s.leases ≡ Some lease
        → opposition s.line lease.from_revision old_root tag ≡ None → WhereTold (disk s.line.vault) (λ d. IsFit (standing_on d) s.line.head.root offered lease.path g)
        → Readies s.known lease key s.moment offered tag s.line l (Ok (head_with (next_record s.line.head lease key s.moment g offered tag) g.size))
        → KnowsOn {X = Head} disk s.line.vault s.known offered (Ok (head_with (next_record s.line.head lease key s.moment g offered tag) g.size)) s'.known → Swaps disk count left l s'.line.vault (Ok tt)
        → s'.line ≡ swapped l s'.line.vault → r ≡ reply.Committed (s.line.head.revision + 1) g.root.hash → IsPublished (next_record s.line.head lease key s.moment g offered tag) g.size s s' → CommitEnds key token old_root offered tag s r s'
