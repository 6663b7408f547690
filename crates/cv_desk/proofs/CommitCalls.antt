-- What the calls of a commit say.
use Rattle.std.proofs.Common.{◌≡◌, ◌≢◌, true, false, Bool, ℕ, List, [], ◌∷◌, ◌++◌, refl, sym, ap, subst, ◌∙◌, inl, inr, ◌+◌, length, arith}
use Rattle.std.specs.Prelude.{MatchResult, IfOk, IfErr, OnOk, OnErr, IsTrue}
use Rattle.std.specs.Option.{option_map}
use Rattle.std.specs.declared.option.Option.{Option}
use Rattle.std.specs.declared.option.Option.TheVariants.{None, Some}
use Rattle.std.specs.declared.result.Result.{Result}
use Rattle.std.specs.declared.result.Result.TheVariants.{Ok, Err}
use Rattle.cv_base.specs.Path.{Path}
use Rattle.cv_base.specs.Marker.{marker, ends_in}
use Rattle.cv_base.specs.Told.{WhereTold}
use Rattle.cv_base.specs.ObjectId.{object_id}
use Rattle.cv_base.specs.declared.id.Kind.TheVariants.{Catalogue}
use Rattle.cv_base.specs.declared.id.ObjectId.{ObjectId}
use Rattle.cv_base.specs.declared.object.Object.{Object}
use Rattle.cv_base.specs.declared.token.Token.{Token}
use Rattle.cv_ports.specs.Calls.{RaisedAtMost}
use Rattle.cv_ports.specs.Shelf.{Shelf}
use Rattle.cv_vault.specs.Names.{on_way}
use Rattle.cv_vault.specs.Disk.{Disk, Files}
use Rattle.cv_vault.specs.Moments.{OnlyReads}
use Rattle.cv_vault.specs.Replace.{MovedIn}
use Rattle.cv_vault.specs.Walks.{Walks, ComesTo}
use Rattle.cv_vault.specs.declared.vault.VaultFault.{VaultFault}
use Rattle.cv_vault.specs.declared.vault.VaultFault.TheVariants as vault
use Rattle.cv_vault.proofs.Laws.{quiet_same}
use Rattle.cv_tree.specs.Tree.{Nodes}
use Rattle.cv_tree.specs.Changes.{has_place}
use Rattle.cv_cut.specs.Above.{replaced, cuts_above}
use Rattle.cv_cut.specs.Good.{IsGood}
use Rattle.cv_cut.specs.Means.{Means}
use Rattle.cv_cut.specs.Reached.{root_place}
use Rattle.cv_graft.specs.Both.{GraftsBoth, GivesOffered, MakesNothing}
use Rattle.cv_base.specs.Objects.{AreNamed}
use Rattle.cv_graft.specs.Graft.{Grafts, HasWay, HasWays}
use Rattle.cv_graft.specs.Way.{IsOfEither, TellsDamage}
use Rattle.cv_graft.specs.declared.grafted.Grafted.{Grafted}
use Rattle.cv_graft.specs.declared.graft_fault.GraftFault.{GraftFault}
use Rattle.cv_graft.specs.declared.graft_fault.GraftFault.TheVariants as fault
use Rattle.cv_history.specs.declared.record.Record.{Record}
use Rattle.cv_load.specs.NewFetches.{FetchesNew}
use Rattle.cv_load.specs.declared.known_set.KnownSet.{KnownSet}
use Rattle.cv_manifest.specs.declared.head.Head.{Head}
use Rattle.cv_leases.specs.Leases.{IsTable, lease_of, without}
use Rattle.cv_leases.specs.declared.lease.Lease.{Lease}
use Rattle.cv_objects.specs.Names.{standing_on}
use Rattle.cv_objects.specs.Batches.{Brings}
use Rattle.cv_objects.specs.declared.store_fault.StoreFault.{StoreFault}
use Rattle.cv_objects.proofs.Lemmas.{named_more}
use Rattle.cv_swap.specs.Kept.{object_of, head_with}
use Rattle.cv_swap.specs.Line.{LineView, LineReads, published, swapped, IsReady, IsDropped}
use Rattle.cv_swap.specs.Publishing.{Prepared}
use Rattle.cv_swap.specs.Stands.{head_name, Publishes}
use Rattle.cv_swap.specs.declared.stage.Stage.TheVariants as stage
use Rattle.cv_gate.specs.declared.reply.Reply.{Reply}
use Rattle.cv_gate.specs.declared.reply.Reply.TheVariants as reply
use Rattle.cv_desk.specs.AnswersInner.{Tells}
use Rattle.cv_desk.specs.Known.{KnowsOn}
use Rattle.cv_desk.specs.Gate.{StateView, IsSameRepository}
use Rattle.cv_desk.specs.GateInner.{IsState}
use Rattle.cv_desk.specs.Sending.{reply_of, reply_in}
use Rattle.cv_desk.specs.Committing.{FetchesOffered, IsUnfit, outside, damaged, unfit, two, one, shares, fills, HasPlaceIn, IsFit, next_record, objects_with, Readies, unmade, unprepared, prepared, Finishes, swaps, wavers, stays, opposition}
use Rattle.cv_desk.specs.CommittingInner.{CommitsUnder, opposed, readies}
use Rattle.cv_desk.proofs.Reading.{way_of}
use Rattle.cv_desk.proofs.States.{state_ended, state_same}
use Rattle.cv_desk.proofs.CommitSteps.{found_has}

-- what holds of what was answered
pub at_ok : {X E : Type 0} (P : X → Type 0) (Q : E → Type 0) (r : Result X E) (x : X) → r ≡ Ok x → MatchResult r P Q → P x
at_ok P Q r x e m = subst (λ r. MatchResult r P Q) e m

pub if_ok : {X E : Type 0} (P : X → Type 0) (r : Result X E) (x : X) → r ≡ Ok x → IfOk r P → P x
if_ok P r x e m = subst (λ r. IfOk r P) e m

pub if_err : {X E : Type 0} (P : E → Type 0) (r : Result X E) (f : E) → r ≡ Err f → IfErr r P → P f
if_err P r f e m = subst (λ r. IfErr r P) e m

pub on_ok : {X E P : Type 0} (r : Result X E) (x : X) → r ≡ Ok x → OnOk r P → P
on_ok {P = P} r x e m = subst (λ r. OnOk r P) e m

pub on_err : {X E P : Type 0} (r : Result X E) (f : E) → r ≡ Err f → OnErr r P → P
on_err {P = P} r f e m = subst (λ r. OnErr r P) e m

-- ---- a graft

-- all that a graft answers, of a shelf and the newest root
pub record GraftSays (shelf : Shelf) (newest : List ℕ) (offered : ObjectId) (path : Path) (r : Result Grafted GraftFault) : Type 0 where
  pub told : (t n : Nodes) → HasWays shelf newest offered.hash t n path → IsTrue (has_place t path) → Grafts (replaced t n path) path r
  pub way : path ≢ [] → GraftsBoth shelf newest offered.hash path r
  pub whole : path ≡ [] → GivesOffered shelf offered r
  pub parentless : (t : Nodes) → HasWay shelf newest t path → has_place t path ≡ false → MakesNothing r
  pub damaged : TellsDamage shelf (IsOfEither shelf newest offered.hash path) r

-- of the shelf that the line told before the judging
pub grafts_there : {V S : Type 0} (disk : V → Option Disk) (count : V → ℕ) (left : V → ℕ → Files → Type 0) (line judged : LineView V S) → LineReads disk count left line judged → (root : List ℕ) → root ≡ judged.head.root
    → (offered : ObjectId) (path : Path) (r x : Result Grafted GraftFault) → r ≡ x → WhereTold (option_map standing_on (disk judged.vault)) (λ standing. GraftSays standing root offered path r)
    → WhereTold (disk line.vault) (λ d. GraftSays (standing_on d) line.head.root offered path x)
grafts_there disk count left line judged reads root is offered path r x e told = λ d there.
    let same : root ≡ line.head.root = is ∙ ap (λ (l : LineView _ _). l.head.root) reads.1 in
    subst (GraftSays (standing_on d) line.head.root offered path) e
    (subst (λ h. GraftSays (standing_on d) h offered path r) same (told (standing_on d) (ap (option_map standing_on) (quiet_same reads.0 ∙ there))))

-- and of how much was fetched for it
pub grafts_fetched : {V S : Type 0} (disk : V → Option Disk) (count : V → ℕ) (left : V → ℕ → Files → Type 0) (known : KnownSet) (line judged : LineView V S) → LineReads disk count left line judged → (root : List ℕ) → root ≡ judged.head.root
    → (offered : List ℕ) (path : Path) (after : ℕ) → WhereTold (disk line.vault) (λ d. FetchesNew (standing_on d) known offered line.taken judged.taken)
    → WhereTold (disk line.vault) (λ d. IsGood (standing_on d) offered root_place)
    → RaisedAtMost (length path + length path) judged.taken after
    → WhereTold (option_map standing_on (disk judged.vault)) (λ standing. (t n : Nodes) → HasWay standing root t path → HasWay standing offered n path → RaisedAtMost (length (cuts_above n path) + length (cuts_above t path)) judged.taken after)
    → WhereTold (disk line.vault) (λ d. FetchesOffered (standing_on d) known line.head.root offered path line.taken after)
grafts_fetched disk count left known line judged reads root is offered path after judges good most told = λ d there.
    let same : line.head.root ≡ root = sym (is ∙ ap (λ (l : LineView _ _). l.head.root) reads.1) in (
      judged.taken,
      judges d there,
      most,
      inr (
        good d there,
        λ t n mt mn. told (standing_on d) (ap (option_map standing_on) (quiet_same reads.0 ∙ there)) t n
            (way_of (standing_on d) root t path (subst (λ h. Means (standing_on d) h t) same mt)) (way_of (standing_on d) offered n path mn),
      ),
    )

-- where nothing is grafted nothing more is fetched
pub judged_alone : {V S : Type 0} (disk : V → Option Disk) (known : KnownSet) (line judged : LineView V S) (offered : List ℕ) (path : Path) → WhereTold (disk line.vault) (λ d. FetchesNew (standing_on d) known offered line.taken judged.taken)
    → WhereTold (disk line.vault) (λ d. FetchesOffered (standing_on d) known line.head.root offered path line.taken judged.taken)
judged_alone disk known line judged offered path judges = λ d there. (judged.taken, judges d there, (0, omega arith, refl), inl refl)

module _ (shelf : Shelf) (newest : List ℕ) (offered : ObjectId) (path : Path) (good : IsGood shelf offered.hash root_place) where
  -- two roots that mean trees have there what a graft asks of them
  meant : (r : Result Grafted GraftFault) → GraftSays shelf newest offered path r → (t n : Nodes) → Means shelf newest t → Means shelf offered.hash n → has_place t path ≡ true → Grafts (replaced t n path) path r
  meant r h t n mt mn place = h.told t n
      (record { way = way_of shelf newest t path mt; other = way_of shelf offered.hash n path mn; top = ap (λ h. shelf (object_id h Catalogue)) mn.root ∙ mn.catalogues [] refl }) place

  -- where something is made, or paths are named, the path has a place
  has_place_in : (r : Result Grafted GraftFault) → GraftSays shelf newest offered path r → (MakesNothing r → ⊥) → HasPlaceIn shelf newest path
  has_place_in r h some t way = elim (has_place t path) as (λ b. (b ≡ false → ⊥) → b ≡ true) [
    | true ↦ λ no. refl
    | false ↦ λ no. absurd (no refl)
  ] (λ none. some (h.parentless t way none))

  pub graft_fit : (g : Grafted) → offered.kind ≡ Catalogue → GraftSays shelf newest offered path (Ok g) → IsFit shelf newest offered.hash path g
  graft_fit g kind h = record {
    good = good;
    grafts = meant (Ok g) h;
    placed = has_place_in (Ok g) h (λ x. x);
    way = h.way;
    whole = λ root. subst (λ (id : ObjectId). GivesOffered shelf id (Ok g)) (λ i. record { hash = offered.hash; kind = kind i }) (h.whole root);
  }

  pub graft_unfit : (f : GraftFault) (r : Reply) → Tells f r → GraftSays shelf newest offered path (Err f) → IsUnfit shelf newest offered.hash path r
  graft_unfit (fault.PathCollision a b) r (inl e) h =
      let both = h.way h.whole in
      unfit good (two a b both.0 both.1 both.2 both.3 e) (has_place_in (Err (fault.PathCollision a b)) h (λ x. x)) (λ t n mt mn place. shares a b (meant (Err (fault.PathCollision a b)) h t n mt mn place) e)
  graft_unfit (fault.PathCollision a b) r (inr e) h = outside (inr e)
  graft_unfit (fault.CatalogueFull c) r (inl e) h =
      let both = h.way h.whole in
      unfit good (one c both.0 both.1 both.2 both.3 e) (has_place_in (Err (fault.CatalogueFull c)) h (λ x. x))
      (λ t n mt mn place. (let g = meant (Err (fault.CatalogueFull c)) h t n mt mn place in fills c g.0 g.1 e))
  graft_unfit (fault.CatalogueFull c) r (inr e) h = outside (inr e)
  graft_unfit fault.Failed r e h = outside (inl e)
  graft_unfit (fault.Damaged id found) r e h = damaged id found h.damaged.0 h.damaged.1 e
  graft_unfit fault.NoMemory r e h = outside (inr e)

-- ---- a revision is prepared

module _ {V S : Type 0} (disk : V → Option Disk) (count : V → ℕ) (left : V → ℕ → Files → Type 0) (is_seal : S → List ℕ → List ℕ → Bool) (known : KnownSet) (lease : Lease) (key : List ℕ) (moment : ℕ) (offered tag : List ℕ) (l read l' : LineView V S)
    (g : Grafted) (head : Head) (next : Record) (others : List Object) (reads : LineReads disk count left l read) (same_head : head ≡ l.head) (is : next ≡ next_record head lease key moment g offered tag) (added : others ≡ g.added)
    (fetches : WhereTold (disk l.vault) (λ d. FetchesOffered (standing_on d) known l.head.root offered lease.path l.taken read.taken)) (fit : WhereTold (disk l.vault) (λ d. IsFit (standing_on d) l.head.root offered lease.path g)) where
  record_is : next ≡ next_record l.head lease key moment g offered tag
  record_is = is ∙ ap (λ (h : Head). next_record h lease key moment g offered tag) same_head

  batch_is : others ++ object_of next ∷ [] ≡ objects_with g (next_record l.head lease key moment g offered tag)
  batch_is = λ i. added i ++ object_of (record_is i) ∷ []

  abbrev With : List Object → Result Head StoreFault → Type 0
  With batch r = WhereTold (disk read.vault) (λ d. Walks disk count left on_way (Brings d batch) (Prepared d batch l'.manifest r) d read.vault l'.vault)

  pub readied : (r : Result Head StoreFault) (h : Head) → r ≡ Ok h → IfOk r (λ x. x ≡ head_with next g.size) → IfOk r (λ x. IsReady read next x l') → IfOk r (λ x. published l' ≡ published read)
      → IfOk r (λ x. Publishes read.name (is_seal read.signer) (Some l'.manifest) x) → With (others ++ object_of next ∷ []) r → Readies disk count left is_seal known lease key moment offered tag l l' (Ok h)
  readied r h e heads ready kept says walks =
      let to : next ≡ next_record l.head lease key moment g offered tag = record_is in
      let size : h ≡ head_with (next_record l.head lease key moment g offered tag) g.size = if_ok (λ x. x ≡ head_with next g.size) r h e heads ∙ ap (λ (x : Record). head_with x g.size) to in
      let said : Publishes l.name (is_seal l.signer) (Some l'.manifest) h =
      subst (λ (x : LineView V S). Publishes x.name (is_seal x.signer) (Some l'.manifest) h) reads.1 (if_ok (λ x. Publishes read.name (is_seal read.signer) (Some l'.manifest) x) r h e says) in
      subst (λ x. Readies disk count left is_seal known lease key moment offered tag l l' (Ok x)) (sym size) (prepared read g reads fetches fit
      (if_ok (λ x. published l' ≡ published read) r h e kept ∙ ap (λ (x : LineView V S). published x) reads.1)
      (subst (λ x. IsReady read (next_record l.head lease key moment g offered tag) x l') size (subst (λ (x : Record). IsReady read x h l') to (if_ok (λ x. IsReady read next x l') r h e ready)))
      (subst (λ x. Publishes l.name (is_seal l.signer) (Some l'.manifest) x) size said)
      (subst (λ b. With b (Ok (head_with (next_record l.head lease key moment g offered tag) g.size))) batch_is (subst (With (others ++ object_of next ∷ [])) (e ∙ ap Ok size) walks)))

  pub refused : (r : Result Head StoreFault) (f : StoreFault) → r ≡ Err f → IsDropped read l' → AreNamed g.added → With (others ++ object_of next ∷ []) r → (a : Reply) → a ≡ reply_of f
      → Readies disk count left is_seal known lease key moment offered tag l l' (Err a)
  refused r f e dropped own walks a told = subst (λ x. Readies disk count left is_seal known lease key moment offered tag l l' (Err x)) (sym told)
      (unprepared read g f reads fetches fit dropped (named_more g.added (object_of (next_record l.head lease key moment g offered tag)) (record { each = own.each }) refl)
      (subst (λ b. With b (Err f)) batch_is (subst (With (others ++ object_of next ∷ [])) e walks)))

-- the line is of the same repository, whatever was answered
pub readies_same : {V S : Type 0} (disk : V → Option Disk) (count : V → ℕ) (left : V → ℕ → Files → Type 0) (is_seal : S → List ℕ → List ℕ → Bool) (known : KnownSet) (lease : Lease) (key : List ℕ) (moment : ℕ) (offered tag : List ℕ) (l l' : LineView V S)
    (r : Result Head Reply) → Readies disk count left is_seal known lease key moment offered tag l l' r → IsSameRepository l l'
readies_same disk count left is_seal known lease key moment offered tag l l' _ (unmade r kind reads fetches why) = record {
  name_ = ap (λ (x : LineView _ _). x.name) reads.1;
  signer_ = ap (λ (x : LineView _ _). x.signer) reads.1;
  epoch_ = ap (λ (x : LineView _ _). x.epoch) reads.1;
}
readies_same disk count left is_seal known lease key moment offered tag l l' _ (unprepared read g f reads fetches fit dropped named w) = record {
  name_ = dropped.others.name_ ∙ ap (λ (x : LineView _ _). x.name) reads.1;
  signer_ = dropped.others.signer_ ∙ ap (λ (x : LineView _ _). x.signer) reads.1;
  epoch_ = dropped.others.epoch_ ∙ ap (λ (x : LineView _ _). x.epoch) reads.1;
}
readies_same disk count left is_seal known lease key moment offered tag l l' _ (prepared read g reads fetches fit records ready says w) = record {
  name_ = ready.others.name_ ∙ ap (λ (x : LineView _ _). x.name) reads.1;
  signer_ = ready.others.signer_ ∙ ap (λ (x : LineView _ _). x.signer) reads.1;
  epoch_ = ready.others.epoch_ ∙ ap (λ (x : LineView _ _). x.epoch) reads.1;
}

-- ---- a lease of the table

pub found_unmarked : (leases : List Lease) (token : Token) (lease : Lease) → IsTable leases → lease_of token leases ≡ Some lease → ends_in marker lease.path ≡ false
found_unmarked leases token lease table found = found_has (λ l. ends_in marker l.path ≡ false) token leases lease found table.paths

-- what holds of a state holds of it over another line of the same epoch, with a lease less
pub state_ended_over : {V S : Type 0} (s s' : StateView V S) → IsState s → (token : Token) → s'.leases ≡ without token s.leases → s'.moment ≡ s.moment → s'.next ≡ s.next → s'.line.epoch ≡ s.line.epoch → IsState s'
state_ended_over s s' h token leases moment next epoch = state_same (record s { leases = without token s.leases }) s' (state_ended s (record s { leases = without token s.leases }) h token refl) leases moment next epoch

-- a head that doesn't come leaves the epoch
pub epoch_kept : {V S : Type 0} (line l : LineView V S) (r : Result (Unit {0}) VaultFault) (f : VaultFault) → r ≡ Err f → (r ≡ Err vault.Failed → l ≡ record line { vault = l.vault; stage = stage.Doubtful }) → (r ≡ Err vault.NoMemory → l ≡ record line { vault = l.vault })
    → l.epoch ≡ line.epoch
epoch_kept line l r vault.Failed e failed lacking = ap (λ (x : LineView _ _). x.epoch) (failed e)
epoch_kept line l r vault.NoMemory e failed lacking = ap (λ (x : LineView _ _). x.epoch) (lacking e)

-- ---- a state as the body has it

module _ {V S : Type 0} (disk : V → Option Disk) (count : V → ℕ) (left : V → ℕ → Files → Type 0) (is_seal : S → List ℕ → List ℕ → Bool) (s : StateView V S) (line : LineView V S) (leases : List Lease) (moment next : ℕ) (known : KnownSet)
    (is : record { line = line; leases = leases; moment = moment; next = next; known = known } ≡ s) where
  abbrev over : LineView V S → List Lease → StateView V S
  over l ls = record { line = l; leases = ls; moment = moment; next = next; known = known }

  -- the head is swapped in, or isn't
  module _ (token : Token) (l : LineView V S) where
    abbrev Moves : Result (Unit {0}) VaultFault → Type 0
    Moves r = WhereTold (disk line.vault) (λ d. Walks disk count left on_way (ComesTo head_name (Some line.manifest)) (MovedIn d head_name line.manifest r) d line.vault l.vault)

    pub ends_well : (r : Result (Unit {0}) VaultFault) (x : Unit {0}) → r ≡ Ok x → OnOk r (l ≡ swapped line l.vault) → (ls : List Lease) → ls ≡ without token leases → Moves r → (head : Head) → head ≡ l.head
        → (o : Reply) → o ≡ reply.Committed head.revision head.root → Finishes disk count left token s o (over l ls)
    ends_well r x e ok ls ended moves head newest o told =
        let is_next : head ≡ line.next_head = newest ∙ ap (λ (y : LineView V S). y.head) (on_ok r x e ok) in
        subst (λ (y : StateView V S). Finishes disk count left token y o (over l ls)) is
        (swaps (subst Moves e moves) (told ∙ (λ i. reply.Committed (is_next i).revision (is_next i).root)) (λ i. over (on_ok r x e ok i) (ended i)))

    pub ends_badly : (r : Result (Unit {0}) VaultFault) (f : VaultFault) → r ≡ Err f → (r ≡ Err vault.Failed → l ≡ record line { vault = l.vault; stage = stage.Doubtful }) → (r ≡ Err vault.NoMemory → l ≡ record line { vault = l.vault })
        → (r ≡ Err vault.NoMemory → OnlyReads disk count left line.vault l.vault) → Moves r
        → (o : Reply) → o ≡ reply_in f → Finishes disk count left token s o (over l leases)
    ends_badly r vault.Failed e failed lacking reads moves o told = subst (λ (y : StateView V S). Finishes disk count left token y o (over l leases)) is
        (wavers (subst Moves e moves) told (λ i. over (failed e i) leases))
    ends_badly r vault.NoMemory e failed lacking reads moves o told = subst (λ (y : StateView V S). Finishes disk count left token y o (over l leases)) is
        (stays (subst Moves e moves) (reads e) told (λ i. over (lacking e i) leases))

  -- a commit under the lease that the token finds
  module _ (token : Token) (mine : Lease) (found : lease_of token leases ≡ Some mine) (key old_root offered tag : List ℕ) where
    the_lease : (lease : Lease) → lease_of token s.leases ≡ Some lease → mine ≡ lease
    the_lease lease there = let both : Some mine ≡ Some lease = sym found ∙ ap (λ (x : StateView V S). lease_of token x.leases) is ∙ there in cc

    abbrev Under : Result Head Reply → StateView V S → Type 0
    Under r s' = (lease : Lease) → lease_of token s.leases ≡ Some lease → CommitsUnder disk count left is_seal lease key old_root offered tag s r s'

    under : (r : Result Head Reply) (s' : StateView V S) → CommitsUnder disk count left is_seal mine key old_root offered tag (over line leases) r s' → Under r s'
    under r s' does = λ lease there. subst (λ x. CommitsUnder disk count left is_seal x key old_root offered tag s r s') (the_lease lease there)
        (subst (λ (y : StateView V S). CommitsUnder disk count left is_seal mine key old_root offered tag y r s') is does)

    pub opposes : (r : Reply) → opposition line mine.from_revision old_root tag ≡ Some r → Under (Err r) s
    opposes r why = subst (λ (y : StateView V S). Under (Err r) y) is (under (Err r) (over line leases) (opposed r why refl refl))

    pub made_ready : (l : LineView V S) (more : KnownSet) (r : Result Head Reply) → opposition line mine.from_revision old_root tag ≡ None → Readies disk count left is_seal known mine key moment offered tag line l r
        → KnowsOn disk line.vault known offered r more → Under r (record (over l leases) { known = more })
    made_ready l more r none got knows = under r (record (over l leases) { known = more }) (readies l more none got knows refl)
