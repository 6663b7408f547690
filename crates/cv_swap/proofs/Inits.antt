-- A repository is made, call by call.
use Rattle.std.proofs.Common.{◌≡◌, ◌≢◌, ◌⊎◌, ℕ, Bool, true, false, List, [], ◌∷◌, refl, sym, ap, subst, ◌∙◌, inl, inr, arith}
use Rattle.std.specs.Prelude.{IsErrAnd, if◌then◌else◌}
use Rattle.std.proofs.lemmas.Option.{same_Some}
use Rattle.std.specs.List.{Contains}
use Rattle.std.specs.declared.option.Option.{Option}
use Rattle.std.specs.declared.option.Option.TheVariants.{None, Some}
use Rattle.std.specs.declared.result.Result.{Result}
use Rattle.std.specs.declared.result.Result.TheVariants.{Ok, Err}
use Rattle.sha1.specs.Sha1.{sha1}
use Rattle.cv_base.specs.Told.{WhereTold}
use Rattle.cv_base.specs.ObjectId.{file_name}
use Rattle.cv_base.specs.declared.id.ObjectId.{ObjectId}
use Rattle.cv_base.specs.declared.object.Object.{Object}
use Rattle.cv_base.proofs.Laws.{one_file_name}
use Rattle.cv_base.specs.Moment.{IsMoment}
use Rattle.cv_ports.specs.Shelf.{Shelf, IsShelf}
use Rattle.cv_vault.specs.declared.vault.VaultFault.{VaultFault}
use Rattle.cv_vault.specs.declared.vault.VaultFault.TheVariants as vault
use Rattle.cv_vault.specs.Names.{Name, on_way}
use Rattle.cv_vault.specs.Disk.{Disk, File, Files, ImageOf, IsCalm, May, files_now}
use Rattle.cv_vault.specs.Moments.{OnlyReads, LeavesOnly}
use Rattle.cv_vault.specs.Walks.{Change, Stays, Comes, Gains, Within, Nothing, ComesTo}
use Rattle.cv_vault.proofs.Laws.{may_before, leaves_more, leaves_then, gains_none, gains_then, gains_more, within_then, within_more, quiet_walks, quiet_same}
use Rattle.cv_objects.specs.Names.{standing_on, objects_of, is_digest}
use Rattle.cv_objects.specs.Batches.{HaveHashes}
use Rattle.cv_objects.specs.declared.store_fault.StoreFault.{StoreFault}
use Rattle.cv_objects.specs.declared.store_fault.StoreFault.TheVariants as store
use Rattle.cv_objects.proofs.Lemmas.{digest_back, is_digest_of, standing_is}
use Rattle.cv_swap.specs.Kept.{head_of, record_object}
use Rattle.cv_swap.specs.Stands.{Stands, CanBegin, Publishes, first_kept, head_name, epoch_name}
use Rattle.cv_swap.specs.First.{first_tree, first_revision, first_batch}
use Rattle.cv_swap.specs.Publishing.{BringsFirst, an_object, the_epoch}
use Rattle.cv_swap.specs.PublishingInner.{BringsAll, AreBuilt, WhileFirst, FirstLeaves, Inited, Inits, comes_before, comes_last, before_head, with_head}
use Rattle.cv_swap.specs.Faults.{init_fault_of, init_fault_in}
use Rattle.cv_swap.specs.Init.{StandsFirst, HasFirst, BringsRevision, before_it, the_head, WhileInit, InitLeaves, not_yet, whole, Answers, Makes, MakesFirst}
use Rattle.cv_swap.specs.declared.init_fault.InitFault.{InitFault}
use Rattle.cv_swap.specs.declared.init_fault.InitFault.TheVariants as init_fault
use Rattle.cv_swap.proofs.Names.{head_not_data, epoch_not_data, epoch_not_head}
use Rattle.cv_swap.proofs.Named.{first_named}
use Rattle.cv_swap.proofs.Begins.{within_beside, gains_beside, first_before, first_between, first_leaves, first_makes}
use Rattle.cv_swap.proofs.FirstSound.{first_sound, first_batch_is}
use Rattle.cv_cut.specs.Cut.{catalogue_object}

pub store_fault : {T : Type 0} (r : Result T InitFault) (x : StoreFault) → IsErrAnd r (λ e. e ≡ init_fault_of x) → r ≡ Err (init_fault_of x)
store_fault (Ok t) x h = absurd h
store_fault (Err e) x h = ap Err h

pub vault_fault : {T : Type 0} (r : Result T InitFault) (x : VaultFault) → IsErrAnd r (λ e. e ≡ init_fault_in x) → r ≡ Err (init_fault_in x)
vault_fault (Ok t) x h = absurd h
vault_fault (Err e) x h = ap Err h

pub same_fault : {T : Type 0} (r : Result T InitFault) (x : InitFault) → IsErrAnd r (λ e. e ≡ x) → r ≡ Err x
same_fault (Ok t) x h = absurd h
same_fault (Err e) x h = ap Err h

-- ---- what is built is a sound shelf

built_shelf : (d d1 : Disk) (now : ℕ) → HaveHashes (files_now d) → Gains on_way (BringsFirst d (first_batch now)) d d1 → IsShelf (standing_on d1)
built_shelf d d1 now hashed g = record { hash = λ id bytes e. by id bytes (is_digest id.hash) refl e }
  where
    changed : (id : ObjectId) (bytes : List ℕ) → is_digest id.hash ≡ true → Change (BringsFirst d (first_batch now) (file_name id)) (d (file_name id)) (d1 (file_name id)) → (d1 (file_name id)).now ≡ Some bytes → id.hash ≡ sha1 bytes
    changed id bytes digest (Stays s l) e = sym (hashed.each id (digest_back id.hash digest) bytes (sym s ∙ e))
    changed id bytes digest (Comes (an_object b) l) e =
        let is : id ≡ b.object.id = one_file_name id b.object.id (digest_back id.hash digest) (is_digest_of (first_batch now) b.object (first_named now) b.among) b.one.name in
        ap (λ (x : ObjectId). x.hash) is ∙ (first_named now).each b.object b.among ∙ ap sha1 (same_Some _ _ (sym b.one.file ∙ e))
    changed id bytes digest (Comes (the_epoch c) l) e = absurd (epoch_not_data id (sym c.0))

    by : (id : ObjectId) (bytes : List ℕ) (b : Bool) → is_digest id.hash ≡ b → standing_on d1 id ≡ Some bytes → id.hash ≡ sha1 bytes
    by id bytes true digest e = changed id bytes digest (g.each (file_name id) refl) (sym (standing_is d1 id (digest_back id.hash digest)) ∙ e)
    by id bytes false digest e = absurd (let k : None ≡ Some bytes = sym (ap (λ (b : Bool). if b then (d1 (file_name id)).now else None) digest) ∙ e in cc)

first_can : (name : List ℕ) (is_seal : List ℕ → List ℕ → Bool) (d d1 : Disk) (now : ℕ) (manifest : List ℕ) → IsMoment now → HaveHashes (files_now d) → Gains on_way (BringsFirst d (first_batch now)) d d1 → AreBuilt (first_batch now) d1
    → Publishes name is_seal (Some manifest) (head_of (first_revision now)) → CanBegin name is_seal d1 (first_revision now) manifest
first_can name is_seal d d1 now manifest limit hashed g are says = record {
  sound = first_sound (standing_on d1) now limit (built_shelf d d1 now hashed g) (on_shelf catalogue (there catalogue (0, omega arith, refl))) (on_shelf (record_object (first_revision now)) (there (record_object (first_revision now)) (1, omega arith, refl)));
  says = says;
}
  where
    catalogue : Object
    catalogue = catalogue_object (first_tree now) []

    there : (o : Object) → Contains (catalogue ∷ record_object (first_revision now) ∷ []) o → Contains (first_batch now) o
    there o h = subst (λ (xs : List Object). Contains xs o) (sym (first_batch_is now)) h

    on_shelf : (o : Object) → Contains (first_batch now) o → standing_on d1 o.id ≡ Some o.bytes
    on_shelf o h = standing_is d1 o.id (is_digest_of (first_batch now) o (first_named now) h) ∙ are.has.each o h

-- on the shelf of the files themselves
stands_first : (name : List ℕ) (is_seal : List ℕ → List ℕ → Bool) (d1 : Disk) (now : ℕ) (f : Files) → Stands name is_seal f (first_kept d1 (first_revision now)) → StandsFirst name is_seal now f
stands_first name is_seal d1 now f s =
    let shelves : standing_on d1 ≡ objects_of f = (λ i id. s.shelf id i) in
    subst (λ (x : Shelf). Stands name is_seal f (record { history = first_revision now ∷ []; shelf = x; epoch = 0 })) shelves s

-- where all but the head was built, and no file changed but the head's, what the head reaches is there
has_first : (built : Disk) (now : ℕ) (f : Files) → AreBuilt (first_batch now) built → ((n : Name) → on_way n ≡ false → head_name ≢ n → f n ≡ (built n).now) → HasFirst now f
has_first built now f are same = record {
  objects = λ o h. same (file_name o.id) refl (head_not_data o.id) ∙ are.has.each o h;
  epoch = same epoch_name refl (λ e. epoch_not_head (sym e)) ∙ are.sure.there;
}

-- ---- crashes

-- what comes with the manifest's text comes with the first revision
comes_with : (name : List ℕ) (is_seal : List ℕ → List ℕ → Bool) (now : ℕ) (manifest : List ℕ) (d : Disk) → Publishes name is_seal (Some manifest) (head_of (first_revision now))
    → (n : Name) (f : File) → BringsAll d (first_batch now) manifest n f → BringsRevision name is_seal now d n f
comes_with name is_seal now manifest d says n f (comes_before b) = before_it b
comes_with name is_seal now manifest d says n f (comes_last c) = the_head c.0 (subst (λ (x : File). Publishes name is_seal x (head_of (first_revision now))) (sym c.1) says)

-- the head didn't come yet
while_before : (manifest : List ℕ) (d built : Disk) (batch : List Object) (f : Files) → Gains on_way (BringsFirst d batch) d built → Within on_way (ComesTo head_name (Some manifest)) built f → May (built head_name) (f head_name) → Within on_way (BringsFirst d batch) d f
while_before manifest d built batch f gains within old = record {
  each = λ n w. elim (within.each n w) [
    | inl m ↦ may_before (gains.each n w) (f n) m
    | inr c ↦ subst (λ (x : Name). May (d x) (f x) ⊎ BringsFirst d batch x (f x)) (sym c.0) (may_before (gains.each head_name refl) (f head_name) old)
  ];
}

first_while : (name : List ℕ) (is_seal : List ℕ → List ℕ → Bool) (now : ℕ) (manifest : List ℕ) (d : Disk) (f : Files) → IsMoment now → (d head_name).now ≡ None
    → Publishes name is_seal (Some manifest) (head_of (first_revision now)) → WhileFirst d (first_batch now) manifest f → WhileInit name is_seal now d f
first_while name is_seal now manifest d f limit none says (before_head within) = not_yet within
first_while name is_seal now manifest d f limit none says (with_head built are gains within) = elim (within.each head_name refl) [
  | inl old ↦ not_yet (while_before manifest d built (first_batch now) f gains within old)
  | inr came ↦ whole
      (within_more (comes_with name is_seal now manifest d says) f (within_then (gains_more (λ n g b. comes_before b) gains) f (within_more (λ n g c. comes_last c) f within)))
      (subst (λ (x : File). Publishes name is_seal x (head_of (first_revision now))) (sym came.1) says)
      (has_first built now f are (within_beside built (Some manifest) f are.sure.calm within))
      (λ hashed. elim (first_leaves name is_seal built (first_revision now) manifest are.sure (first_between d built (first_batch now) none gains) (first_can name is_seal d built now manifest limit hashed gains are says) f within) [
        | inl not ↦ absurd (let k : None ≡ Some manifest = sym not ∙ came.1 in cc)
        | inr s ↦ stands_first name is_seal built now f s
      ])
]

-- from a settled disk without a manifest and with no damaged object there is none, or the whole
while_settled : (name : List ℕ) (is_seal : List ℕ → List ℕ → Bool) (now : ℕ) (d : Disk) (f : Files) → IsCalm d → (d head_name).now ≡ None → HaveHashes (files_now d) → WhileInit name is_seal now d f
    → (f head_name ≡ None) ⊎ StandsFirst name is_seal now f
while_settled name is_seal now d f calm none hashed (not_yet within) = inl (first_before d (first_batch now) f calm none within)
while_settled name is_seal now d f calm none hashed (whole within head has stands) = inr (stands hashed)

-- what is left with an answer is left while a repository is made
leaves_while : (name : List ℕ) (is_seal : List ℕ → List ℕ → Bool) (now : ℕ) (d : Disk) (r : Result (Unit {0}) InitFault) (f : Files) → InitLeaves name is_seal now d r f → WhileInit name is_seal now d f
leaves_while name is_seal now d (Ok u) f h = h
leaves_while name is_seal now d (Err init_fault.Exists) f h = not_yet (within_more (λ n g b. absurd b) f h)
leaves_while name is_seal now d (Err (init_fault.Collision id)) f h = not_yet (within_more (λ n g b. absurd b) f h)
leaves_while name is_seal now d (Err init_fault.Failed) f h = h
leaves_while name is_seal now d (Err (init_fault.Damaged id found)) f h = not_yet (within_more (λ n g b. absurd b) f h)
leaves_while name is_seal now d (Err init_fault.NoMemory) f h = not_yet h

pub leaves_settled : (name : List ℕ) (is_seal : List ℕ → List ℕ → Bool) (now : ℕ) (d : Disk) (r : Result (Unit {0}) InitFault) (f : Files) → IsCalm d → (d head_name).now ≡ None → HaveHashes (files_now d) → InitLeaves name is_seal now d r f
    → (f head_name ≡ None) ⊎ StandsFirst name is_seal now f
leaves_settled name is_seal now d r f calm none hashed h = while_settled name is_seal now d f calm none hashed (leaves_while name is_seal now d r f h)

-- where nothing came, whatever refuses
nothing_left : (name : List ℕ) (is_seal : List ℕ → List ℕ → Bool) (now : ℕ) (d : Disk) (e : InitFault) (f : Files) → Within on_way Nothing d f → InitLeaves name is_seal now d (Err e) f
nothing_left name is_seal now d init_fault.Exists f w = w
nothing_left name is_seal now d (init_fault.Collision id) f w = w
nothing_left name is_seal now d init_fault.Failed f w = not_yet (within_more (λ n g b. absurd b) f w)
nothing_left name is_seal now d (init_fault.Damaged id found) f w = w
nothing_left name is_seal now d init_fault.NoMemory f w = within_more (λ n g b. absurd b) f w

-- what a refusal of the store says
answers_of : (d : Disk) (now : ℕ) (manifest : List ℕ) (d' : Disk) (e : StoreFault) → (d head_name).now ≡ None → Inited d (first_batch now) manifest {X = Unit {0}} (Err e) d' → Answers d now (Err (init_fault_of e))
answers_of d now manifest d' (store.Collision id) none h = (none, h.shown)
answers_of d now manifest d' store.Failed none h = tt
answers_of d now manifest d' (store.Damaged id found) none h = (none, h.shown)
answers_of d now manifest d' store.NoMemory none h = tt

-- and what it leaves
makes_of : (name : List ℕ) (is_seal : List ℕ → List ℕ → Bool) (now : ℕ) (manifest : List ℕ) (d d' : Disk) (e : StoreFault) → Publishes name is_seal (Some manifest) (head_of (first_revision now))
    → Inited d (first_batch now) manifest {X = Unit {0}} (Err e) d' → Makes name is_seal now d (Err (init_fault_of e)) d'
makes_of name is_seal now manifest d d' (store.Collision id) says h = h.same
makes_of name is_seal now manifest d d' store.Failed says h = gains_more (comes_with name is_seal now manifest d says) h
makes_of name is_seal now manifest d d' (store.Damaged id found) says h = h.same
makes_of name is_seal now manifest d d' store.NoMemory says h = h

pub vault_answers : (d : Disk) (now : ℕ) (x : VaultFault) → Answers d now (Err (init_fault_in x))
vault_answers d now vault.Failed = tt
vault_answers d now vault.NoMemory = tt

-- nothing came
pub vault_makes : (name : List ℕ) (is_seal : List ℕ → List ℕ → Bool) (now : ℕ) (d : Disk) (x : VaultFault) → Makes name is_seal now d (Err (init_fault_in x)) d
vault_makes name is_seal now d vault.Failed = gains_none refl
vault_makes name is_seal now d vault.NoMemory = gains_none refl

-- what is left with a fault of the store
refused_left : (name : List ℕ) (is_seal : List ℕ → List ℕ → Bool) (now : ℕ) (manifest : List ℕ) (d : Disk) (e : StoreFault) (f : Files) → IsMoment now → (d head_name).now ≡ None → Publishes name is_seal (Some manifest) (head_of (first_revision now))
    → FirstLeaves d (first_batch now) manifest {X = Unit {0}} (Err e) f → InitLeaves name is_seal now d (Err (init_fault_of e)) f
refused_left name is_seal now manifest d (store.Collision id) f limit none says w = w
refused_left name is_seal now manifest d store.Failed f limit none says w = first_while name is_seal now manifest d f limit none says w
refused_left name is_seal now manifest d (store.Damaged id found) f limit none says w = w
refused_left name is_seal now manifest d store.NoMemory f limit none says w = w

module _ {V : Type 0} {disk : V → Option Disk} {count : V → ℕ} {left : V → ℕ → Files → Type 0} (name : List ℕ) (is_seal : List ℕ → List ℕ → Bool) (now : ℕ) {d : Disk} {v v1 : V}
    (only : (f : Files) → left v (count v) f → ImageOf (disk v) f) (told : disk v ≡ Some d) (reads : OnlyReads disk count left v v1) where
  -- nothing was done but reads
  pub inits_nothing : (r : Result (Unit {0}) InitFault) (e : InitFault) → r ≡ Err e → Answers d now (Err e) → Makes name is_seal now d (Err e) d → MakesFirst disk count left name is_seal now d r v v1
  inits_nothing r e is answers makes = rw is (record {
    end = d;
    told = quiet_same reads ∙ told;
    answers = answers;
    untouched = λ there. reads;
    makes = makes;
    leaves = leaves_more (quiet_walks only told reads).leaves (λ f w. nothing_left name is_seal now d e f w);
  })

  module _ {v2 : V} (manifest : List ℕ) (limit : IsMoment now) (none : (d head_name).now ≡ None) (says : Publishes name is_seal (Some manifest) (head_of (first_revision now))) where
    leaves : {P : Files → Type 0} → LeavesOnly count left P v1 v2 → (R : Files → Type 0) → ((f : Files) → Within on_way Nothing d f → R f) → ((f : Files) → P f → R f) → LeavesOnly count left R v v2
    leaves l R before after = leaves_then (quiet_walks only told reads).leaves l before after

    pub inits_all : {t : Unit {0}} (batch : List Object) → batch ≡ first_batch now → WhereTold (disk v1) (λ d1. Inits disk count left d1 batch manifest {X = Unit {0}} (Ok t) v1 v2) → MakesFirst disk count left name is_seal now d (Ok tt) v v2
    inits_all {t} batch same h = let u : Inits disk count left d (first_batch now) manifest {X = Unit {0}} (Ok t) v1 v2 = subst (λ (b : List Object). Inits disk count left d b manifest {X = Unit {0}} (Ok t) v1 v2) same (h d (quiet_same reads ∙ told)) in record {
      end = u.end;
      told = u.told;
      answers = none;
      untouched = λ there. absurd (there none);
      makes = record {
        calm = u.is.sure.calm;
        head = subst (λ (x : File). Publishes name is_seal x (head_of (first_revision now))) (sym u.is.sure.there) says;
        has = has_first u.is.built now (files_now u.end) u.is.are (gains_beside u.is.built u.end (Some manifest) u.is.comes);
        gains = gains_more (comes_with name is_seal now manifest d says) (gains_then (gains_more (λ n g b. comes_before b) u.is.gains) (gains_more (λ n g c. comes_last c) u.is.comes));
        whole = λ hashed f i. stands_first name is_seal u.is.built now f (first_makes name is_seal u.is.built u.end (first_revision now) manifest u.is.are.sure (first_can name is_seal d u.is.built now manifest limit hashed u.is.gains u.is.are says) u.is.comes u.is.sure f i);
      };
      leaves = leaves u.leaves (WhileInit name is_seal now d) (λ f w. not_yet (within_more (λ n g b. absurd b) f w)) (λ f w. first_while name is_seal now manifest d f limit none says w);
    }

    pub inits_some : (batch : List Object) → batch ≡ first_batch now → (r : Result (Unit {0}) InitFault) (e : StoreFault) → r ≡ Err (init_fault_of e)
        → WhereTold (disk v1) (λ d1. Inits disk count left d1 batch manifest {X = Unit {0}} (Err e) v1 v2) → MakesFirst disk count left name is_seal now d r v v2
    inits_some batch same r e is h = let u : Inits disk count left d (first_batch now) manifest {X = Unit {0}} (Err e) v1 v2 = subst (λ (b : List Object). Inits disk count left d b manifest {X = Unit {0}} (Err e) v1 v2) same (h d (quiet_same reads ∙ told)) in rw is (record {
      end = u.end;
      told = u.told;
      answers = answers_of d now manifest u.end e none u.is;
      untouched = λ there. absurd (there none);
      makes = makes_of name is_seal now manifest d u.end e says u.is;
      leaves = leaves u.leaves (InitLeaves name is_seal now d (Err (init_fault_of e))) (nothing_left name is_seal now d (init_fault_of e)) (λ f w. refused_left name is_seal now manifest d e f limit none says w);
    })

-- the same, of the vault that was handed in and of the one that is handed back
pub inits_done : {V : Type 0} {disk : V → Option Disk} {count : V → ℕ} {left : V → ℕ → Files → Type 0} (name : List ℕ) (is_seal : List ℕ → List ℕ → Bool) (now : ℕ) (given own made back : V) → own ≡ given → back ≡ made
    → WhereTold (disk own) (λ d. MakesFirst disk count left name is_seal now d (Ok tt) own made) → WhereTold (disk given) (λ d. MakesFirst disk count left name is_seal now d (Ok tt) given back)
inits_done {V} {disk} {count} {left} name is_seal now given own made back a b h =
    subst (λ (x : V). WhereTold (disk x) (λ d. MakesFirst disk count left name is_seal now d (Ok tt) x back)) a
    (subst (λ (x : V). WhereTold (disk own) (λ d. MakesFirst disk count left name is_seal now d (Ok tt) own x)) (sym b) h)
