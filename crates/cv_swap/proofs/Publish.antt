-- Revisions that come, call by call.
use Rattle.std.proofs.Common.{◌≡◌, ℕ, List, refl, sym, ap, subst, ◌∙◌}
use Rattle.std.specs.Prelude.{⊤}
use Rattle.std.specs.declared.option.Option.{Option}
use Rattle.std.specs.declared.option.Option.TheVariants.{Some}
use Rattle.std.specs.declared.result.Result.{Result}
use Rattle.std.specs.declared.result.Result.TheVariants.{Ok, Err}
use Rattle.cv_base.specs.Told.{WhereTold}
use Rattle.cv_base.specs.ObjectId.{file_name}
use Rattle.cv_base.specs.declared.object.Object.{Object}
use Rattle.cv_vault.specs.declared.vault.VaultFault.{VaultFault}
use Rattle.cv_vault.specs.declared.vault.VaultFault.TheVariants as vault
use Rattle.cv_vault.specs.Names.{on_way}
use Rattle.cv_vault.specs.Disk.{Disk, Slot, Files, ImageOf, Syncs, Writes, Torn, slot}
use Rattle.cv_vault.specs.Moments.{Calls, LeavesOnly, OnlyReads}
use Rattle.cv_vault.specs.Walks.{Gains, Within, Walks, Nothing, ComesTo}
use Rattle.cv_vault.specs.Replace.{IsSure, MovedIn, IsWaiting}
use Rattle.cv_vault.proofs.Laws.{here, elsewhere, call, bind, looser, leaves_more, leaves_then, gains_then, gains_more, gains_none, within_then, within_more, quiet_walks, writes, ok, err, sync_ok, sync_err, sure_then, sure_waits}
use Rattle.cv_objects.specs.Faults.{fault_of}
use Rattle.cv_base.specs.Objects.{AreNamed}
use Rattle.cv_objects.specs.Batches.{Has, Brings, IsOne, IsRefusal, Stored}
use Rattle.cv_objects.specs.declared.store_fault.StoreFault.{StoreFault}
use Rattle.cv_objects.specs.declared.store_fault.StoreFault.TheVariants.{Collision, Failed, Damaged, NoMemory}
use Rattle.cv_objects.proofs.Lemmas.{outside, has_then}
use Rattle.cv_swap.specs.Stands.{head_name, head_way}
use Rattle.cv_swap.specs.Publishing.{Prepared, Shelved, BringsFirst}
use Rattle.cv_swap.specs.PublishingInner.{Built, AreBuilt, WhileFirst, FirstLeaves, Inited, Inits, before_head, with_head, comes_before, comes_last}
use Rattle.cv_swap.proofs.Names.{head_apart}
use Rattle.cv_swap.proofs.Shelving.{failed_outside}

-- ---- a revision is prepared

pub prepared_failed : {X : Type 0} (d : Disk) (batch : List Object) (manifest : List ℕ) (d' : Disk) (r : Result X StoreFault) (e : StoreFault) → r ≡ Err e → Stored d batch {X = Unit {0}} (Err e) d' → Prepared d batch manifest r d'
prepared_failed d batch manifest d' r e is h = rw is h

-- the batch is there, and the manifest is on its way
pub record AreThere (batch : List Object) (manifest : List ℕ) (d : Disk) : Type 0 where
  pub one : IsOne batch
  pub has : Has d batch
  pub head : (d head_way).now ≡ Some manifest

module _ {V : Type 0} {disk : V → Option Disk} {count : V → ℕ} {left : V → ℕ → Files → Type 0} (batch : List Object) (manifest : List ℕ) {d : Disk} {v0 v v' : V} where
  pub then_manifest : {u : Unit {0}} → AreNamed batch → ((f : Files) → left v (count v) f → ImageOf (disk v) f) → Walks disk count left on_way (Brings d batch) (Shelved d batch {X = Unit {0}} (Ok u)) d v0 v → Calls disk count left (Writes head_way manifest ok) v v'
      → Walks disk count left on_way (Brings d batch) (AreThere batch manifest) d v0 v'
  then_manifest named only w c = bind w (λ n f b. b) (λ d1 told g are. call only told c (λ d2 h. (
    writes head_way manifest ok d1 d2 refl h,
    subst (AreThere batch manifest) (sym h) (record {
      one = are.0;
      has = record { each = λ o k. ap (λ (s : Slot). s.now) (elsewhere d1 head_way (slot (Some manifest) Torn) (file_name o.id) (λ e. (head_apart batch named).name o k (sym e))) ∙ are.1.each o k };
      head = ap (λ (s : Slot). s.now) (here d1 head_way (slot (Some manifest) Torn));
    }),
  )))

  pub then_prepared : {u : Unit {0}} → ((f : Files) → left v (count v) f → ImageOf (disk v) f) → Walks disk count left on_way (Brings d batch) (AreThere batch manifest) d v0 v → Calls disk count left (Syncs ok) v v'
      → Walks disk count left on_way (Brings d batch) (Prepared d batch manifest {X = Unit {0}} (Ok u)) d v0 v'
  then_prepared only w c = bind w (λ n f b. b) (λ d1 told g are. looser (sync_ok only told c) (λ n f b. b) (λ d2 g2 is. record { sure = sure_then head_way manifest d1 d2 is are.head; has = has_then batch d1 d2 is are.has }))

  -- the manifest can't be put on its way
  pub then_unwritten : {X : Type 0} {u : Unit {0}} (r : Result X StoreFault) (x : VaultFault) → r ≡ Err (fault_of x) → ((f : Files) → left v (count v) f → ImageOf (disk v) f)
      → Walks disk count left on_way (Brings d batch) (Shelved d batch {X = Unit {0}} (Ok u)) d v0 v → Calls disk count left (Writes head_way manifest (err x)) v v' → Walks disk count left on_way (Brings d batch) (Prepared d batch manifest r) d v0 v'
  then_unwritten r x is only w c = bind w (λ n f b. b) (λ d1 told g are. call only told c (λ d2 h. (writes head_way manifest (err x) d1 d2 refl h, prepared_failed d batch manifest d2 r (fault_of x) is (failed_outside d batch d2 (fault_of x) are.0 (outside x)))))

  -- the last sync fails
  pub then_unsettled : {X : Type 0} (r : Result X StoreFault) (x : VaultFault) → r ≡ Err (fault_of x) → ((f : Files) → left v (count v) f → ImageOf (disk v) f)
      → Walks disk count left on_way (Brings d batch) (AreThere batch manifest) d v0 v → Calls disk count left (Syncs (err x)) v v' → Walks disk count left on_way (Brings d batch) (Prepared d batch manifest r) d v0 v'
  then_unsettled r x is only w c = bind w (λ n f b. b) (λ d1 told g are. looser (sync_err x only told c) (λ n f b. b) (λ d2 g2 s. prepared_failed d batch manifest d2 r (fault_of x) is (failed_outside d batch d2 (fault_of x) are.one (outside x))))

-- not all came that the head reaches
inited_not : {X : Type 0} (d : Disk) (batch : List Object) (manifest : List ℕ) (d' : Disk) (r : Result X StoreFault) (e : StoreFault) → r ≡ Err e → Gains on_way (BringsFirst d batch) d d' → Built d batch manifest {X = Unit {0}} (Err e) d' → Inited d batch manifest r d'
inited_not d batch manifest d' r (Collision id) is g h = rw is h
inited_not d batch manifest d' r Failed is g h = rw is (gains_more (λ n f b. comes_before b) g)
inited_not d batch manifest d' r (Damaged id found) is g h = rw is h
inited_not d batch manifest d' r NoMemory is g h = rw is g

-- the head may have come, or there was no memory for it
inited_late : {X : Type 0} (d built : Disk) (batch : List Object) (manifest : List ℕ) (d' : Disk) (r : Result X StoreFault) (x : VaultFault) → r ≡ Err (fault_of x) → Gains on_way (BringsFirst d batch) d built
    → Gains on_way (ComesTo head_name (Some manifest)) built d' → MovedIn built head_name manifest {X = Unit {0}} (Err x) d' → Inited d batch manifest r d'
inited_late d built batch manifest d' r vault.Failed is g h u = rw is (gains_then (gains_more (λ n f b. comes_before b) g) (gains_more (λ n f b. comes_last b) h))
inited_late d built batch manifest d' r vault.NoMemory is g h u = rw is (gains_then g (gains_none u))

-- a crash leaves what it may while the head comes, and none of it where there was no memory for it
left_late : {V : Type 0} {count : V → ℕ} {left : V → ℕ → Files → Type 0} (d : Disk) (batch : List Object) (manifest : List ℕ) {v v' : V} (X : Type 0) (x : VaultFault) → LeavesOnly count left (WhileFirst d batch manifest) v v'
    → (x ≡ vault.NoMemory → LeavesOnly count left (Within on_way (BringsFirst d batch) d) v v') → LeavesOnly count left (FirstLeaves d batch manifest {X = X} (Err (fault_of x))) v v'
left_late d batch manifest X vault.Failed l none = l
left_late d batch manifest X vault.NoMemory l none = none refl

module _ {V : Type 0} {disk : V → Option Disk} {count : V → ℕ} {left : V → ℕ → Files → Type 0} (batch : List Object) (manifest : List ℕ) {d : Disk} {v v1 : V} where
  -- and before it does
  left_before : (X : Type 0) (e : StoreFault) → LeavesOnly count left (Within on_way (BringsFirst d batch) d) v v1 → (IsRefusal {X = Unit {0}} (Err e) → Walks disk count left on_way Nothing (λ end. ⊤) d v v1) → LeavesOnly count left (FirstLeaves d batch manifest {X = X} (Err e)) v v1
  left_before X (Collision id) l refused = (refused tt).leaves
  left_before X Failed l refused = leaves_more l (λ f i. before_head i)
  left_before X (Damaged id found) l refused = (refused tt).leaves
  left_before X NoMemory l refused = l

  pub inits_not : {X : Type 0} (r : Result X StoreFault) (e : StoreFault) → r ≡ Err e → Walks disk count left on_way (BringsFirst d batch) (Built d batch manifest {X = Unit {0}} (Err e)) d v v1
      → (IsRefusal {X = Unit {0}} (Err e) → Walks disk count left on_way Nothing (λ end. ⊤) d v v1) → Inits disk count left d batch manifest r v v1
  inits_not {X = X} r e is w refused = rw is (record { end = w.end; told = w.told; leaves = left_before X e w.leaves refused; is = inited_not {X = X} d batch manifest w.end (Err e) e refl w.gains w.is })

  module _ {v2 : V} (w : Walks disk count left on_way (BringsFirst d batch) (λ d1. AreBuilt batch d1 × IsSure head_way manifest d1) d v v1) where
    pub inits_now : {u : Unit {0}} → WhereTold (disk v1) (λ d1. (text : List ℕ) → IsWaiting head_way head_name text d1 → Walks disk count left on_way (ComesTo head_name (Some text)) (MovedIn d1 head_name text {X = Unit {0}} (Ok u)) d1 v1 v2) → Inits disk count left d batch manifest {X = Unit {0}} (Ok u) v v2
    inits_now h = let u = h w.end w.told manifest (sure_waits head_way head_name manifest w.end w.is.1) in record {
      end = u.end;
      told = u.told;
      leaves = leaves_then w.leaves u.leaves (λ f i. before_head i) (λ f i. with_head w.end w.is.0 w.gains i);
      is = record { built = w.end; are = w.is.0; gains = w.gains; comes = u.gains; sure = u.is };
    }

    pub inits_or_not : {X : Type 0} (x : VaultFault) (r : Result X StoreFault) → r ≡ Err (fault_of x) → ((f : Files) → left v1 (count v1) f → ImageOf (disk v1) f) → (x ≡ vault.NoMemory → OnlyReads disk count left v1 v2)
        → WhereTold (disk v1) (λ d1. (text : List ℕ) → IsWaiting head_way head_name text d1 → Walks disk count left on_way (ComesTo head_name (Some text)) (MovedIn d1 head_name text {X = Unit {0}} (Err x)) d1 v1 v2) → Inits disk count left d batch manifest r v v2
    inits_or_not {X = X} x r is only quiet h = let u = h w.end w.told manifest (sure_waits head_way head_name manifest w.end w.is.1) in rw is (record {
      end = u.end;
      told = u.told;
      leaves = left_late d batch manifest X x (leaves_then w.leaves u.leaves (λ f i. before_head i) (λ f i. with_head w.end w.is.0 w.gains i))
          (λ wanted. leaves_then w.leaves (quiet_walks only w.told (quiet wanted)).leaves (λ f i. i) (λ f i. within_then w.gains f (within_more (λ n f b. absurd b) f i)));
      is = inited_late {X = X} d w.end batch manifest u.end (Err (fault_of x)) x refl w.gains u.gains u.is;
    })
