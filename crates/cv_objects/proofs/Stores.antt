-- A store, call by call.
use Rattle.std.proofs.Common.{◌≡◌, ℕ, List, refl, sym, subst, ◌∙◌, inl}
use Rattle.std.proofs.lemmas.Option.{same_Some}
use Rattle.std.specs.Prelude.{OnOk}
use Rattle.std.specs.declared.option.Option.{Option}
use Rattle.std.specs.declared.option.Option.TheVariants.{Some}
use Rattle.std.specs.declared.result.Result.{Result}
use Rattle.std.specs.declared.result.Result.TheVariants.{Ok, Err}
use Rattle.cv_base.specs.Told.{WhereTold}
use Rattle.cv_base.specs.declared.id.ObjectId.{ObjectId}
use Rattle.cv_base.specs.declared.object.Object.{Object}
use Rattle.cv_vault.specs.declared.vault.VaultFault.{VaultFault}
use Rattle.cv_vault.specs.Names.{on_way}
use Rattle.cv_vault.specs.Disk.{Disk, Files, ImageOf, Syncs, synced}
use Rattle.cv_vault.specs.Moments.{Calls}
use Rattle.cv_vault.specs.Walks.{Walks, Nothing, Gains}
use Rattle.cv_vault.proofs.Laws.{bind, looser, ok, err, sync_ok, sync_err, calm_then}
use Rattle.cv_objects.specs.Faults.{fault_of}
use Rattle.cv_objects.specs.Batches.{AreReady, Has, Brings, WroteAll, Brought, Stored, AreStored, SparesOthers, IsOne, IsReady, is_there, is_coming, Clashes, ShownIn, by_itself, IsOutside, IsRefusal, IsSettledFirst, RefusesSettled}
use Rattle.cv_objects.specs.BatchesInner.{AllWait, PlacedAll, WroteAbsent}
use Rattle.cv_objects.specs.declared.store_fault.StoreFault.{StoreFault}
use Rattle.cv_objects.specs.declared.store_fault.StoreFault.TheVariants.{Collision, Failed, Damaged, NoMemory}
use Rattle.cv_objects.proofs.Looking.{outside}
use Rattle.cv_objects.proofs.Batching.{all_wait, brings_nothing, brings_later, shown_first}

pub has_then : (batch : List Object) (d d' : Disk) → d' ≡ synced d → Has d batch → Has d' batch
has_then batch d d' e h = subst (λ x. Has x batch) (sym e) (record { each = h.each })

ready_then : (batch : List Object) (d d' : Disk) → d' ≡ synced d → AreReady d batch → AreReady d' batch
ready_then batch d d' e h = subst (λ x. AreReady x batch) (sym e) (record { each = λ o k. by o (h.each o k) })
  where
    by : (o : Object) → IsReady d o → IsReady (synced d) o
    by o (is_there t) = is_there t
    by o (is_coming s t) = is_coming s t

can_all : (batch : List Object) (d d' : Disk) → d' ≡ synced d → AreReady d batch → AllWait d' batch
can_all batch d d' e h = all_wait batch d' (calm_then d d' e) (ready_then batch d d' e h)

-- a fault of the vault, whatever came
pub stored_outside : {X : Type 0} (d : Disk) (batch : List Object) (d' : Disk) (r : Result X StoreFault) (e : StoreFault) → IsOne batch → r ≡ Err e → IsOutside e → Stored d batch r d'
stored_outside d batch d' r (Collision id) one is h = absurd h
stored_outside d batch d' r Failed one is h = rw is one
stored_outside d batch d' r (Damaged id found) one is h = absurd h
stored_outside d batch d' r NoMemory one is h = rw is (inl one)

-- a refusal, where nothing came
pub stored_refuses : {X : Type 0} (d : Disk) (batch : List Object) (d' : Disk) (r : Result X StoreFault) (e : StoreFault) → IsOne batch → r ≡ Err e → ShownIn d batch e → Gains on_way Nothing d d' → Stored d batch r d'
stored_refuses d batch d' r (Collision id) one is h g = rw is (record { shown = h; same = g })
stored_refuses d batch d' r Failed one is h g = rw is one
stored_refuses d batch d' r (Damaged id found) one is h g = rw is (record { shown = h; same = g })
stored_refuses d batch d' r NoMemory one is h g = rw is (inl one)

-- ---- the first half

-- what was put after a sync
put_later : {X : Type 0} (d d1 d2 : Disk) (batch : List Object) (r : Result X StoreFault) → Gains on_way Nothing d d1 → d1 ≡ synced d → Gains on_way Nothing d1 d2 → WroteAbsent d1 batch r d2 → WroteAll d batch r d2
put_later d d1 d2 batch (Ok x) g is g2 w = (w, subst (λ y. Gains on_way Nothing y d2) is g2)
put_later d d1 d2 batch (Err e) g is g2 w = (shown_first e g w, λ refusal one. subst (λ y. Gains on_way Nothing y d2) is g2)

-- a fault of the vault refuses no batch
pub refusal_inside : {X : Type 0} (r : Result X StoreFault) (e : StoreFault) → r ≡ Err e → IsOutside e → IsRefusal r → ⊥
refusal_inside {X = X} r e is out refusal = by e out (subst (λ (x : Result X StoreFault). IsRefusal x) is refusal)
  where
    by : (e : StoreFault) → IsOutside e → IsRefusal {X = X} (Err e) → ⊥
    by (Collision id) out h = out
    by Failed out h = h
    by (Damaged id found) out h = out
    by NoMemory out h = h

-- and says nothing of one
put_outside : {X : Type 0} (d : Disk) (batch : List Object) (r : Result X StoreFault) (e : StoreFault) (d' : Disk) → r ≡ Err e → IsOutside e → WroteAll d batch r d'
put_outside d batch r e d' is out = rw is (by_itself out, λ refusal one. absurd (refusal_inside {X = Unit {0}} (Err e) e refl out refusal))

-- a batch that clashes in itself
pub clash_twice : {batch : List Object} {id : ObjectId} → Clashes batch id → IsOne batch → ⊥
clash_twice c one = c.differ (one.each c.a c.b c.has_a c.has_b (c.is_a ∙ sym c.is_b))

module _ {V : Type 0} {disk : V → Option Disk} {count : V → ℕ} {left : V → ℕ → Files → Type 0} (batch : List Object) {d : Disk} {v v1 : V} (only : (f : Files) → left v (count v) f → ImageOf (disk v) f) (told : disk v ≡ Some d) where
  pub put_unsettled : {X : Type 0} (x : VaultFault) (r : Result X StoreFault) → r ≡ Err (fault_of x) → Calls disk count left (Syncs (err x)) v v1 → Walks disk count left on_way Nothing (WroteAll d batch r) d v v1
  put_unsettled x r is c = looser (sync_err x only told c) (λ n f b. b) (λ d1 g s. put_outside d batch r (fault_of x) d1 is (outside x))

  pub put_settled : {X : Type 0} {v2 : V} (r : Result X StoreFault) → Calls disk count left (Syncs ok) v v1 → WhereTold (disk v1) (λ d1. Walks disk count left on_way Nothing (WroteAbsent d1 batch r) d1 v1 v2)
      → Walks disk count left on_way Nothing (WroteAll d batch r) d v v2
  put_settled r c h = bind (sync_ok {B = Nothing} only told c) (λ n f b. b) (λ d1 told1 g is. looser (h d1 told1) (λ n f b. b) (λ d2 g2 w. put_later d d1 d2 batch r g is g2 w))

-- there was no memory to compare the ids of the batch
pub put_wants : {X : Type 0} (d : Disk) (batch : List Object) (r : Result X StoreFault) → r ≡ Err NoMemory → WroteAll d batch r d
put_wants d batch r is = put_outside d batch r NoMemory d is tt

pub put_one : {X : Type 0} {P : Type 0} (r : Result X StoreFault) → P → OnOk r P
put_one (Ok x) p = p
put_one (Err e) p = tt

-- ---- the second half

brought_later : {X : Type 0} (d d1 d2 : Disk) (batch : List Object) (r : Result X StoreFault) → d1 ≡ synced d → PlacedAll d1 batch r d2 → Brought d batch r d2
brought_later d d1 d2 batch (Ok x) is p = (p.0, subst (λ y. SparesOthers y batch d2) is p.1)
brought_later d d1 d2 batch (Err e) is p = p

module _ {V : Type 0} {disk : V → Option Disk} {count : V → ℕ} {left : V → ℕ → Files → Type 0} (batch : List Object) {d : Disk} {v v1 : V} (only : (f : Files) → left v (count v) f → ImageOf (disk v) f) (told : disk v ≡ Some d) where
  pub bring_unsettled : {X : Type 0} (x : VaultFault) (r : Result X StoreFault) → r ≡ Err (fault_of x) → Calls disk count left (Syncs (err x)) v v1 → Walks disk count left on_way (Brings d batch) (Brought d batch r) d v v1
  bring_unsettled x r is c = rw is (looser (sync_err x only told c) (λ n f b. b) (λ d1 g s. outside x))

  pub bring_settled : {X : Type 0} {v2 : V} (r : Result X StoreFault) → AreReady d batch → Calls disk count left (Syncs ok) v v1
      → WhereTold (disk v1) (λ d1. AllWait d1 batch → Walks disk count left on_way (Brings d1 batch) (PlacedAll d1 batch r) d1 v1 v2)
      → Walks disk count left on_way (Brings d batch) (Brought d batch r) d v v2
  bring_settled r ready c h = bind (sync_ok {B = Nothing} only told c) brings_nothing (λ d1 told1 g is. looser (h d1 told1 (can_all batch d d1 is ready)) (brings_later g) (λ d2 g2 p. brought_later d d1 d2 batch r is p))

-- ---- both

-- a batch that is refused
pub then_refused : {V : Type 0} {disk : V → Option Disk} {count : V → ℕ} {left : V → ℕ → Files → Type 0} (batch : List Object) {d : Disk} {v0 v : V} {X : Type 0} (r : Result X StoreFault) (e : StoreFault) → IsOne batch → r ≡ Err e
    → Walks disk count left on_way Nothing (WroteAll d batch {X = Unit {0}} (Err e)) d v0 v → Walks disk count left on_way (Brings d batch) (Stored d batch r) d v0 v
then_refused batch {d = d} r e one is w = looser w brings_nothing (λ d2 g k. stored_refuses d batch d2 r e one is k.0 g)

-- all was settled first
pub refused_settled : {V : Type 0} {disk : V → Option Disk} {count : V → ℕ} {left : V → ℕ → Files → Type 0} (batch : List Object) {d : Disk} {v0 v : V} {X : Type 0} (r : Result X StoreFault) (e : StoreFault) → r ≡ Err e
    → Walks disk count left on_way Nothing (WroteAll d batch {X = Unit {0}} (Err e)) d v0 v → WhereTold (disk v) (RefusesSettled d batch r)
refused_settled batch {d = d} r e is w = rw is (λ d' told refusal one. subst (IsSettledFirst d) (same_Some _ _ (sym w.told ∙ told)) (w.is.1 refusal one))

module _ {V : Type 0} {disk : V → Option Disk} {count : V → ℕ} {left : V → ℕ → Files → Type 0} (batch : List Object) {d : Disk} {v0 v v' : V} where
  pub then_unplaced : {X : Type 0} {u : Unit {0}} (r : Result X StoreFault) (e : StoreFault) → IsOne batch → r ≡ Err e → Walks disk count left on_way Nothing (WroteAll d batch {X = Unit {0}} (Ok u)) d v0 v
      → WhereTold (disk v) (λ d1. AreReady d1 batch → Walks disk count left on_way (Brings d1 batch) (Brought d1 batch {X = Unit {0}} (Err e)) d1 v v')
      → Walks disk count left on_way (Brings d batch) (Stored d batch r) d v0 v'
  then_unplaced r e one is w h = bind w brings_nothing (λ d1 told g put. looser (h d1 told put.0) (brings_later g) (λ d2 g2 k. stored_outside d batch d2 r e one is k))

  -- nor is one refused while it is brought
  pub then_unrefused : {X : Type 0} {u : Unit {0}} (r : Result X StoreFault) (e : StoreFault) → r ≡ Err e → IsRefusal r → Walks disk count left on_way Nothing (WroteAll d batch {X = Unit {0}} (Ok u)) d v0 v
      → WhereTold (disk v) (λ d1. AreReady d1 batch → Walks disk count left on_way (Brings d1 batch) (Brought d1 batch {X = Unit {0}} (Err e)) d1 v v') → ⊥
  then_unrefused r e is refusal w h = refusal_inside r e is (h w.end w.told w.is.0).is refusal

  pub then_brought : {u u' : Unit {0}} → Walks disk count left on_way Nothing (WroteAll d batch {X = Unit {0}} (Ok u)) d v0 v
      → WhereTold (disk v) (λ d1. AreReady d1 batch → Walks disk count left on_way (Brings d1 batch) (Brought d1 batch {X = Unit {0}} (Ok u')) d1 v v')
      → Walks disk count left on_way (Brings d batch) (λ d2. Has d2 batch) d v0 v'
  then_brought w h = bind w brings_nothing (λ d1 told g put. looser (h d1 told put.0) (brings_later g) (λ d2 g2 k. k.0))

  pub then_stored : ((f : Files) → left v (count v) f → ImageOf (disk v) f) → Walks disk count left on_way (Brings d batch) (λ d2. Has d2 batch) d v0 v → Calls disk count left (Syncs ok) v v'
      → Walks disk count left on_way (Brings d batch) (AreStored batch) d v0 v'
  then_stored only w c = bind w (λ n f b. b) (λ d2 told g has. looser (sync_ok only told c) (λ n f b. b) (λ d3 g3 is. record { calm = calm_then d2 d3 is; has = has_then batch d2 d3 is has }))

  -- the last sync fails
  pub then_fails : {X : Type 0} {E : Disk → Type 0} (x : VaultFault) (r : Result X StoreFault) → IsOne batch → r ≡ Err (fault_of x)
      → ((f : Files) → left v (count v) f → ImageOf (disk v) f) → Walks disk count left on_way (Brings d batch) E d v0 v → Calls disk count left (Syncs (err x)) v v'
      → Walks disk count left on_way (Brings d batch) (Stored d batch r) d v0 v'
  then_fails x r one is only w c = bind w (λ n f b. b) (λ d2 told g e. looser (sync_err x only told c) (λ n f b. b) (λ d3 g3 s. stored_outside d batch d3 r (fault_of x) one is (outside x)))
