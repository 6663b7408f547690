-- A first revision but its head, call by call.
use Rattle.std.proofs.Common.{◌≡◌, ℕ, List, refl, sym, ap, subst, ◌∙◌}
use Rattle.std.specs.List.{Contains}
use Rattle.std.specs.declared.option.Option.{Option}
use Rattle.std.specs.declared.option.Option.TheVariants.{Some}
use Rattle.std.specs.declared.result.Result.{Result}
use Rattle.std.specs.declared.result.Result.TheVariants.{Ok, Err}
use Rattle.cv_base.specs.Told.{WhereTold}
use Rattle.cv_base.specs.ObjectId.{file_name}
use Rattle.cv_base.specs.declared.object.Object.{Object}
use Rattle.cv_vault.specs.declared.vault.VaultFault.{VaultFault}
use Rattle.cv_vault.specs.Names.{Name, on_way}
use Rattle.cv_vault.specs.Disk.{Disk, Slot, File, Files, ImageOf, Syncs, Writes, Settled, Torn, slot, written}
use Rattle.cv_vault.specs.Moments.{Calls}
use Rattle.cv_vault.specs.Walks.{Change, Stays, Comes, Gains, Walks, Nothing, ComesTo}
use Rattle.cv_vault.specs.Replace.{IsSure, IsWaiting, Came}
use Rattle.cv_vault.proofs.Laws.{here, elsewhere, call, bind, looser, writes, ok, err, sync_ok, sync_err, sure_then}
use Rattle.cv_objects.specs.Faults.{fault_of}
use Rattle.cv_objects.specs.Names.{way_name}
use Rattle.cv_base.specs.Objects.{AreNamed}
use Rattle.cv_objects.specs.Batches.{AreReady, IsReady, is_there, is_coming, IsApart, Has, Brings, Brought, WroteAll, ShownIn, IsOutside}
use Rattle.cv_objects.specs.declared.store_fault.StoreFault.{StoreFault}
use Rattle.cv_objects.specs.declared.store_fault.StoreFault.TheVariants.{Collision, Failed, Damaged, NoMemory}
use Rattle.cv_objects.proofs.Lemmas.{data_off_way, outside, brings_later, has_then}
use Rattle.cv_swap.specs.Stands.{head_way, epoch_name, epoch_text}
use Rattle.cv_swap.specs.StandsInner.{epoch_way}
use Rattle.cv_swap.specs.Publishing.{BringsFirst, an_object, the_epoch}
use Rattle.cv_swap.specs.PublishingInner.{AreBeside, PutBeside, Built, AreBuilt}
use Rattle.cv_swap.proofs.Names.{head_apart, epoch_way_apart, epoch_apart, epoch_not_data, epoch_not_manifest, manifest_not_epoch}

-- ---- a batch that stays where it is on its way, while other names change

ready_beside : (batch : List Object) (d d' : Disk) → ((o : Object) → Contains batch o → (d' (file_name o.id) ≡ d (file_name o.id)) × (d' (way_name o.id) ≡ d (way_name o.id))) → AreReady d batch → AreReady d' batch
ready_beside batch d d' same r = record { each = λ o h. by o (same o h) (r.each o h) }
  where
    by : (o : Object) → (d' (file_name o.id) ≡ d (file_name o.id)) × (d' (way_name o.id) ≡ d (way_name o.id)) → IsReady d o → IsReady d' o
    by o e (is_there t) = is_there (ap (λ (s : Slot). s.now) e.0 ∙ t)
    by o e (is_coming s t) = is_coming (ap (λ (s : Slot). s.now) e.0 ∙ s) (ap (λ (s : Slot). s.now) e.1 ∙ t)

-- ---- the epoch and the manifest are put on their way

abbrev first_text : File
first_text = Some (epoch_text 0)

put_both : (d : Disk) (manifest : List ℕ) → AreBeside d manifest (written (written d epoch_way first_text) head_way (Some manifest))
put_both d manifest =
    let mid : Disk = written d epoch_way first_text in
    record {
      epoch = ap (λ (s : Slot). s.now) (elsewhere mid head_way (slot (Some manifest) Torn) epoch_way epoch_not_manifest ∙ here d epoch_way (slot first_text Torn));
      head = ap (λ (s : Slot). s.now) (here mid head_way (slot (Some manifest) Torn));
      others = λ n a b. elsewhere mid head_way (slot (Some manifest) Torn) n b ∙ elsewhere d epoch_way (slot first_text Torn) n a;
    }

put_now : (d d1 d2 : Disk) (manifest : List ℕ) (r : Result (Unit {0}) VaultFault) → d1 ≡ written d epoch_way first_text → Writes head_way manifest r d1 d2 → PutBeside d manifest r d2
put_now d d1 d2 manifest (Ok x) e h = subst (AreBeside d manifest) (sym (h ∙ ap (λ (y : Disk). written y head_way (Some manifest)) e)) (put_both d manifest)
put_now d d1 d2 manifest (Err x) e h = tt

module _ {V : Type 0} {disk : V → Option Disk} {count : V → ℕ} {left : V → ℕ → Files → Type 0} (manifest text : List ℕ) (is : text ≡ epoch_text 0) {d : Disk} {v v1 : V}
    (only : (f : Files) → left v (count v) f → ImageOf (disk v) f) (told : disk v ≡ Some d) where
  pub beside_not : {X : Type 0} (x : VaultFault) (r : Result X VaultFault) → r ≡ Err x → Calls disk count left (Writes epoch_way text (err x)) v v1 → Walks disk count left on_way Nothing (PutBeside d manifest r) d v v1
  beside_not x r fails c = rw fails (call only told c (λ d1 h. (writes epoch_way text (err x) d d1 refl h, tt)))

  epoch_put : Calls disk count left (Writes epoch_way text ok) v v1 → Walks disk count left on_way Nothing (λ d1. d1 ≡ written d epoch_way first_text) d v v1
  epoch_put c = call only told c (λ d1 h. (writes epoch_way text ok d d1 refl h, h ∙ ap (λ (t : List ℕ). written d epoch_way (Some t)) is))

  pub beside : {v2 : V} (r : Result (Unit {0}) VaultFault) → ((f : Files) → left v1 (count v1) f → ImageOf (disk v1) f) → Calls disk count left (Writes epoch_way text ok) v v1 → Calls disk count left (Writes head_way manifest r) v1 v2
      → Walks disk count left on_way Nothing (PutBeside d manifest r) d v v2
  beside r only1 c c2 = bind (epoch_put c) (λ n f b. b) (λ d1 told1 g e. call only1 told1 c2 (λ d2 h. (writes head_way manifest r d1 d2 refl h, put_now d d1 d2 manifest r e h)))

-- ---- all of it

pub built_refused : {X : Type 0} (d : Disk) (batch : List Object) (manifest : List ℕ) (d' : Disk) (r : Result X StoreFault) (e : StoreFault) → r ≡ Err e → ShownIn d batch e → Gains on_way Nothing d d' → Built d batch manifest r d'
built_refused d batch manifest d' r (Collision id) is h g = rw is (record { shown = h; same = g })
built_refused d batch manifest d' r Failed is h g = rw is tt
built_refused d batch manifest d' r (Damaged id found) is h g = rw is (record { shown = h; same = g })
built_refused d batch manifest d' r NoMemory is h g = rw is tt

built_outside : {X : Type 0} (d : Disk) (batch : List Object) (manifest : List ℕ) (d' : Disk) (r : Result X StoreFault) (e : StoreFault) → r ≡ Err e → IsOutside e → Built d batch manifest r d'
built_outside d batch manifest d' r (Collision id) is h = absurd h
built_outside d batch manifest d' r Failed is h = rw is tt
built_outside d batch manifest d' r (Damaged id found) is h = absurd h
built_outside d batch manifest d' r NoMemory is h = rw is tt

-- all four files are on their way, or there
pub record AreUnderWay (batch : List Object) (manifest : List ℕ) (d : Disk) : Type 0 where
  pub ready : AreReady d batch
  pub epoch : (d epoch_way).now ≡ first_text
  pub head : (d head_way).now ≡ Some manifest

-- the objects are there, and the others settled on their way
pub record AreWaiting (batch : List Object) (manifest : List ℕ) (d : Disk) : Type 0 where
  pub has : Has d batch
  pub epoch : IsWaiting epoch_way epoch_name (epoch_text 0) d
  pub head : (d head_way).now ≡ Some manifest

-- all but the head is there
pub record AreThere (batch : List Object) (manifest : List ℕ) (d : Disk) : Type 0 where
  pub has : Has d batch
  pub epoch : (d epoch_name).now ≡ first_text
  pub head : (d head_way).now ≡ Some manifest

-- what is there stays, where the epoch comes
has_beside : (batch : List Object) (d d' : Disk) → Gains on_way (ComesTo epoch_name first_text) d d' → Has d batch → Has d' batch
has_beside batch d d' g h = record { each = λ o c. by o (g.each (file_name o.id) (data_off_way o.id)) ∙ h.each o c }
  where
    by : (o : Object) → Change (ComesTo epoch_name first_text (file_name o.id)) (d (file_name o.id)) (d' (file_name o.id)) → (d' (file_name o.id)).now ≡ (d (file_name o.id)).now
    by o (Stays s l) = s
    by o (Comes b l) = absurd (epoch_not_data o.id (sym b.0))

module _ {V : Type 0} {disk : V → Option Disk} {count : V → ℕ} {left : V → ℕ → Files → Type 0} (batch : List Object) (manifest : List ℕ) (named : AreNamed batch) {d : Disk} {v0 v v' : V} where
  pub then_beside : {u u' : Unit {0}} → Walks disk count left on_way Nothing (WroteAll d batch {X = Unit {0}} (Ok u)) d v0 v → WhereTold (disk v) (λ d1. Walks disk count left on_way Nothing (PutBeside d1 manifest {X = Unit {0}} (Ok u')) d1 v v')
      → Walks disk count left on_way Nothing (AreUnderWay batch manifest) d v0 v'
  then_beside w h = bind w (λ n f b. b) (λ d1 told g put. looser (h d1 told) (λ n f b. b) (λ d2 g2 p. record {
    ready = ready_beside batch d1 d2 (λ o k. (
      p.others (file_name o.id) (λ e. epoch_apart_.name o k (sym e)) (λ e. head_apart_.name o k (sym e)),
      p.others (way_name o.id) (λ e. epoch_apart_.way o k (sym e)) (λ e. head_apart_.way o k (sym e)),
    )) put.0;
    epoch = p.epoch;
    head = p.head;
  }))
    where
      epoch_apart_ : IsApart batch epoch_way
      epoch_apart_ = epoch_way_apart batch named

      head_apart_ : IsApart batch head_way
      head_apart_ = head_apart batch named

  pub then_objects : {u : Unit {0}} → Walks disk count left on_way Nothing (AreUnderWay batch manifest) d v0 v → WhereTold (disk v) (λ d1. Walks disk count left on_way (Brings d1 batch) (Brought d1 batch {X = Unit {0}} (Ok u)) d1 v v')
      → Walks disk count left on_way (BringsFirst d batch) (AreWaiting batch manifest) d v0 v'
  then_objects w h = bind w (λ n f b. absurd b) (λ d1 told g under. looser (h d1 told) (λ n f b. an_object (brings_later g n f b)) (λ d2 g2 k. record {
    has = k.0;
    epoch = record {
      on_its_way = k.1.each epoch_way (epoch_way_apart batch named) ∙ ap (λ (x : File). slot x Settled) under.epoch;
      at_name = ap (λ (s : Slot). s.mark) (k.1.each epoch_name (epoch_apart batch));
    };
    head = ap (λ (s : Slot). s.now) (k.1.each head_way (head_apart batch named)) ∙ under.head;
  }))

module _ {V : Type 0} {disk : V → Option Disk} {count : V → ℕ} {left : V → ℕ → Files → Type 0} (batch : List Object) (manifest : List ℕ) {d : Disk} {v0 v v' : V} where
  pub then_epoch : {u : Unit {0}} → Walks disk count left on_way (BringsFirst d batch) (AreWaiting batch manifest) d v0 v
      → WhereTold (disk v) (λ d1. (bytes : List ℕ) → IsWaiting epoch_way epoch_name bytes d1 → Walks disk count left on_way (ComesTo epoch_name (Some bytes)) (Came d1 epoch_way epoch_name bytes {X = Unit {0}} (Ok u)) d1 v v')
      → Walks disk count left on_way (BringsFirst d batch) (AreThere batch manifest) d v0 v'
  then_epoch w h = bind w (λ n f b. b) (λ d1 told g are. looser (h d1 told (epoch_text 0) are.epoch) (λ n f b. the_epoch b) (λ d2 g2 k. record {
    has = has_beside batch d1 d2 g2 are.has;
    epoch = k.there;
    head = ap (λ (s : Slot). s.now) (k.others head_way (λ e. epoch_not_manifest (sym e)) (λ e. manifest_not_epoch (sym e))) ∙ are.head;
  }))

  pub then_built : ((f : Files) → left v (count v) f → ImageOf (disk v) f) → Walks disk count left on_way (BringsFirst d batch) (AreThere batch manifest) d v0 v → Calls disk count left (Syncs ok) v v'
      → Walks disk count left on_way (BringsFirst d batch) (λ d1. AreBuilt batch d1 × IsSure head_way manifest d1) d v0 v'
  then_built only w c = bind w (λ n f b. b) (λ d1 told g are. looser (sync_ok only told c) (λ n f b. b) (λ d2 g2 is. (
    record { sure = sure_then epoch_name (epoch_text 0) d1 d2 is are.epoch; has = has_then batch d1 d2 is are.has },
    sure_then head_way manifest d1 d2 is are.head,
  )))

  -- a walk, and a call that fails
  pub then_unbuilt : {X : Type 0} {A B : Name → File → Type 0} {E : Disk → Type 0} {F : Disk → Disk → Type 0} (r : Result X StoreFault) (e : StoreFault) → r ≡ Err e → IsOutside e → ((n : Name) (f : File) → A n f → BringsFirst d batch n f)
      → Walks disk count left on_way A E d v0 v → ((d1 : Disk) → disk v ≡ Some d1 → E d1 → Walks disk count left on_way B (F d1) d1 v v') → ((d1 : Disk) → Gains on_way A d d1 → (n : Name) (f : File) → B n f → BringsFirst d batch n f)
      → Walks disk count left on_way (BringsFirst d batch) (Built d batch manifest r) d v0 v'
  then_unbuilt r e is out more w next later = bind w more (λ d1 told g k. looser (next d1 told k) (later d1 g) (λ d2 g2 u. built_outside d batch manifest d2 r e is out))

  -- the last sync fails
  pub then_unsettled : {X : Type 0} (r : Result X StoreFault) (x : VaultFault) → r ≡ Err (fault_of x) → ((f : Files) → left v (count v) f → ImageOf (disk v) f)
      → Walks disk count left on_way (BringsFirst d batch) (AreThere batch manifest) d v0 v → Calls disk count left (Syncs (err x)) v v' → Walks disk count left on_way (BringsFirst d batch) (Built d batch manifest r) d v0 v'
  then_unsettled r x is only w c = bind w (λ n f b. b) (λ d1 told g are. looser (sync_err x only told c) (λ n f b. b) (λ d2 g2 s. built_outside d batch manifest d2 r (fault_of x) is (outside x)))

  -- the objects don't all come
  pub then_unbrought : {X : Type 0} (r : Result X StoreFault) (e : StoreFault) → r ≡ Err e → Walks disk count left on_way Nothing (AreUnderWay batch manifest) d v0 v
      → WhereTold (disk v) (λ d1. Walks disk count left on_way (Brings d1 batch) (Brought d1 batch {X = Unit {0}} (Err e)) d1 v v')
      → Walks disk count left on_way (BringsFirst d batch) (Built d batch manifest r) d v0 v'
  then_unbrought r e is w h = bind w (λ n f b. absurd b) (λ d1 told g under. looser (h d1 told) (λ n f b. an_object (brings_later g n f b)) (λ d2 g2 out. built_outside d batch manifest d2 r e is out))
