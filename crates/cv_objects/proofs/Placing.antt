-- Objects that are brought to their names.
use Rattle.std.proofs.Common.{◌≡◌, ℕ, Bool, true, false, refl, sym, ap, subst, ◌∙◌}
use Rattle.std.proofs.lemmas.Option.{none-some, same_Some}
use Rattle.std.specs.declared.option.Option.{Option}
use Rattle.std.specs.declared.option.Option.TheVariants.{None, Some}
use Rattle.std.specs.declared.result.Result.{Result}
use Rattle.std.specs.declared.result.Result.TheVariants.{Ok, Err}
use Rattle.sha1.specs.Sha1.{sha1}
use Rattle.cv_base.specs.ObjectId.{file_name}
use Rattle.cv_base.specs.declared.object.Object.{Object}
use Rattle.cv_vault.specs.declared.vault.VaultFault.{VaultFault}
use Rattle.cv_vault.specs.Names.{Name, on_way}
use Rattle.cv_vault.specs.Disk.{Disk, Slot, Files, ImageOf, Renames, Settled, slot, with_slot, renamed, moved, both_settled}
use Rattle.cv_vault.specs.Moments.{Calls}
use Rattle.cv_vault.specs.Walks.{Walks, Nothing, Gains}
use Rattle.cv_vault.proofs.Laws.{here, elsewhere, call, bind, looser, renames}
use Rattle.cv_objects.specs.Names.{way_name}
use Rattle.cv_objects.specs.Batches.{Shows, BringsOne, IsOutside}
use Rattle.cv_objects.specs.BatchesInner.{Looked, Waits, IsPlaced, Placed, stands, can}
use Rattle.cv_objects.specs.declared.store_fault.StoreFault.{StoreFault}
use Rattle.cv_objects.specs.declared.store_fault.StoreFault.TheVariants.{Collision, Failed, Damaged, NoMemory}
use Rattle.cv_objects.proofs.Naming.{way_on_way, data_off_way}

pub record IsComing (d : Disk) (o : Object) : Type 0 where
  pub absent : d (file_name o.id) ≡ slot None Settled
  pub on_its_way : d (way_name o.id) ≡ slot (Some o.bytes) Settled

will_come : (d : Disk) (o : Object) → Waits d o → (d (file_name o.id)).now ≡ None → IsComing d o
will_come d o (stands s) e = absurd (let t = s in cc)
will_come d o (can a b) e = record { absent = a; on_its_way = b }

placed : (d : Disk) (o : Object) → IsComing d o → IsPlaced d o (renamed d (way_name o.id) (file_name o.id))
placed d o h =
    let both : Bool = both_settled d (way_name o.id) (file_name o.id) in
    let s : Slot = slot None (moved both (d (way_name o.id)).now) in
    let t : Slot = slot (d (way_name o.id)).now (moved both (d (file_name o.id)).now) in
    record {
      there = ap (λ (s : Slot). s.now) (here (with_slot d (way_name o.id) s) (file_name o.id) t) ∙ ap (λ (s : Slot). s.now) h.on_its_way;
      others = λ n a b. elsewhere (with_slot d (way_name o.id) s) (file_name o.id) t n b ∙ elsewhere d (way_name o.id) s n a;
    }

gain : (d : Disk) (o : Object) (r : Result Bool VaultFault) (d' : Disk) → IsComing d o → Renames (way_name o.id) (file_name o.id) r d d' → Gains on_way (BringsOne d o) d d'
gain d o r d' h x = renames (way_name o.id) (file_name o.id) d (way_on_way o.id) (data_off_way o.id) (ap (λ (s : Slot). s.mark) h.on_its_way) (ap (λ (s : Slot). s.mark) h.absent)
    (record { name = refl; file = ap (λ (s : Slot). s.now) h.on_its_way; absent = ap (λ (s : Slot). s.now) h.absent }) r d' x

-- an object that waits shows no fault of its own
pub shows_waits : (d : Disk) (o : Object) (e : StoreFault) → o.id.hash ≡ sha1 o.bytes → Waits d o → Shows d o e → IsOutside e
shows_waits d o Failed named w h = tt
shows_waits d o NoMemory named w h = tt
shows_waits d o (Collision id) named (stands s) h = h.1.other (same_Some _ _ (sym h.1.present ∙ s))
shows_waits d o (Collision id) named (can a b) h = none-some _ (sym (ap (λ (s : Slot). s.now) a) ∙ h.1.present)
shows_waits d o (Damaged id found) named (stands s) h = h.1.other (h.1.digest ∙ ap sha1 (same_Some _ _ (sym h.1.present ∙ s)) ∙ sym named)
shows_waits d o (Damaged id found) named (can a b) h = none-some _ (sym (ap (λ (s : Slot). s.now) a) ∙ h.1.present)

module _ {V : Type 0} {disk : V → Option Disk} {count : V → ℕ} {left : V → ℕ → Files → Type 0} {d : Disk} {v v1 : V} (o : Object) where
  -- what stands there isn't the object's
  pub placed_shows : {X : Type 0} (r : Result X StoreFault) (e : StoreFault) → r ≡ Err e → o.id.hash ≡ sha1 o.bytes → Waits d o → Walks disk count left on_way Nothing (Looked d o (Err e)) d v v1 → Walks disk count left on_way (BringsOne d o) (Placed d o r) d v v1
  placed_shows r e is named waits w = rw is (looser w (λ n f b. absurd b) (λ d' g l. shows_waits d o e named waits l.1))

module _ {V : Type 0} {disk : V → Option Disk} {count : V → ℕ} {left : V → ℕ → Files → Type 0} {d : Disk} {v v1 v2 : V} (o : Object) where
  -- a rename, whatever it answers
  pub place : (way name : Name) (r : Result Bool VaultFault) (F : Disk → Type 0) → way ≡ way_name o.id → name ≡ file_name o.id → ((f : Files) → left v1 (count v1) f → ImageOf (disk v1) f) → Waits d o
      → Walks disk count left on_way Nothing (Looked d o (Ok false)) d v v1 → Calls disk count left (Renames way name r) v1 v2
      → ((d' : Disk) → IsComing d o → Renames (way_name o.id) (file_name o.id) r d d' → F d') → Walks disk count left on_way (BringsOne d o) F d v v2
  place way name r F is at only waits w c ends =
      bind w (λ n f b. absurd b) (λ d1 told g l.
      let h : IsComing d o = will_come d o waits l.1 in
      subst (λ y. Walks disk count left on_way (BringsOne d o) F y v1 v2) (sym l.0)
      (call only (told ∙ ap Some l.0) c (λ d' x. let y : Renames (way_name o.id) (file_name o.id) r d d' = rw (← is, ← at) x in (gain d o r d' h y, ends d' h y))))

  pub placed_now : (way name : Name) → way ≡ way_name o.id → name ≡ file_name o.id → ((f : Files) → left v1 (count v1) f → ImageOf (disk v1) f) → Waits d o
      → Walks disk count left on_way Nothing (Looked d o (Ok false)) d v v1 → Calls disk count left (Renames way name (Ok true)) v1 v2
      → Walks disk count left on_way (BringsOne d o) (IsPlaced d o) d v v2
  placed_now way name is at only waits w c = place way name (Ok true) (IsPlaced d o) is at only waits w c (λ d' h x. subst (IsPlaced d o) (sym x.1) (placed d o h))

  pub placed_not : {X : Type 0} (way name : Name) (s : Result Bool VaultFault) (r : Result X StoreFault) (e : StoreFault) → r ≡ Err e → IsOutside e → way ≡ way_name o.id → name ≡ file_name o.id → ((f : Files) → left v1 (count v1) f → ImageOf (disk v1) f) → Waits d o
      → Walks disk count left on_way Nothing (Looked d o (Ok false)) d v v1 → Calls disk count left (Renames way name s) v1 v2
      → Walks disk count left on_way (BringsOne d o) (Placed d o r) d v v2
  placed_not {X} way name s r e fails out is at only waits w c = rw fails (place way name s (Placed d o {X = X} (Err e)) is at only waits w c (λ d' h x. out))
