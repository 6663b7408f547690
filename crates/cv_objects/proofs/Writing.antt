-- Objects that are put on their way.
use Rattle.std.proofs.Common.{◌≡◌, ℕ, false, refl, sym, ap, subst, ◌∙◌}
use Rattle.std.specs.declared.option.Option.{Option}
use Rattle.std.specs.declared.option.Option.TheVariants.{None, Some}
use Rattle.std.specs.declared.result.Result.{Result}
use Rattle.std.specs.declared.result.Result.TheVariants.{Ok, Err}
use Rattle.cv_base.specs.ObjectId.{file_name}
use Rattle.cv_base.specs.declared.object.Object.{Object}
use Rattle.cv_vault.specs.declared.vault.VaultFault.{VaultFault}
use Rattle.cv_vault.specs.Names.{Name, on_way}
use Rattle.cv_vault.specs.Disk.{Disk, Slot, Files, ImageOf, Writes, Torn, slot, written}
use Rattle.cv_vault.specs.Moments.{Calls}
use Rattle.cv_vault.specs.Walks.{Walks, Nothing}
use Rattle.cv_vault.proofs.Laws.{here, elsewhere, call, bind, writes, ok, err}
use Rattle.cv_objects.specs.Names.{way_name}
use Rattle.cv_objects.specs.Faults.{fault_of}
use Rattle.cv_objects.specs.Batches.{is_coming}
use Rattle.cv_objects.specs.BatchesInner.{Looked, IsWritten, Wrote}
use Rattle.cv_objects.specs.declared.store_fault.StoreFault.{StoreFault}
use Rattle.cv_objects.proofs.Naming.{data_not_way, way_on_way}
use Rattle.cv_objects.proofs.Looking.{outside, shows_outside}

new_written : (d : Disk) (o : Object) (d' : Disk) → (d (file_name o.id)).now ≡ None → d' ≡ written d (way_name o.id) (Some o.bytes) → IsWritten d o d'
new_written d o d' absent e = subst (IsWritten d o) (sym e) (record {
  ready = is_coming
      (ap (λ (s : Slot). s.now) (elsewhere d (way_name o.id) (slot (Some o.bytes) Torn) (file_name o.id) (data_not_way o.id o.id)) ∙ absent)
      (ap (λ (s : Slot). s.now) (here d (way_name o.id) (slot (Some o.bytes) Torn)));
  others = λ n a. elsewhere d (way_name o.id) (slot (Some o.bytes) Torn) n a;
})

module _ {V : Type 0} {disk : V → Option Disk} {count : V → ℕ} {left : V → ℕ → Files → Type 0} {d : Disk} {v v1 v2 : V} (o : Object) (way bytes : Name) (is : way ≡ way_name o.id) (same : bytes ≡ o.bytes)
    (only : (f : Files) → left v1 (count v1) f → ImageOf (disk v1) f) (w : Walks disk count left on_way Nothing (Looked d o (Ok false)) d v v1) where
  pub wrote_fails : {X : Type 0} (e : VaultFault) (r : Result X StoreFault) → r ≡ Err (fault_of e) → Calls disk count left (Writes way bytes (err e)) v1 v2 → Walks disk count left on_way Nothing (Wrote d o r) d v v2
  wrote_fails e r fails c = rw fails (bind w (λ n f b. b) (λ d1 told g l. call only told c (λ d' x. (writes way bytes (err e) d1 d' (rw is (way_on_way o.id)) x, shows_outside d o (fault_of e) (outside e)))))

  pub wrote_new : Calls disk count left (Writes way bytes ok) v1 v2 → Walks disk count left on_way Nothing (IsWritten d o) d v v2
  wrote_new c = bind w (λ n f b. b) (λ d1 told g l. call only told c (λ d' x. (writes way bytes ok d1 d' (rw is (way_on_way o.id)) x, new_written d o d' l.1 (x ∙ rw (is, same, l.0) refl))))
