-- What stands under an object's name.
use Rattle.std.proofs.Common.{◌≡◌, ℕ, Bool, true, false, List, sym, ap, ◌∙◌}
use Rattle.std.specs.declared.option.Option.{Option}
use Rattle.std.specs.declared.option.Option.TheVariants.{Some}
use Rattle.std.specs.declared.result.Result.{Result}
use Rattle.std.specs.declared.result.Result.TheVariants.{Ok, Err}
use Rattle.std.specs.Prelude.{IsErrAnd}
use Rattle.cv_base.specs.ObjectId.{file_name}
use Rattle.cv_base.specs.declared.object.Object.{Object}
use Rattle.cv_vault.specs.declared.vault.VaultFault.{VaultFault}
use Rattle.cv_vault.specs.declared.vault.VaultFault.TheVariants as vault
use Rattle.cv_vault.specs.Names.{Name, on_way}
use Rattle.cv_vault.specs.Disk.{Disk, File, Files, ImageOf, Reads}
use Rattle.cv_vault.specs.Moments.{Calls}
use Rattle.cv_vault.specs.Walks.{Walks, Nothing}
use Rattle.cv_vault.proofs.Laws.{call, reads}
use Rattle.cv_objects.specs.Faults.{fault_of}
use Rattle.cv_objects.specs.Batches.{Shows, IsOutside}
use Rattle.cv_objects.specs.BatchesInner.{Looked, Compares}
use Rattle.cv_objects.specs.declared.store_fault.StoreFault.{StoreFault}
use Rattle.cv_objects.specs.declared.store_fault.StoreFault.TheVariants.{Collision, Failed, Damaged, NoMemory}

-- a fault of the vault, as it is handed on
pub handed_on : {T : Type 0} (r : Result T StoreFault) (e : VaultFault) → IsErrAnd r (λ x. x ≡ fault_of e) → r ≡ Err (fault_of e)
handed_on (Ok x) e h = absurd h
handed_on (Err x) e h = ap Err h

pub same_fault : {T : Type 0} (r : Result T StoreFault) (e : StoreFault) → IsErrAnd r (λ x. x ≡ e) → r ≡ Err e
same_fault (Ok x) e h = absurd h
same_fault (Err x) e h = ap Err h

pub outside : (e : VaultFault) → IsOutside (fault_of e)
outside vault.Failed = tt
outside vault.NoMemory = tt

-- a fault of the vault says nothing of an object
pub shows_outside : (d : Disk) (o : Object) (e : StoreFault) → IsOutside e → Shows d o e
shows_outside d o (Collision id) h = absurd h
shows_outside d o Failed h = tt
shows_outside d o (Damaged id found) h = absurd h
shows_outside d o NoMemory h = tt

module _ {V : Type 0} {disk : V → Option Disk} {count : V → ℕ} {left : V → ℕ → Files → Type 0} {d : Disk} {v v' : V} (o : Object) (n : Name) (at : n ≡ file_name o.id) (only : (f : Files) → left v (count v) f → ImageOf (disk v) f) (e : disk v ≡ Some d) where
  pub looked : (x : File) (r : Result Bool StoreFault) → Calls disk count left (Reads n (Ok x)) v v' → ((d' : Disk) → d' ≡ d → x ≡ (d (file_name o.id)).now → Looked d o r d') → Walks disk count left on_way Nothing (Looked d o r) d v v'
  looked x r c ends = call only e c (λ d' h. (reads n (Ok x) d d' h, ends d' h.0 (h.1 ∙ ap (λ (n : Name). (d n).now) at)))

pub looked_some : (d : Disk) (o : Object) (bytes : List ℕ) (x : File) (r : Result Bool StoreFault) → x ≡ Some bytes → Compares o bytes r → (d' : Disk) → d' ≡ d → x ≡ (d (file_name o.id)).now → Looked d o r d'
looked_some d o bytes x (Ok true) is h d' same there = (same, sym there ∙ is ∙ ap Some h)
looked_some d o bytes x (Ok false) is h d' same there = absurd h
looked_some d o bytes x (Err (Collision id)) is h d' same there = (same, (h.0, record { bytes = bytes; present = sym there ∙ is; other = h.1; hash = h.2 }))
looked_some d o bytes x (Err Failed) is h d' same there = absurd h
looked_some d o bytes x (Err (Damaged id found)) is h d' same there = (same, (h.0, record { bytes = bytes; present = sym there ∙ is; digest = h.1; other = h.2 }))
looked_some d o bytes x (Err NoMemory) is h d' same there = absurd h
