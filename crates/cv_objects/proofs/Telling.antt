-- What is told of a vault, as what a shelf tells.
use Rattle.std.proofs.Common.{◌≡◌, ℕ, refl, sym, ap, subst, ◌∙◌, length}
use Rattle.std.specs.Option.{option_map}
use Rattle.std.specs.declared.option.Option.{Option}
use Rattle.std.specs.declared.option.Option.TheVariants.{None, Some}
use Rattle.cv_base.specs.Digest.{IsDigest}
use Rattle.cv_base.specs.ObjectId.{file_name}
use Rattle.cv_base.specs.Told.{WhereTold}
use Rattle.cv_base.specs.declared.id.ObjectId.{ObjectId}
use Rattle.std.specs.declared.result.Result.{Result}
use Rattle.std.specs.declared.result.Result.TheVariants.{Ok, Err}
use Rattle.cv_ports.specs.Shelf.{Gives, fetched}
use Rattle.cv_ports.specs.declared.shelf.ShelfFault.{ShelfFault}
use Rattle.cv_ports.specs.declared.shelf.ShelfFault.TheVariants.{Failed, Damaged, NoMemory}
use Rattle.cv_vault.specs.Names.{Name}
use Rattle.cv_vault.specs.Disk.{Disk, File, Files, Reads, Measures}
use Rattle.cv_vault.specs.Moments.{Calls}
use Rattle.cv_objects.specs.Names.{standing_on}
use Rattle.cv_objects.proofs.Naming.{digest_is}

-- what holds of a told disk's objects holds of the told shelf
pub told_of : {A B : Type 0} (f : A → B) (P : B → Type 0) (o : Option A) → WhereTold o (λ d. P (f d)) → WhereTold (option_map f o) P
told_of f P None h x e = absurd (let k = e in cc)
told_of f P (Some d) h x e = subst P (let k = e in cc) (h d refl)

-- under a digest stands what stands under its name
pub standing_is : (d : Disk) (id : ObjectId) → IsDigest id.hash → standing_on d id ≡ (d (file_name id)).now
standing_is d id h = rw (digest_is id.hash h) refl

-- what was read under an object's name stands there
module _ {V : Type 0} {disk : V → Option Disk} {count : V → ℕ} {left : V → ℕ → Files → Type 0} {v v' : V} (n : Name) (id : ObjectId) (at : n ≡ file_name id) (digest : IsDigest id.hash) (d : Disk) (e : disk v ≡ Some d) where
  pub read_stands : (x : File) → Calls disk count left (Reads n (Ok x)) v v' → x ≡ standing_on d id
  read_stands x c = let t = c.tells d e in t.2.1 ∙ ap (λ (n : Name). (d n).now) at ∙ sym (standing_is d id digest)

  pub measure_stands : (x : Option ℕ) → Calls disk count left (Measures n (Ok x)) v v' → x ≡ option_map length (standing_on d id)
  measure_stands x c = let t = c.tells d e in t.2.1 ∙ ap (option_map length) (ap (λ (n : Name). (d n).now) at ∙ sym (standing_is d id digest))

-- what a fetch gives
pub gives_fetched : (id : ObjectId) (s : File) (r : Result File ShelfFault) → r ≡ fetched id s → Gives id s r
gives_fetched id s (Ok x) e = e
gives_fetched id s (Err Failed) e = tt
gives_fetched id s (Err (Damaged named found)) e = e
gives_fetched id s (Err NoMemory) e = tt

pub gives_at : (id : ObjectId) (s t : File) (r : Result File ShelfFault) → s ≡ t → Gives id s r → Gives id t r
gives_at id s t r e h = subst (λ x. Gives id x r) e h
