-- Names of a repository's files, and what stands under what is no digest.
use Rattle.std.proofs.Common.{◌≡◌, ◌==◌, false, Bool, ℕ, [], ◌∷◌, refl, sym, subst, ◌∙◌, arith}
use Rattle.std.specs.declared.option.Option.TheVariants.{None, Some}
use Rattle.cv_base.specs.Digest.{IsDigest}
use Rattle.cv_base.specs.ObjectId.{file_name}
use Rattle.cv_base.specs.declared.id.ObjectId.{ObjectId}
use Rattle.cv_base.specs.declared.object.Object.{Object}
use Rattle.cv_ports.specs.Shelf.{Shelf, IsShelf}
use Rattle.cv_vault.specs.Names.{Name}
use Rattle.cv_vault.specs.Disk.{Disk, File, Files, May, IsCalm, settled}
use Rattle.cv_objects.specs.Names.{is_digest, objects_of}
use Rattle.cv_objects.proofs.Lemmas.{is_digest_of, named_none, named_more, standing_is}

abbrev begins : Name → ℕ → Bool
begins [] c = false
begins (b ∷ bs) c = b == c

-- what stands at the name of a digest
pub at_digest : (f : Files) (id : ObjectId) → IsDigest id.hash → objects_of f id ≡ f (file_name id)
at_digest f id is = standing_is (settled f) id is

-- no object stands under what is no digest
pub none_under : (s : Shelf) (id : ObjectId) → IsShelf s → is_digest id.hash ≡ false → s id ≡ None
none_under s id h other =
    elim (s id) as (λ o. s id ≡ o → o ≡ None) [
      | None ↦ λ _. refl
      | Some bytes ↦ λ there. (
          let o : Object = record { id = id; bytes = bytes } in
          let digest : IsDigest id.hash = is_digest_of (o ∷ []) o (named_more [] o named_none (h.hash id bytes there)) (0, omega arith, refl) in
          let all : Files = λ n. Some [] in
          let seen : objects_of all id ≡ Some [] = at_digest all id digest in
          let unseen : objects_of all id ≡ None = rw other refl in
          absurd (let e : None ≡ Some [] = sym unseen ∙ seen in cc))
    ] refl

-- a settled name has the file that stands there
pub settled_at : (d : Disk) (n : Name) (f : File) → IsCalm d → May (d n) f → f ≡ (d n).now
settled_at d n f calm may = subst (λ m. May (record { now = (d n).now; mark = m }) f) (calm n) may
