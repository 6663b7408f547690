-- Contents, each once.
use Rattle.std.proofs.Common.{◌≡◌, ℕ, Bool, true, false, not, ◌||◌, List, [], ◌∷◌, ◌++◌, refl, sym, ap, ◌∙◌}
use Rattle.std.specs.Prelude.{bytes_eq}
use Rattle.std.specs.BTreeSet.{BTreeSet, contains, Updates}
use Rattle.std.proofs.lemmas.Bool.{not-true, not-false}
use Rattle.sha1.specs.Sha1.{sha1}
use Rattle.cv_base.specs.BytesOrder.{bytes_cmp}
use Rattle.cv_base.specs.declared.object.Object.{Object}
use Rattle.cv_base.specs.declared.id.ObjectId.{ObjectId}
use Rattle.cv_base.specs.declared.id.Kind.TheVariants.{Plain}
use Rattle.cv_base.specs.ObjectId.{object_id}
use Rattle.cv_overlay.specs.FoundInner.{has_hash, with_content}
use Rattle.cv_base.proofs.Laws.{contains-more}

or_swap : (a b c : Bool) → ((a || b) || c) ≡ (a || (b || c))
or_swap true b c = refl
or_swap false b c = refl

has_hash-push : (os : List Object) (o : Object) (h : List ℕ) → has_hash (os ++ o ∷ []) h ≡ (has_hash os h || bytes_eq o.id.hash h)
has_hash-push [] o h = elim (bytes_eq o.id.hash h) as (λ (b : Bool). (b || false) ≡ (false || b)) [ true ↦ refl | false ↦ refl ]
has_hash-push (p ∷ os) o h = rw (has_hash-push os o h) (sym (or_swap (bytes_eq p.id.hash h) (has_hash os h) (bytes_eq o.id.hash h)))

-- the keys are the hashes of the objects, with one more of both
pub known_more : (os : List Object) (o : Object) (s n : BTreeSet (List ℕ)) → ((h : List ℕ) → contains bytes_cmp s h ≡ has_hash os h)
    → Updates bytes_cmp s n o.id.hash true → (h : List ℕ) → contains bytes_cmp n h ≡ has_hash (os ++ o ∷ []) h
known_more os o s n known put h = contains-more s n o.id.hash put h ∙ ap (λ (b : Bool). b || bytes_eq o.id.hash h) (known h) ∙ sym (has_hash-push os o h)

-- the content is there, or it is added
module _ (os : List Object) (o : Object) (s : BTreeSet (List ℕ)) (added : Bool) (is : o.id ≡ object_id (sha1 o.bytes) Plain)
    (known : (h : List ℕ) → contains bytes_cmp s h ≡ has_hash os h) (new : added ≡ not (contains bytes_cmp s o.id.hash)) where
  said : contains bytes_cmp s o.id.hash ≡ has_hash os (sha1 o.bytes)
  said = known o.id.hash ∙ ap (λ (i : ObjectId). has_hash os i.hash) is

  pub content_same : added ≡ false → os ≡ with_content os o.bytes
  content_same old = let there : has_hash os (sha1 o.bytes) ≡ true = sym said ∙ not-false _ (sym new ∙ old) in rw there refl

  pub content_more : added ≡ true → os ++ o ∷ [] ≡ with_content os o.bytes
  content_more is_new =
      let lacks : has_hash os (sha1 o.bytes) ≡ false = sym said ∙ not-true _ (sym new ∙ is_new) in
      rw lacks (ap (λ (i : ObjectId). os ++ record { id = i; bytes = o.bytes } ∷ []) is)
