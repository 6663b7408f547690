-- Places that are noted.
use Rattle.std.proofs.Common.{◌≡◌, ◌&&◌, ℕ, Bool, true, false, cond, None, Some, List, length, take, get_or, ◌<◌, ◌+◌, refl, sym, ap, subst, ◌∙◌, inl, inr}
use Rattle.std.specs.Prelude.{slice_get}
use Rattle.std.specs.List.{Contains}
use Rattle.std.specs.Str.{bytes_eq}
use Rattle.std.specs.BTreeMap.{BTreeMap, get, Updates}
use Rattle.std.proofs.lemmas.Map.Text.{is_eq-slice_cmp}
use Rattle.std.proofs.lemmas.Option.{slice_get_read, same_Some}
use Rattle.std.proofs.Math.Bool.{and-true}
use Rattle.cv_base.specs.BytesOrder.{bytes_cmp}
use Rattle.cv_base.specs.declared.id.Kind.{Kind}
use Rattle.cv_base.specs.declared.id.Kind.TheVariants.{Plain, Catalogue, History}
use Rattle.cv_base.specs.declared.id.ObjectId.{ObjectId}
use Rattle.cv_base.specs.declared.object.Object.{Object}
use Rattle.cv_base.specs.ObjectId.{same_id, same_kind}
use Rattle.cv_base.proofs.Laws.{unchosen, same_id-own, same_id-eq}
use Rattle.cv_objects.specs.PlacesInner.{of_kind, place_of}
use Rattle.cv_objects.specs.Batches.{IsOne}
use Rattle.cv_objects.specs.declared.places.Places.{Places}
use Rattle.cv_objects.proofs.Lists.{last_or_earlier}

own : (m n : BTreeMap (List ℕ) ℕ) (hash q : List ℕ) (p : ℕ) → Updates bytes_cmp m n hash (Some p) → get bytes_cmp n q ≡ cond (bytes_eq hash q && true) (Some p) (get bytes_cmp m q)
own m n hash q p u = u.0 q ∙ ap (λ (b : Bool). cond b (Some p) (get bytes_cmp m q)) (is_eq-slice_cmp hash q ∙ sym (and-true (bytes_eq hash q)))

other : (m n : BTreeMap (List ℕ) ℕ) (hash q : List ℕ) (p : ℕ) → n ≡ m → get bytes_cmp n q ≡ cond (bytes_eq hash q && false) (Some p) (get bytes_cmp m q)
other m n hash q p same = ap (λ (x : BTreeMap (List ℕ) ℕ). get bytes_cmp x q) same ∙ unchosen (bytes_eq hash q) (Some p) (get bytes_cmp m q)

-- one place more, under its kind
plain_at : (was are : Places) (hash q : List ℕ) (p : ℕ) → Updates bytes_cmp was.plain are.plain hash (Some p) → are.catalogues ≡ was.catalogues → are.records ≡ was.records
    → (j : Kind) → get bytes_cmp (of_kind are j) q ≡ cond (bytes_eq hash q && same_kind Plain j) (Some p) (get bytes_cmp (of_kind was j) q)
plain_at was are hash q p u a b Plain = own was.plain are.plain hash q p u
plain_at was are hash q p u a b Catalogue = other was.catalogues are.catalogues hash q p a
plain_at was are hash q p u a b History = other was.records are.records hash q p b

pub put_plain : (was are : Places) (id : ObjectId) (p : ℕ) → id.kind ≡ Plain → Updates bytes_cmp was.plain are.plain id.hash (Some p) → are.catalogues ≡ was.catalogues → are.records ≡ was.records
    → (x : ObjectId) → place_of are x ≡ cond (same_id id x) (Some p) (place_of was x)
put_plain was are id p is u a b x = rw is (plain_at was are id.hash x.hash p u a b x.kind)

catalogue_at : (was are : Places) (hash q : List ℕ) (p : ℕ) → Updates bytes_cmp was.catalogues are.catalogues hash (Some p) → are.plain ≡ was.plain → are.records ≡ was.records
    → (j : Kind) → get bytes_cmp (of_kind are j) q ≡ cond (bytes_eq hash q && same_kind Catalogue j) (Some p) (get bytes_cmp (of_kind was j) q)
catalogue_at was are hash q p u a b Plain = other was.plain are.plain hash q p a
catalogue_at was are hash q p u a b Catalogue = own was.catalogues are.catalogues hash q p u
catalogue_at was are hash q p u a b History = other was.records are.records hash q p b

pub put_catalogue : (was are : Places) (id : ObjectId) (p : ℕ) → id.kind ≡ Catalogue → Updates bytes_cmp was.catalogues are.catalogues id.hash (Some p) → are.plain ≡ was.plain → are.records ≡ was.records
    → (x : ObjectId) → place_of are x ≡ cond (same_id id x) (Some p) (place_of was x)
put_catalogue was are id p is u a b x = rw is (catalogue_at was are id.hash x.hash p u a b x.kind)

record_at : (was are : Places) (hash q : List ℕ) (p : ℕ) → Updates bytes_cmp was.records are.records hash (Some p) → are.plain ≡ was.plain → are.catalogues ≡ was.catalogues
    → (j : Kind) → get bytes_cmp (of_kind are j) q ≡ cond (bytes_eq hash q && same_kind History j) (Some p) (get bytes_cmp (of_kind was j) q)
record_at was are hash q p u a b Plain = other was.plain are.plain hash q p a
record_at was are hash q p u a b Catalogue = other was.catalogues are.catalogues hash q p b
record_at was are hash q p u a b History = own was.records are.records hash q p u

pub put_record : (was are : Places) (id : ObjectId) (p : ℕ) → id.kind ≡ History → Updates bytes_cmp was.records are.records id.hash (Some p) → are.plain ≡ was.plain → are.catalogues ≡ was.catalogues
    → (x : ObjectId) → place_of are x ≡ cond (same_id id x) (Some p) (place_of was x)
put_record was are id p is u a b x = rw is (record_at was are id.hash x.hash p u a b x.kind)

-- ---- a batch whose objects are noted

-- an object with this one's id and bytes is noted
pub record IsHere (batch : List Object) (places : Places) (o : Object) : Type 0 where
  pub place : ℕ
  pub first : Object
  pub noted : place_of places o.id ≡ Some place
  pub there : slice_get batch place ≡ Some first
  pub same : first.bytes ≡ o.bytes

-- the first so many are
pub record AreHere (batch : List Object) (n : ℕ) (places : Places) : Type 0 where
  pub found : (id : ObjectId) (p : ℕ) → place_of places id ≡ Some p → (o : Object) × (slice_get batch p ≡ Some o) × (o.id ≡ id)
  pub all : (o : Object) → Contains (take n batch) o → IsHere batch places o

-- one more, whose id is noted already
pub here_again : (batch : List Object) (n p : ℕ) (places : Places) (o : Object) → AreHere batch n places → n < length batch → o ≡ get_or batch n o → place_of places o.id ≡ Some p
    → ((other : Object) → slice_get batch p ≡ Some other → other.bytes ≡ o.bytes) → AreHere batch (n + 1) places
here_again batch n p places o here lt is at alike = record {
  found = here.found;
  all = λ a h. elim (last_or_earlier batch n o a lt is h) [
    | inl old ↦ here.all a old
    | inr e ↦ subst (IsHere batch places) e (let f = here.found o.id p at in record { place = p; first = f.0; noted = at; there = f.1; same = alike f.0 f.1 })
  ];
}

-- one more, under a new id
pub here_anew : (batch : List Object) (n : ℕ) (places more : Places) (o : Object) → AreHere batch n places → n < length batch → o ≡ get_or batch n o → place_of places o.id ≡ None
    → ((x : ObjectId) → place_of more x ≡ cond (same_id o.id x) (Some n) (place_of places x)) → AreHere batch (n + 1) more
here_anew batch n places more o here lt is none put = record {
  found = λ id p e. found id p (same_id o.id id) refl (sym (put id) ∙ e);
  all = λ a h. elim (last_or_earlier batch n o a lt is h) [
    | inl old ↦ (let k = here.all a old in earlier a k (same_id o.id a.id) refl)
    | inr e ↦ subst (IsHere batch more) e (record { place = n; first = o; noted = put o.id ∙ rw (same_id-own o.id) refl; there = at; same = refl })
  ];
}
  where
    at : slice_get batch n ≡ Some o
    at = slice_get_read batch (length batch) n o refl lt is

    found : (id : ObjectId) (p : ℕ) (b : Bool) → same_id o.id id ≡ b → cond b (Some n) (place_of places id) ≡ Some p → (a : Object) × (slice_get batch p ≡ Some a) × (a.id ≡ id)
    found id p true same e = (o, (let j : n ≡ p = cc in ap (slice_get batch) (sym j) ∙ at), same_id-eq o.id id same)
    found id p false same e = here.found id p e

    earlier : (a : Object) → IsHere batch places a → (b : Bool) → same_id o.id a.id ≡ b → IsHere batch more a
    earlier a k true same = absurd (let e : o.id ≡ a.id = same_id-eq o.id a.id same in let w : None ≡ Some k.place = sym none ∙ ap (place_of places) e ∙ k.noted in cc)
    earlier a k false same = record { place = k.place; first = k.first; noted = put a.id ∙ ap (λ (b : Bool). cond b (Some n) (place_of places a.id)) same ∙ k.noted; there = k.there; same = k.same }

-- where all are, objects of one id have the same bytes
pub here_one : (batch : List Object) (places : Places) → ((o : Object) → Contains batch o → IsHere batch places o) → IsOne batch
here_one batch places all = record { each = λ a b x y e. one a b (all a x) (all b y) e }
  where
    one : (a b : Object) → IsHere batch places a → IsHere batch places b → a.id ≡ b.id → a.bytes ≡ b.bytes
    one a b x y e =
        let place : x.place ≡ y.place = same_Some _ _ (sym x.noted ∙ ap (place_of places) e ∙ y.noted) in
        let first : x.first ≡ y.first = same_Some _ _ (sym x.there ∙ ap (slice_get batch) place ∙ y.there) in
        sym x.same ∙ ap (λ (o : Object). o.bytes) first ∙ y.same
