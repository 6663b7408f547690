-- Which of the catalogues that were made are sent.
use Rattle.std.proofs.Common.{◌≡◌, ◌⊎◌, Bool, true, false, List, [], ◌∷◌, Some, is_some, map, refl, sym, ap, subst, inl, inr}
use Rattle.std.specs.Prelude.{Contains, if◌then◌else◌, not}
use Rattle.cv_base.specs.declared.id.ObjectId.{ObjectId}
use Rattle.cv_base.specs.declared.object.Object.{Object}
use Rattle.cv_base.proofs.Laws.{same_id-own, same_id-eq}
use Rattle.cv_ports.specs.Objects.{same_id, shelf_of}
use Rattle.cv_cut.proofs.Lemmas.{first_or_later, first_there, later_there, none_there, passes, passing}
use Rattle.cv_publisher.specs.Assembling.{unfetched}

abbrev pub ids_of : List Object → List ObjectId
ids_of os = map (λ o. o.id) os

-- what stands under an id is one of the objects
on_shelf : (os : List Object) (id : ObjectId) → is_some (shelf_of os id) ≡ true → Contains (ids_of os) id
on_shelf [] id is = absurd cc
on_shelf (o ∷ os) id is = by (same_id o.id id) refl (λ there. on_shelf os id there)
  where
    by : (b : Bool) → same_id o.id id ≡ b → (is_some (shelf_of os id) ≡ true → Contains (ids_of os) id) → Contains (o.id ∷ ids_of os) id
    by true h later = subst (λ (x : ObjectId). Contains (o.id ∷ ids_of os) x) (same_id-eq o.id id h) (first_there o.id (ids_of os))
    by false h later =
        later_there o.id (ids_of os) id (later (subst (λ (b : Bool). is_some (if b then Some o.bytes else shelf_of os id) ≡ true) h is))

-- each that was made is sent or was fetched, and no other is sent
pub each_sent : (os made : List Object) (o : Object) → Contains made o → Contains (unfetched (shelf_of os) made) o ⊎ Contains (ids_of os) o.id
each_sent os made o has = by (is_some (shelf_of os o.id)) refl
  where
    by : (b : Bool) → is_some (shelf_of os o.id) ≡ b → Contains (unfetched (shelf_of os) made) o ⊎ Contains (ids_of os) o.id
    by true h = inr (on_shelf os o.id h)
    by false h = inl (passing (λ (x : Object). not (is_some (shelf_of os x.id))) made o has (ap not h))

-- what an object has an id of stands on the shelf
stands : (os : List Object) (id : ObjectId) → Contains (ids_of os) id → is_some (shelf_of os id) ≡ true
stands [] id has = absurd (none_there id has)
stands (o ∷ os) id has = by (same_id o.id id) refl (λ later. stands os id later)
  where
    by : (b : Bool) → same_id o.id id ≡ b → (Contains (ids_of os) id → is_some (shelf_of os id) ≡ true) → is_some (if b then Some o.bytes else shelf_of os id) ≡ true
    by true h later = refl
    by false h later = elim (first_or_later o.id (ids_of os) id has) [
      | inl is ↦ let own : same_id o.id id ≡ true = subst (λ (x : ObjectId). same_id x id ≡ true) (sym is) (same_id-own id) in absurd cc
      | inr more ↦ later more
    ]

-- what is sent wasn't fetched
pub never_fetched : (os made : List Object) (o : Object) → Contains (unfetched (shelf_of os) made) o → Contains (ids_of os) o.id → ⊥
never_fetched os made o has known =
    let lacks : not (is_some (shelf_of os o.id)) ≡ true = (passes (λ (x : Object). not (is_some (shelf_of os x.id))) made o has).1 in
    let there : is_some (shelf_of os o.id) ≡ true = stands os o.id known in
    absurd cc

pub only_made : (os made : List Object) (o : Object) → Contains (unfetched (shelf_of os) made) o → Contains made o
only_made os made o has = (passes (λ (x : Object). not (is_some (shelf_of os x.id))) made o has).0
