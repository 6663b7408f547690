-- Ids, each once, as a loop notes them.
use Rattle.std.proofs.Common.{◌≡◌, ◌∙◌, ◌<◌, ◌+◌, ℕ, Bool, true, false, ◌||◌, List, [], ◌∷◌, ◌++◌, map, take, length, get_or, refl, sym, ap, subst, cond}
use Rattle.std.specs.Prelude.{not, is_none}
use Rattle.std.specs.List.{filter, list_any}
use Rattle.std.proofs.lemmas.List.{take_more}
use Rattle.cv_base.specs.declared.id.ObjectId.{ObjectId}
use Rattle.cv_base.specs.declared.object.Object.{Object}
use Rattle.cv_base.proofs.Laws.{same_id-eq, or_swap}
use Rattle.cv_ports.specs.Objects.{same_id}
use Rattle.cv_ports.specs.Shelf.{Shelf}
use Rattle.cv_objects.specs.Fresh.{each_once, lacking}

abbrev pub has : List ObjectId → ObjectId → Bool
has xs x = list_any (λ y. same_id y x) xs

filter_push : (p : ObjectId → Bool) (xs : List ObjectId) (x : ObjectId) → filter p (xs ++ x ∷ []) ≡ filter p xs ++ cond (p x) (x ∷ []) []
filter_push p [] x = elim (p x) as (λ b. cond b (x ∷ []) [] ≡ cond b (x ∷ []) []) [ true ↦ refl | false ↦ refl ]
filter_push p (y ∷ ys) x = elim (p y) as (λ b. cond b (y ∷ filter p (ys ++ x ∷ [])) (filter p (ys ++ x ∷ [])) ≡ cond b (y ∷ filter p ys) (filter p ys) ++ cond (p x) (x ∷ []) []) [
  | true ↦ ap (λ zs. y ∷ zs) (filter_push p ys x)
  | false ↦ filter_push p ys x
]

append_none : (xs : List ObjectId) → xs ++ [] ≡ xs
append_none [] = refl
append_none (x ∷ xs) = ap (λ ys. x ∷ ys) (append_none xs)

-- one id more is noted at the end, unless it is there
pub once_push : (xs : List ObjectId) (x : ObjectId) → each_once (xs ++ x ∷ []) ≡ cond (has xs x) (each_once xs) (each_once xs ++ x ∷ [])
once_push [] x = refl
once_push (y ∷ ys) x = by (once_push ys x) (has ys x) (same_id y x) refl refl
  where
    by : each_once (ys ++ x ∷ []) ≡ cond (has ys x) (each_once ys) (each_once ys ++ x ∷ []) → (b s : Bool) → has ys x ≡ b → same_id y x ≡ s → y ∷ filter (λ o. not (same_id y o)) (each_once (ys ++ x ∷ [])) ≡ cond (same_id y x || has ys x) (each_once (y ∷ ys)) (each_once (y ∷ ys) ++ x ∷ [])
    by before true true b s = rw (b, s) (ap (λ zs. y ∷ filter (λ o. not (same_id y o)) zs) (before ∙ rw b refl))
    by before true false b s = rw (b, s) (ap (λ zs. y ∷ filter (λ o. not (same_id y o)) zs) (before ∙ rw b refl))
    by before false true b s = rw (b, s) (ap (λ zs. y ∷ zs) (ap (filter (λ o. not (same_id y o))) (before ∙ rw b refl) ∙ filter_push (λ o. not (same_id y o)) (each_once ys) x ∙ rw s (append_none (filter (λ o. not (same_id y o)) (each_once ys)))))
    by before false false b s = rw (b, s) (ap (λ zs. y ∷ zs) (ap (filter (λ o. not (same_id y o))) (before ∙ rw b refl) ∙ filter_push (λ o. not (same_id y o)) (each_once ys) x ∙ rw s refl))

has_push : (xs : List ObjectId) (y x : ObjectId) → has (xs ++ y ∷ []) x ≡ (same_id y x || has xs x)
has_push [] y x = refl
has_push (z ∷ zs) y x = ap (λ b. same_id z x || b) (has_push zs y x) ∙ or_swap (same_id z x) (same_id y x) (has zs x)

-- ---- ids that are noted, against those that a shelf lacks

map_push : (xs : List Object) (o : Object) → map (λ (x : Object). x.id) (xs ++ o ∷ []) ≡ map (λ (x : Object). x.id) xs ++ o.id ∷ []
map_push [] o = refl
map_push (x ∷ xs) o = ap (λ zs. x.id ∷ zs) (map_push xs o)

lacking_push : (shelf : Shelf) (xs : List Object) (o : Object) → lacking (xs ++ o ∷ []) shelf ≡ lacking xs shelf ++ cond (is_none (shelf o.id)) (o.id ∷ []) []
lacking_push shelf xs o = ap (filter (λ id. is_none (shelf id))) (map_push xs o) ∙ filter_push (λ id. is_none (shelf id)) (map (λ (x : Object). x.id) xs) o.id

more_lack : (shelf : Shelf) (batch : List Object) (i : ℕ) (o : Object) → i < length batch → o ≡ get_or batch i o → lacking (take (i + 1) batch) shelf ≡ lacking (take i batch) shelf ++ cond (is_none (shelf o.id)) (o.id ∷ []) []
more_lack shelf batch i o lt is = ap (λ xs. lacking xs shelf) (take_more batch i o lt ∙ ap (λ y. take i batch ++ y ∷ []) (sym is)) ∙ lacking_push shelf (take i batch) o

-- these ids are noted, of those that the shelf lacks, and a test tells which
pub record AreOnce (xs ids : List ObjectId) (noted : ObjectId → Bool) : Type 0 where
  pub ids_ : ids ≡ each_once xs
  pub noted_ : (x : ObjectId) → noted x ≡ has xs x

-- the object stands on the shelf
pub once_there : (shelf : Shelf) (batch : List Object) (i : ℕ) (o : Object) (ids : List ObjectId) (noted : ObjectId → Bool) → i < length batch → o ≡ get_or batch i o → is_none (shelf o.id) ≡ false
    → AreOnce (lacking (take i batch) shelf) ids noted → AreOnce (lacking (take (i + 1) batch) shelf) ids noted
once_there shelf batch i o ids noted lt is there once =
    let e : lacking (take (i + 1) batch) shelf ≡ lacking (take i batch) shelf = more_lack shelf batch i o lt is ∙ ap (λ b. lacking (take i batch) shelf ++ cond b (o.id ∷ []) []) there ∙ append_none (lacking (take i batch) shelf) in
    subst (λ xs. AreOnce xs ids noted) (sym e) once

-- it doesn't, and its id is noted already
pub once_again : (shelf : Shelf) (batch : List Object) (i : ℕ) (o : Object) (ids : List ObjectId) (noted : ObjectId → Bool) → i < length batch → o ≡ get_or batch i o → is_none (shelf o.id) ≡ true → noted o.id ≡ true
    → AreOnce (lacking (take i batch) shelf) ids noted → AreOnce (lacking (take (i + 1) batch) shelf) ids noted
once_again shelf batch i o ids noted lt is none again once =
    let xs : List ObjectId = lacking (take i batch) shelf in
    let e : lacking (take (i + 1) batch) shelf ≡ xs ++ o.id ∷ [] = more_lack shelf batch i o lt is ∙ ap (λ b. xs ++ cond b (o.id ∷ []) []) none in
    let there : has xs o.id ≡ true = sym (once.noted_ o.id) ∙ again in
    subst (λ ys. AreOnce ys ids noted) (sym e) (record {
      ids_ = once.ids_ ∙ sym (once_push xs o.id ∙ rw there refl);
      noted_ = λ x. once.noted_ x ∙ sym (has_push xs o.id x ∙ same xs x there (same_id o.id x) refl);
    })
  where
    same : (xs : List ObjectId) (x : ObjectId) → has xs o.id ≡ true → (b : Bool) → same_id o.id x ≡ b → (same_id o.id x || has xs x) ≡ has xs x
    same xs x there true e = rw (e, sym (ap (has xs) (same_id-eq o.id x e)) ∙ there) refl
    same xs x there false e = rw e refl

-- it doesn't, and its id is noted now
pub once_anew : (shelf : Shelf) (batch : List Object) (i : ℕ) (o : Object) (ids : List ObjectId) (noted more : ObjectId → Bool) → i < length batch → o ≡ get_or batch i o → is_none (shelf o.id) ≡ true → noted o.id ≡ false
    → ((x : ObjectId) → more x ≡ (same_id o.id x || noted x)) → AreOnce (lacking (take i batch) shelf) ids noted → AreOnce (lacking (take (i + 1) batch) shelf) (ids ++ o.id ∷ []) more
once_anew shelf batch i o ids noted more lt is none new put once =
    let xs : List ObjectId = lacking (take i batch) shelf in
    let e : lacking (take (i + 1) batch) shelf ≡ xs ++ o.id ∷ [] = more_lack shelf batch i o lt is ∙ ap (λ b. xs ++ cond b (o.id ∷ []) []) none in
    let absent : has xs o.id ≡ false = sym (once.noted_ o.id) ∙ new in
    subst (λ ys. AreOnce ys (ids ++ o.id ∷ []) more) (sym e) (record {
      ids_ = ap (λ ys. ys ++ o.id ∷ []) once.ids_ ∙ sym (once_push xs o.id ∙ rw absent refl);
      noted_ = λ x. put x ∙ ap (λ b. same_id o.id x || b) (once.noted_ x) ∙ sym (has_push xs o.id x);
    })
