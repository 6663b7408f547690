-- Where paths lead to in the tree of names, as places come and go.
use Rattle.std.proofs.Common.{◌≡◌, ◌≢◌, ℕ, true, false, cond, List, [], ◌∷◌, ◌++◌, Option, None, Some, Contains, refl, sym, ap, subst, ◌∙◌, inl, inr}
use Rattle.std.proofs.lemmas.Bool.{or_parts}
use Rattle.std.proofs.lemmas.Option.{none-some, same_Some}
use Rattle.cv_base.specs.Path.{Path, same_name, overlap}
use Rattle.cv_base.proofs.Laws.{same_name_is, same_name_itself}
use Rattle.cv_links.specs.declared.id.Id.{Id}
use Rattle.cv_links.proofs.Laws.{here, later, id_cases}
use Rattle.cv_leases.specs.declared.names.Place.{Place}
use Rattle.cv_leases.specs.Names.{has_name, is_leased, named, step, reach}
use Rattle.cv_leases.specs.NamesInner.{leased_at, meets}

module _ (at : Id → Option Place) (below : Id → List Id) where
  pub reach_none : (path : Path) → reach at below path None ≡ None
  reach_none [] = refl
  reach_none (name ∷ path) = reach_none path

  pub meets_none : (path : Path) → meets at below path None ≡ false
  meets_none [] = refl
  meets_none (name ∷ path) = meets_none path

  -- one name more
  pub reach_more : (path : Path) (name : List ℕ) (from : Option Id) → reach at below (path ++ name ∷ []) from ≡ step at below name (reach at below path from)
  reach_more [] name from = refl
  reach_more (first ∷ path) name from = reach_more path name (step at below first from)

  other_name : (m n : List ℕ) → same_name m n ≡ false → same_name n m ≡ false
  other_name m n e =
      elim (same_name n m) as (λ b. same_name n m ≡ b → b ≡ false) [
        | true ↦ λ t. let same : n ≡ m = same_name_is n m t in let itself : same_name m n ≡ true = subst (λ (x : List ℕ). same_name m x ≡ true) (sym same) (same_name_itself m) in absurd cc
        | false ↦ λ t. refl
      ] refl

  -- where a path meets no lease, no lease overlaps it
  pub clear : (path other : Path) (from : Option Id) (id : Id) → meets at below path from ≡ false → reach at below other from ≡ Some id → is_leased (at id) ≡ true → overlap other path ≡ false
  clear [] other None id free there leased = absurd (none-some id (sym (reach_none other) ∙ there))
  clear [] other (Some from) id free there leased = absurd cc
  clear (n ∷ path) [] from id free there leased =
      let one : leased_at at from ≡ true = ap (leased_at at) there ∙ leased in
      let two = or_parts (leased_at at from) _ free in absurd cc
  clear (n ∷ path) (m ∷ other) from id free there leased =
      elim (same_name m n) as (λ b. same_name m n ≡ b → overlap (m ∷ other) (n ∷ path) ≡ false) [
        | true ↦ λ t.
            let same : m ≡ n = same_name_is m n t in
            let rest = clear path other (step at below n from) id (or_parts (leased_at at from) _ free).1 (subst (λ (x : List ℕ). reach at below other (step at below x from) ≡ Some id) same there) leased in
            subst (λ (x : List ℕ). overlap (x ∷ other) (n ∷ path) ≡ false) (sym same) (rw (same_name_itself n) rest)
        | false ↦ λ t. rw (t, other_name m n t) refl
      ] refl

-- ---- as places come

-- a name is found among places as among those of the same names
pub named_kept : (at now : Id → Option Place) (name : List ℕ) (xs : List Id) → ((i : Id) → Contains xs i → has_name name (now i) ≡ has_name name (at i)) → named now name xs ≡ named at name xs
named_kept at now name [] same = refl
named_kept at now name (x ∷ xs) same = ap (λ b. cond b (Some x) (named now name xs)) (same x (here x xs)) ∙ ap (cond (has_name name (at x)) (Some x)) (named_kept at now name xs (λ i c. same i (later x xs i c)))

-- a name that is found among some places is found where others follow
pub named_more : (at now : Id → Option Place) (name : List ℕ) (xs ys : List Id) (id : Id) → ((i : Id) → Contains xs i → has_name name (now i) ≡ has_name name (at i)) → named at name xs ≡ Some id → named now name (xs ++ ys) ≡ Some id
named_more at now name [] ys id same found = absurd cc
named_more at now name (x ∷ xs) ys id same found =
    elim (has_name name (at x)) as (λ b. has_name name (at x) ≡ b → cond b (Some x) (named at name xs) ≡ Some id → cond (has_name name (now x)) (Some x) (named now name (xs ++ ys)) ≡ Some id) [
      | true ↦ λ e is. rw (same x (here x xs), e) is
      | false ↦ λ e is. rw (same x (here x xs), e) (named_more at now name xs ys id (λ i c. same i (later x xs i c)) is)
    ] refl found

-- one that isn't is found in the place that follows
pub named_new : (at now : Id → Option Place) (name : List ℕ) (xs : List Id) (id : Id) → ((i : Id) → Contains xs i → has_name name (now i) ≡ has_name name (at i)) → named at name xs ≡ None → has_name name (now id) ≡ true → named now name (xs ++ id ∷ []) ≡ Some id
named_new at now name [] id same none has = rw has refl
named_new at now name (x ∷ xs) id same none has =
    elim (has_name name (at x)) as (λ b. has_name name (at x) ≡ b → cond b (Some x) (named at name xs) ≡ None → cond (has_name name (now x)) (Some x) (named now name (xs ++ id ∷ [])) ≡ Some id) [
      | true ↦ λ e is. absurd cc
      | false ↦ λ e is. rw (same x (here x xs), e) (named_new at now name xs id (λ i c. same i (later x xs i c)) is has)
    ] refl none

-- a name found elsewhere is found where a place is gone
pub named_less : (at now : Id → Option Place) (name : List ℕ) (front back : List Id) (gone id : Id) → ((i : Id) → i ≢ gone → has_name name (now i) ≡ has_name name (at i)) → ((i : Id) → Contains (front ++ back) i → i ≢ gone) → gone ≢ id → named at name (front ++ gone ∷ back) ≡ Some id → named now name (front ++ back) ≡ Some id
named_less at now name [] back gone id same apart other found =
    elim (has_name name (at gone)) as (λ b. cond b (Some gone) (named at name back) ≡ Some id → named now name back ≡ Some id) [
      | true ↦ λ is. absurd (other (same_Some gone id is))
      | false ↦ λ is. kept back (λ i c. apart i c) is
    ] found
  where
    kept : (xs : List Id) → ((i : Id) → Contains xs i → i ≢ gone) → named at name xs ≡ Some id → named now name xs ≡ Some id
    kept [] away is = absurd cc
    kept (x ∷ xs) away is =
        elim (has_name name (at x)) as (λ b. has_name name (at x) ≡ b → cond b (Some x) (named at name xs) ≡ Some id → cond (has_name name (now x)) (Some x) (named now name xs) ≡ Some id) [
          | true ↦ λ e i. rw (same x (away x (here x xs)), e) i
          | false ↦ λ e i. rw (same x (away x (here x xs)), e) (kept xs (λ k c. away k (later x xs k c)) i)
        ] refl is
named_less at now name (x ∷ front) back gone id same apart other found =
    elim (has_name name (at x)) as (λ b. has_name name (at x) ≡ b → cond b (Some x) (named at name (front ++ gone ∷ back)) ≡ Some id → cond (has_name name (now x)) (Some x) (named now name (front ++ back)) ≡ Some id) [
      | true ↦ λ e is. rw (same x (apart x (here x (front ++ back))), e) is
      | false ↦ λ e is. rw (same x (apart x (here x (front ++ back))), e) (named_less at now name front back gone id same (λ i c. apart i (later x (front ++ back) i c)) other is)
    ] refl found

-- where each name that was found is found, each path leads to where it led
pub reach_kept : (at now : Id → Option Place) (below after : Id → List Id) → ((name : List ℕ) (from id : Id) → named at name (below from) ≡ Some id → named now name (after from) ≡ Some id)
    → (path : Path) (from : Option Id) (id : Id) → reach at below path from ≡ Some id → reach now after path from ≡ Some id
reach_kept at now below after finds [] from id there = there
reach_kept at now below after finds (name ∷ path) None id there = absurd (none-some id (sym (reach_none at below path) ∙ there))
reach_kept at now below after finds (name ∷ path) (Some from) id there =
    elim (named at name (below from)) as (λ o. named at name (below from) ≡ o → reach at below path o ≡ Some id → reach now after path (named now name (after from)) ≡ Some id) [
      | None ↦ λ e is. absurd (none-some id (sym (reach_none at below path) ∙ is))
      | Some next ↦ λ e is. rw (finds name from next e) (reach_kept at now below after finds path (Some next) id is)
    ] refl there

-- nor does a path lead elsewhere by the loss of a place below which there is none
pub reach_less : (at now : Id → Option Place) (below after : Id → List Id) (gone : Id) → below gone ≡ [] → ((name : List ℕ) (from id : Id) → gone ≢ id → named at name (below from) ≡ Some id → named now name (after from) ≡ Some id)
    → (path : Path) (from : Option Id) (id : Id) → gone ≢ id → reach at below path from ≡ Some id → reach now after path from ≡ Some id
reach_less at now below after gone leaf finds [] from id other there = there
reach_less at now below after gone leaf finds (name ∷ path) None id other there = absurd (none-some id (sym (reach_none at below path) ∙ there))
reach_less at now below after gone leaf finds (name ∷ path) (Some from) id other there =
    elim (named at name (below from)) as (λ o. named at name (below from) ≡ o → reach at below path o ≡ Some id → reach now after path (named now name (after from)) ≡ Some id) [
      | None ↦ λ e is. absurd (none-some id (sym (reach_none at below path) ∙ is))
      | Some next ↦ λ e is. elim (id_cases gone next) [
        | inl same ↦ absurd (stops path (subst (λ x. reach at below path (Some x) ≡ Some id) (sym same) is))
        | inr away ↦ rw (finds name from next away e) (reach_less at now below after gone leaf finds path (Some next) id other is)
      ]
    ] refl there
  where
    stops : (path : Path) → reach at below path (Some gone) ≡ Some id → ⊥
    stops [] is = other (same_Some gone id is)
    stops (name ∷ path) is = none-some id (sym (reach_none at below path) ∙ sym (ap (λ xs. reach at below path (named at name xs)) leaf) ∙ is)
