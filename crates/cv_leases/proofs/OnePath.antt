-- One path alone leads to a place.
use Rattle.std.proofs.Common.{◌≡◌, ◌⊎◌, ◌≤◌, ◌+◌, ◌||◌, ℕ, zero, suc, true, false, cond, List, [], ◌∷◌, ◌++◌, length, Option, None, Some, is_some, Contains, refl, sym, ap, subst, ◌∙◌, inl, inr, arith}
use Rattle.std.proofs.lemmas.Option.{none-some, same_Some}
use Rattle.std.proofs.lemmas.List.{length-append}
use Rattle.std.specs.List.{AllByRecursion}
use Rattle.cv_base.specs.Path.{Path, behind, overlap}
use Rattle.cv_base.proofs.Laws.{same_name_is, same_name_itself}
use Rattle.cv_links.specs.declared.id.Id.{Id}
use Rattle.cv_links.specs.Arena.{value_at}
use Rattle.cv_links.proofs.Laws.{here, later, cons_cases, none_within}
use Rattle.cv_leases.specs.declared.lease.Lease.{Lease}
use Rattle.cv_leases.specs.declared.queue.Entry.{Entry}
use Rattle.cv_leases.specs.declared.queue.Queue.{Queue}
use Rattle.cv_leases.specs.declared.names.Place.{Place}
use Rattle.cv_leases.specs.declared.names.Names.{Names}
use Rattle.cv_leases.specs.Leases.{busy}
use Rattle.cv_leases.specs.Queue.{before_rest, leases_by, leases_in, ids_of}
use Rattle.cv_leases.specs.Names.{has_name, is_leased, above_of, named, step, place_of, below_of, IsNames}
use Rattle.cv_leases.specs.NamesInner.{SameLeased}
use Rattle.cv_leases.specs.Linked.{AreTied}
use Rattle.cv_leases.proofs.Reaching.{reach_more}
use Rattle.cv_leases.proofs.Needed.{root_top}
use Rattle.cv_leases.proofs.Tables.{none_overlaps}

-- the place that is found by a name is among the others, and has it
named_is : (at : Id → Option Place) (name : List ℕ) (xs : List Id) (id : Id) → named at name xs ≡ Some id → Contains xs id × (has_name name (at id) ≡ true)
named_is at name [] id found = absurd (none-some id found)
named_is at name (x ∷ xs) id found =
    elim (has_name name (at x)) as (λ b. has_name name (at x) ≡ b → cond b (Some x) (named at name xs) ≡ Some id → Contains (x ∷ xs) id × (has_name name (at id) ≡ true)) [
      | true ↦ λ e is. let same : x ≡ id = same_Some x id is in (subst (λ i. Contains (x ∷ xs) i) same (here x xs), subst (λ i. has_name name (at i) ≡ true) same e)
      | false ↦ λ e is. let rest = named_is at name xs id is in (later x xs id rest.0, rest.1)
    ] refl found

-- the place that a step leads to is below one
step_is : (at : Id → Option Place) (below : Id → List Id) (name : List ℕ) (o : Option Id) (id : Id) → step at below name o ≡ Some id → (from : Id) × (o ≡ Some from) × Contains (below from) id × (has_name name (at id) ≡ true)
step_is at below name None id found = absurd (none-some id found)
step_is at below name (Some from) id found = let is = named_is at name (below from) id found in (from, refl, is.0, is.1)

names_same : (o : Option Place) (m n : List ℕ) → has_name m o ≡ true → has_name n o ≡ true → m ≡ n
names_same None m n e f = absurd cc
names_same (Some place) m n e f = sym (same_name_is place.name m e) ∙ same_name_is place.name n f

unsnoc : (path : Path) → (path ≡ []) ⊎ ((front : Path) × (last : List ℕ) × (path ≡ front ++ last ∷ []))
unsnoc [] = inl refl
unsnoc (x ∷ xs) =
    elim (unsnoc xs) [
      | inl none ↦ inr ([], x, ap (λ ys. x ∷ ys) none)
      | inr some ↦ inr (x ∷ some.0, some.1, ap (λ ys. x ∷ ys) some.2)
    ]

module _ (names : Names) (whole : IsNames names) where
  -- nothing is above the root
  none_above : (id up : Id) → names.root ≡ Some id → above_of (value_at names.places id) ≡ Some up → ⊥
  none_above id up e above = none-some up (sym (root_top names id whole e) ∙ above)

  -- what the last name of a path leads to
  last_step : (path front : Path) (last : List ℕ) (id : Id) → path ≡ front ++ last ∷ [] → place_of names path ≡ Some id
      → (from : Id) × (place_of names front ≡ Some from) × Contains (below_of names.places from) id × (has_name last (value_at names.places id) ≡ true)
  last_step path front last id e there =
      step_is (value_at names.places) (below_of names.places) last (place_of names front) id
      (sym (reach_more (value_at names.places) (below_of names.places) front last names.root) ∙ sym (ap (place_of names) e) ∙ there)

  by_length : (n : ℕ) (p q : Path) (id : Id) → length p ≤ n → place_of names p ≡ Some id → place_of names q ≡ Some id
      → (p ≡ []) ⊎ ((front : Path) × (last : List ℕ) × (p ≡ front ++ last ∷ [])) → (q ≡ []) ⊎ ((front : Path) × (last : List ℕ) × (q ≡ front ++ last ∷ [])) → p ≡ q
  by_length n p q id short here_p here_q (inl none) (inl too) = none ∙ sym too
  by_length n p q id short here_p here_q (inl none) (inr some) =
      let one = last_step q some.0 some.1 id some.2 here_q in
      absurd (none_above id one.0 (sym (ap (place_of names) none) ∙ here_p) (whole.tree.below one.0 id one.2))
  by_length n p q id short here_p here_q (inr some) (inl none) =
      let one = last_step p some.0 some.1 id some.2 here_p in
      absurd (none_above id one.0 (sym (ap (place_of names) none) ∙ here_q) (whole.tree.below one.0 id one.2))
  by_length zero p q id short here_p here_q (inr some) (inr too) =
      let long : length p ≡ length some.0 + 1 = ap length some.2 ∙ length-append some.0 (some.1 ∷ []) in absurd (omega (arith, long, short))
  by_length (suc n) p q id short here_p here_q (inr some) (inr too) =
      let one = last_step p some.0 some.1 id some.2 here_p in
      let two = last_step q too.0 too.1 id too.2 here_q in
      let above : one.0 ≡ two.0 = same_Some one.0 two.0 (sym (whole.tree.below one.0 id one.2) ∙ whole.tree.below two.0 id two.2) in
      let last : some.1 ≡ too.1 = names_same (value_at names.places id) some.1 too.1 one.3 two.3 in
      let long : length p ≡ length some.0 + 1 = ap length some.2 ∙ length-append some.0 (some.1 ∷ []) in
      let front : some.0 ≡ too.0 = by_length n some.0 too.0 one.0 (omega (arith, long, short)) one.1 (two.1 ∙ ap (λ i. Some i) (sym above)) (unsnoc some.0) (unsnoc too.0) in
      some.2 ∙ ap (λ ps. ps ++ some.1 ∷ []) front ∙ ap (λ l. too.0 ++ l ∷ []) last ∙ sym too.2

  pub one_path : (p q : Path) (id : Id) → place_of names p ≡ Some id → place_of names q ≡ Some id → p ≡ q
  one_path p q id here_p here_q = by_length (length p) p q id (omega arith) here_p here_q (unsnoc p) (unsnoc q)

behind_itself : (p : Path) → behind p p ≡ Some []
behind_itself [] = refl
behind_itself (a ∷ p) = rw (same_name_itself a) (behind_itself p)

overlap_itself : (p : Path) → overlap p p ≡ true
overlap_itself p = ap (λ o. is_some o || is_some o) (behind_itself p)

-- what holds of all leases holds of that of an entry
held_all : (P : Lease → Type 0) (at : Id → Option Entry) (ids : List Id) (id : Id) (entry : Entry) → AllByRecursion P (leases_by at ids) → Contains ids id → at id ≡ Some entry → P entry.lease
held_all P at [] id entry all within v = absurd (none_within id within)
held_all P at (x ∷ ids) id entry all within v =
    elim (cons_cases x ids id within) [
      | inl same ↦ (subst (λ o. AllByRecursion P (before_rest o (leases_by at ids))) (ap at same ∙ v) all).0
      | inr there ↦ held_all P at ids id entry (each (at x) all) there v
    ]
  where
    each : (o : Option Entry) → AllByRecursion P (before_rest o (leases_by at ids)) → AllByRecursion P (leases_by at ids)
    each None all = all
    each (Some e) all = all.1

-- no lease ends at the place of a path that none overlaps
pub free_place : (q : Queue) (before mid : Names) (path : Path) (place : Id) → AreTied q before → IsNames mid → SameLeased before mid → place_of mid path ≡ Some place → busy (leases_in q) path ≡ None
    → is_leased (value_at mid.places place) ≡ false
free_place q before mid path place tied whole same at free =
    elim (is_leased (value_at mid.places place)) as (λ b. is_leased (value_at mid.places place) ≡ b → b ≡ false) [
      | true ↦ λ leased.
          let has = tied.only place (same.none place leased) in
          let there = same.kept has.entry.lease.path has.entry.place (tied.places has.id has.entry has.holds) in
          let one : has.entry.lease.path ≡ path = one_path mid whole has.entry.lease.path path place (there.place ∙ ap (λ i. Some i) has.place) at in
          let none : overlap has.entry.lease.path path ≡ false = held_all (λ lease. overlap lease.path path ≡ false) (value_at q.entries) (ids_of q) has.id has.entry (none_overlaps (leases_in q) path free) has.holds.within has.holds.entry in
          let some : overlap has.entry.lease.path path ≡ true = ap (λ p. overlap p path) one ∙ overlap_itself path in
          absurd cc
      | false ↦ λ e. refl
    ] refl
