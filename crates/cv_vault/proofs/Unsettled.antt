-- The numbers of the entries that aren't settled.
use Rattle.std.proofs.Common.{◌≡◌, ◌≢◌, ◌⊎◌, inl, inr, ℕ, zero, suc, ◌+◌, ◌<◌, ◌≤◌, Bool, true, false, not, cond, List, Vec, [], ◌∷◌, ◌++◌, length, get_or, set, refl, ap, sym, subst, ◌∙◌, arith, length-append, length-set, get_or-set_other}
use Rattle.std.specs.Prelude.{count_by}
use Rattle.std.specs.Vec.{vec_capacity}
use Rattle.std.specs.List.{All, Contains}
use Rattle.std.specs.declared.option.Option.TheVariants.{None}
use Rattle.std.proofs.lemmas.List.Elements.{All-head, All-tail, All-weaker, All-push, Contains-append_left, Contains-push}
use Rattle.std.proofs.lemmas.List.Sums.{sum_by-set, sum_by-append, sum_by-cons, count_by-le-length}
use Rattle.std.proofs.Math.ListN.{get_or-append}
use Rattle.std.proofs.Math.Seq.{get_or-append_seam}
use Rattle.cv_base.proofs.Laws.{same_or_other}
use Rattle.cv_vault.specs.PlacesInner.{is_settled_place}
use Rattle.cv_vault.specs.TableInner.{any_entry}
use Rattle.cv_vault.specs.IndexedInner.{AreUnsettled}
use Rattle.cv_vault.specs.declared.place.Place.{Place}
use Rattle.cv_vault.specs.declared.place.PlaceMark.TheVariants.{Torn}
use Rattle.cv_vault.specs.declared.table.Entry.{Entry}

abbrev pub is_open : Entry → Bool
is_open e = not (is_settled_place e.place)

-- one for an entry that isn't settled
abbrev pub as_one : Entry → ℕ
as_one e = cond (is_open e) 1 0

before_or_after : (k i : ℕ) → (k < i) ⊎ (i ≤ k)
before_or_after k i = grind arith

-- a number that is another than the first of a list is in its rest
pub Contains-rest : (k : ℕ) (ks : List ℕ) (i : ℕ) → k ≢ i → Contains (k ∷ ks) i → Contains ks i
Contains-rest k ks i other c = by c.0 c.1 c.2
  where
    by : (j : ℕ) → j < length (k ∷ ks) → get_or (k ∷ ks) j i ≡ i → Contains ks i
    by zero lt e = absurd (other e)
    by (suc j) lt e = (j, omega arith, e)

-- where an entry is settled there is room for it
pub room_for : {Y : Type 0} (us : Vec ℕ Y) (es : List Entry) (i : ℕ) → AreUnsettled us es → i < length es → is_settled_place (get_or es i any_entry).place ≡ true → length us.items < vec_capacity us
room_for us es i u lt is =
    let x : Entry = record any_entry { place = record { now = None; mark = Torn } } in
    let one : as_one (get_or es i any_entry) ≡ 0 = rw is refl in
    let counts : count_by is_open (set es i x) + as_one (get_or es i any_entry) ≡ count_by is_open es + 1 = sum_by-set as_one es i x any_entry lt in
    let most : count_by is_open (set es i x) ≤ length es = subst (λ k. count_by is_open (set es i x) ≤ k) (length-set es i x) (count_by-le-length is_open (set es i x)) in
    let c = u.count in let r = u.room in omega arith

-- another place at an entry, which isn't settled
module _ {Y : Type 0} (us us' : Vec ℕ Y) (es : List Entry) (i : ℕ) (p : Place) (u : AreUnsettled us es) (lt : i < length es) (torn : is_settled_place p ≡ false) where
  new : Entry
  new = record (get_or es i any_entry) { place = p }

  counted : count_by is_open (set es i new) + as_one (get_or es i any_entry) ≡ count_by is_open es + 1
  unfolding new
  counted = (let h = sum_by-set as_one es i new any_entry lt in let one : as_one new ≡ 1 = rw torn refl in subst (λ k. count_by is_open (set es i new) + as_one (get_or es i any_entry) ≡ count_by is_open es + k) one h)

  -- the others are as before
  other : (us2 : List ℕ) → ((k : ℕ) → Contains us.items k → Contains us2 k) → Contains us2 i
      → (k : ℕ) → k < length (set es i new) → is_settled_place (get_or (set es i new) k any_entry).place ≡ false → Contains us2 k
  other us2 more has k le loose = elim (same_or_other k i) [
    | inl same ↦ subst (Contains us2) (sym same) has
    | inr apart ↦ more k (u.each k (subst (λ n. k < n) (length-set es i new) le) (subst (λ (e : Entry). is_settled_place e.place ≡ false) (get_or-set_other es i k new any_entry apart) loose))
  ]

  pub unsettled_noted : is_settled_place (get_or es i any_entry).place ≡ true → us'.items ≡ us.items ++ i ∷ [] → vec_capacity us' ≡ vec_capacity us → AreUnsettled us' (set es i (record (get_or es i any_entry) { place = p }))
  unfolding new
  unsettled_noted was items capacity =
      let n = length-set es i new in
      record {
        within = rw items (subst (λ m. All (λ k. k < m) (us.items ++ i ∷ [])) (sym n) (All-push (λ k. k < length es) us.items i u.within lt));
        each = rw items (other (us.items ++ i ∷ []) (λ k c. Contains-append_left us.items (i ∷ []) k c) (Contains-push us.items i));
        count = rw items (let c = u.count in let d = counted in let one : as_one (get_or es i any_entry) ≡ 0 = rw was refl in omega (arith, length-append us.items (i ∷ [])));
        room = rw (capacity, n) u.room;
      }

  pub unsettled_kept : is_settled_place (get_or es i any_entry).place ≡ false → us' ≡ us → AreUnsettled us' (set es i (record (get_or es i any_entry) { place = p }))
  unfolding new
  unsettled_kept was same =
      let n = length-set es i new in
      record {
        within = rw same (subst (λ m. All (λ k. k < m) us.items) (sym n) u.within);
        each = rw same (other us.items (λ k c. c) (u.each i lt was));
        count = rw same (let c = u.count in let d = counted in let one : as_one (get_or es i any_entry) ≡ 1 = rw was refl in omega arith);
        room = rw (same, n) u.room;
      }

-- another entry, which is settled
pub unsettled_pushed : {Y : Type 0} (us us' : Vec ℕ Y) (es : List Entry) (new : Entry) → AreUnsettled us es → is_settled_place new.place ≡ true → us'.items ≡ us.items → length es + 1 ≤ vec_capacity us' → AreUnsettled us' (es ++ new ∷ [])
unsettled_pushed us us' es new u is items room =
    let n = length-append es (new ∷ []) in
    let none : as_one new ≡ 0 = rw is refl in
    record {
      within = rw items (All-weaker (λ k. k < length es) (λ k. k < length (es ++ new ∷ [])) (λ k lt. omega (arith, n)) us.items u.within);
      each = rw items each;
      count = rw items (let c = u.count in let d = sum_by-append as_one es (new ∷ []) in omega (arith, none));
      room = omega (arith, n);
    }
  where
    settled_there : true ≡ false → ⊥
    settled_there e = cc

    each : (k : ℕ) → k < length (es ++ new ∷ []) → is_settled_place (get_or (es ++ new ∷ []) k any_entry).place ≡ false → Contains us.items k
    each k lt loose = elim (before_or_after k (length es)) [
      | inl b ↦ u.each k b (subst (λ (e : Entry). is_settled_place e.place ≡ false) (get_or-append es (new ∷ []) any_entry k b) loose)
      | inr a ↦
          let at : k ≡ length es = omega (arith, length-append es (new ∷ [])) in
          absurd (settled_there (sym is ∙ ap (λ (e : Entry). is_settled_place e.place) (sym (ap (λ j. get_or (es ++ new ∷ []) j any_entry) at ∙ get_or-append_seam es new [] any_entry)) ∙ loose))
    ]

-- all entries are settled
pub unsettled_none : {Y : Type 0} (us : Vec ℕ Y) (es : List Entry) → us.items ≡ [] → All (λ (e : Entry). is_settled_place e.place ≡ true) es → length es ≤ vec_capacity us → AreUnsettled us es
unsettled_none us es none all room = record {
  within = rw none (λ k d lt. absurd (omega arith));
  each = λ i lt loose. absurd (settled_there (sym (all i any_entry lt) ∙ loose));
  count = rw none (sym (no_count es all));
  room = room;
}
  where
    settled_there : true ≡ false → ⊥
    settled_there e = cc

    no_count : (xs : List Entry) → All (λ (e : Entry). is_settled_place e.place ≡ true) xs → count_by is_open xs ≡ 0
    no_count [] h = refl
    no_count (x ∷ xs) h = let one : as_one x ≡ 0 = rw (All-head (λ (e : Entry). is_settled_place e.place ≡ true) x xs h) refl in let rest = no_count xs (All-tail (λ (e : Entry). is_settled_place e.place ≡ true) x xs h) in sum_by-cons as_one x xs ∙ omega arith
