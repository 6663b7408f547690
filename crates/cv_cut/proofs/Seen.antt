-- Keys seen so far, by their first places.
use Rattle.std.proofs.Common.{◌≡◌, ℕ, ◌+◌, ◌<◌, ◌≤◌, true, false, cond, Option, None, Some, List, length, refl, sym, ap, subst, ◌∙◌, arith, IsSome, inl, inr}
use Rattle.std.specs.Prelude.{slice_get}
use Rattle.std.specs.Ordering.{is_eq}
use Rattle.std.specs.Cmp.{tied_itself}
use Rattle.std.specs.Cmp.Lexicographic.{nat_list_cmp_total}
use Rattle.std.specs.BTreeMap.{BTreeMap, get, Updates}
use Rattle.std.proofs.lemmas.Bool.{cases_lt}
use Rattle.std.proofs.lemmas.Map.Text.{is_eq-slice_cmp}
use Rattle.std.proofs.lemmas.Slice.Eq.{bytes_eq-Decides}
use Rattle.std.proofs.lemmas.Option.{slice_get_within, same_Some}
use Rattle.cv_base.specs.BytesOrder.{bytes_cmp}
use Rattle.cv_base.proofs.Laws.{not_there}
use Rattle.cv_rows.specs.Made.{AreApart}
use Rattle.cv_cut.specs.CutInner.{AreSame}

abbrev Map : Type 0
Map = BTreeMap (List ℕ) ℕ

abbrev at_key : Map → List ℕ → Option ℕ
at_key m k = get bytes_cmp m k

-- the first n keys have been seen, and are apart
pub record HasSeen (keys : List (List ℕ)) (n : ℕ) (seen : BTreeMap (List ℕ) ℕ) : Type 0 where
  pub found : (k : List ℕ) (j : ℕ) → get bytes_cmp seen k ≡ Some j → (j < n) × (slice_get keys j ≡ Some k)
  pub all : (j : ℕ) (k : List ℕ) → j < n → slice_get keys j ≡ Some k → IsSome (get bytes_cmp seen k)
  pub apart : (i j : ℕ) (k : List ℕ) → i < j → j < n → slice_get keys i ≡ Some k → slice_get keys j ≡ Some k → ⊥

same_key : (a b : List ℕ) → is_eq (bytes_cmp a b) ≡ true → a ≡ b
same_key a b h = (bytes_eq-Decides a b).0 (sym (is_eq-slice_cmp a b) ∙ h)

-- one more key, which wasn't seen
pub one_seen : (keys : List (List ℕ)) (n : ℕ) (seen more : BTreeMap (List ℕ) ℕ) (key : List ℕ) → HasSeen keys n seen → slice_get keys n ≡ Some key → get bytes_cmp seen key ≡ None
    → Updates bytes_cmp seen more key (Some n) → HasSeen keys (n + 1) more
one_seen keys n seen more key has here new u = record {
  found = λ k j is. elim (is_eq (bytes_cmp key k)) as (λ b. is_eq (bytes_cmp key k) ≡ b → cond b (Some n) (at_key seen k) ≡ Some j → (j < n + 1) × (slice_get keys j ≡ Some k)) [
    | true ↦ λ same it. (let j-is : n ≡ j = cc in (omega (arith, j-is), ap (slice_get keys) (sym j-is) ∙ here ∙ ap Some (same_key key k same)))
    | false ↦ λ other it. (let before = has.found k j it in (omega (arith, before.0), before.1))
  ] refl (sym (u.0 k) ∙ is);
  all = λ j k lt there. subst IsSome (sym (u.0 k)) (elim (is_eq (bytes_cmp key k)) as (λ b. is_eq (bytes_cmp key k) ≡ b → IsSome (cond b (Some n) (at_key seen k))) [
    | true ↦ λ same. refl
    | false ↦ λ other. elim (cases_lt j n) [
      | inl below ↦ has.all j k below there
      | inr last ↦
          let j-is : n ≡ j = omega (arith, lt, last) in
          let key-is : key ≡ k = same_Some key k (sym here ∙ ap (slice_get keys) j-is ∙ there) in
          let same : is_eq (bytes_cmp key k) ≡ true = ap (λ x. is_eq (bytes_cmp key x)) (sym key-is) ∙ ap is_eq (tied_itself nat_list_cmp_total key) in
          let no_way : true ≡ false = sym same ∙ other in
          cc
    ]
  ] refl);
  apart = λ i j k lt below one other. elim (cases_lt j n) [
    | inl earlier ↦ has.apart i j k lt earlier one other
    | inr last ↦
        let j-is : n ≡ j = omega (arith, below, last) in
        let key-is : key ≡ k = same_Some key k (sym here ∙ ap (slice_get keys) j-is ∙ other) in
        let there = has.all i k (omega (arith, lt, j-is)) one in
        let none = ap (at_key seen) (sym key-is) ∙ new in
        not_there (at_key seen k) none there
  ];
}

-- all keys were seen
pub all_seen : (keys : List (List ℕ)) (n : ℕ) (seen : BTreeMap (List ℕ) ℕ) → HasSeen keys n seen → length keys ≤ n → AreApart keys
all_seen keys n seen has all x t = has.apart t.first t.second x t.order (let lt = slice_get_within keys t.second x t.other in omega (arith, lt, all)) t.one t.other

-- a key that was seen stands again
pub seen_again : (keys : List (List ℕ)) (n j : ℕ) (seen : BTreeMap (List ℕ) ℕ) (key : List ℕ) → HasSeen keys n seen → slice_get keys n ≡ Some key → get bytes_cmp seen key ≡ Some j → AreSame keys j n
seen_again keys n j seen key has here is = let f = has.found key j is in record { key = key; order = f.0; one = f.1; other = here }
