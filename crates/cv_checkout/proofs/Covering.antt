-- Places that are wanted, and what lies at and below them.
use Rattle.std.proofs.Common.{◌≡◌, ◌≢◌, ℕ, ◌<◌, Bool, true, false, cond, List, [], ◌∷◌, ◌++◌, length, get_or, None, is_some, refl, sym, ap, subst, ◌∙◌, arith, inl, inr}
use Rattle.std.specs.Prelude.{AllPairs, Contains}
use Rattle.std.specs.List.{AllZip}
use Rattle.std.proofs.lemmas.Bool.{or_cases, or_left, or_right}
use Rattle.std.proofs.lemmas.List.{get_or_default}
use Rattle.std.proofs.lemmas.List.Elements.{Contains-append_cases}
use Rattle.std.proofs.lemmas.List.Kept.{AllPairs-filter}
use Rattle.cv_base.specs.Path.{Path, behind, covers, overlap, same_name}
use Rattle.cv_base.proofs.Laws.{covers_through, covers_itself, same_name_is, same_name_itself}
use Rattle.cv_rows.specs.Catalogue.{Contents, IsCatalogue}
use Rattle.cv_rows.specs.declared.nested.Nested.{Nested}
use Rattle.cv_cut.proofs.Lemmas.{first_or_later, first_there, later_there, none_there, passes}
use Rattle.cv_load.proofs.Lemmas.{entries_apart, entry_below}
use Rattle.cv_checkout.specs.Wanting.{IsNamed, is_covered, toward}
use Rattle.cv_checkout.specs.InTree.{AreApart}
use Rattle.cv_checkout.specs.declared.wanted.Wanted.{Wanted}
use Rattle.cv_checkout.proofs.Zips.{pairs_head, pairs_tail, zipped_with}

-- ---- paths

pub overlap_sym : (p q : Path) → overlap p q ≡ true → overlap q p ≡ true
overlap_sym p q h = elim (or_cases (covers p q) (covers q p) h) [
  | inl over ↦ or_right (covers q p) (covers p q) over
  | inr under ↦ or_left (covers q p) (covers p q) under
]

same_start : (a b : List ℕ) (p q : Path) → covers (a ∷ p) (b ∷ q) ≡ true → (a ≡ b) × (covers p q ≡ true)
same_start a b p q h = by (same_name a b) refl h
  where
    by : (t : Bool) → same_name a b ≡ t → is_some (cond t (behind p q) None) ≡ true → (a ≡ b) × (covers p q ≡ true)
    by true e is = (same_name_is a b e, is)
    by false e is = absurd cc

-- of two paths above one the one covers the other
both_over : (p d q : Path) → covers p q ≡ true → covers d q ≡ true → overlap d p ≡ true
both_over [] d q over above = or_right (covers d []) true refl
both_over (a ∷ p) [] q over above = refl
both_over (a ∷ p) (b ∷ d) [] over above = absurd cc
both_over (a ∷ p) (b ∷ d) (e ∷ q) over above =
    let x = same_start a e p q over in
    let y = same_start b e d q above in
    subst (λ (z : List ℕ). overlap (z ∷ d) (a ∷ p) ≡ true) (x.0 ∙ sym y.0) (rw (same_name_itself a) (both_over p d q x.1 y.1))

-- what is above a path overlaps what the path overlaps
pub overlap_above : (p d q : Path) → covers d q ≡ true → overlap p q ≡ true → overlap p d ≡ true
overlap_above p d q above h = elim (or_cases (covers p q) (covers q p) h) [
  | inl over ↦ overlap_sym d p (both_over p d q over above)
  | inr under ↦ or_right (covers p d) (covers d p) (covers_through d q p above under)
]

-- ---- what lies at and below

pub covered_by : (ws : List Wanted) (w : Wanted) (q : Path) → Contains ws w → covers w.path q ≡ true → is_covered ws q ≡ true
covered_by [] w q has under = absurd (none_there w has)
covered_by (v ∷ ws) w q has under = elim (first_or_later v ws w has) [
  | inl same ↦ or_left (covers v.path q) (is_covered ws q) (ap (λ (x : Wanted). covers x.path q) same ∙ under)
  | inr later ↦ or_right (covers v.path q) (is_covered ws q) (covered_by ws w q later under)
]

pub coverer : (ws : List Wanted) (q : Path) → is_covered ws q ≡ true → (w : Wanted) × Contains ws w × (covers w.path q ≡ true)
coverer [] q h = absurd cc
coverer (v ∷ ws) q h = elim (or_cases (covers v.path q) (is_covered ws q) h) [
  | inl here ↦ (v, first_there v ws, here)
  | inr more ↦ let o = coverer ws q more in (o.0, later_there v ws o.0 o.1, o.2)
]

-- ---- places apart

pub apart_append : (xs ys : List Wanted) → AreApart xs → AreApart ys → ((x y : Wanted) → Contains xs x → Contains ys y → overlap x.path y.path ≡ true → ⊥) → AreApart (xs ++ ys)
apart_append [] ys first then across = then
apart_append (x ∷ xs) ys first then across = (
  λ v has over. elim (Contains-append_cases xs ys v has) [ inl near ↦ first.0 v near over | inr far ↦ across x v (first_there x xs) far over ],
  apart_append xs ys first.1 then (λ a b has had. across a b (later_there x xs a has) had),
)

-- the nested entries of a catalogue lie apart
abbrev LieApart : Nested → Nested → Type 0
LieApart m n = overlap m.path n.path ≡ true → ⊥

entries_lie_apart : (c : Contents) → IsCatalogue c → AllPairs LieApart c.nested
entries_lie_apart c is = λ i j d lt within over.
    let first : i < length c.nested = omega (arith, lt, within) in
    let m = get_or c.nested i d in
    let n = get_or c.nested j d in
    let at_m : get_or c.nested i m ≡ m = get_or_default c.nested i m d first in
    let at_n : get_or c.nested j n ≡ n = get_or_default c.nested j n d within in
    elim (or_cases (covers m.path n.path) (covers n.path m.path) over) [
      | inl under ↦ entries_apart c i j m n n.path is lt first within at_m at_n under (covers_itself n.path)
      | inr under ↦ entries_apart c i j m n m.path is lt first within at_m at_n (covers_itself m.path) under
    ]

apart_zip : (c : Contents) (ns : List Nested) (ws : List Wanted) → AllPairs LieApart ns → AllZip (IsNamed c) ns ws → AreApart ws
apart_zip c ns [] apart zip = tt
apart_zip c [] (w ∷ ws) apart zip = absurd zip
apart_zip c (n ∷ ns) (w ∷ ws) apart zip = (
  λ v has over.
      let m = zipped_with (IsNamed c) ns ws zip.1 v has in
      pairs_head LieApart n ns apart m.0 m.1 (subst (λ (p : Path). overlap n.path p ≡ true) m.2.path_is (subst (λ (p : Path). overlap p v.path ≡ true) zip.0.path_is over)),
  apart_zip c ns ws (pairs_tail LieApart n ns apart) zip.1,
)

-- so do the catalogues that it names
pub named_apart : (c : Contents) (p : Path) (ws : List Wanted) → IsCatalogue c → AllZip (IsNamed c) (toward p c) ws → AreApart ws
named_apart c p ws is zip = apart_zip c (toward p c) ws (AllPairs-filter LieApart (λ n. overlap p n.path) c.nested (entries_lie_apart c is)) zip

-- each is properly below the catalogue's place
pub record IsBelow (p : Path) (c : Contents) (w : Wanted) : Type 0 where
  pub entry : Nested
  pub has : Contains c.nested entry
  pub near : overlap p entry.path ≡ true
  pub named : IsNamed c entry w

pub named_of : (c : Contents) (p : Path) (ws : List Wanted) → AllZip (IsNamed c) (toward p c) ws → (w : Wanted) → Contains ws w → IsBelow p c w
named_of c p ws zip w has =
    let n = zipped_with (IsNamed c) (toward p c) ws zip w has in
    let passed = passes (λ (m : Nested). overlap p m.path) c.nested n.0 n.1 in
    record { entry = n.0; has = passed.0; near = passed.1; named = n.2 }

pub below_place : (c : Contents) (p q : Path) (w : Wanted) → IsCatalogue c → IsBelow p c w → covers w.path q ≡ true → (covers c.at q ≡ true) × (q ≢ c.at)
below_place c p q w is b under = entry_below c b.entry q is b.has (subst (λ (x : Path). covers x q ≡ true) b.named.path_is under)
