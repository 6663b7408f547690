-- Nested entries above a path.
use Rattle.std.proofs.Common.{◌≡◌, ◌≢◌, ℕ, ◌+◌, ◌<◌, ◌≤◌, Bool, true, false, not, List, [], ◌∷◌, ◌++◌, take, length, get_or, length-append, refl, sym, ap, subst, ◌∙◌, append-nil, arith, inl, inr, MatchBool}
use Rattle.std.specs.Prelude.{Contains}
use Rattle.std.proofs.lemmas.List.{take_more, take_all}
use Rattle.std.proofs.lemmas.List.Elements.{All-contains, Contains-append_cases}
use Rattle.cv_base.specs.Path.{Path, covers, same_path}
use Rattle.cv_base.proofs.Laws.{same_path_is}
use Rattle.cv_rows.specs.Catalogue.{Contents, IsCatalogue, IsTransitionAt}
use Rattle.cv_rows.specs.declared.nested.Nested.{Nested}
use Rattle.cv_graft.specs.Way.{IsNext, HasNone}
use Rattle.cv_cut.proofs.Lemmas.{first_or_later, none_there, rest_behind, differs, transition_long}

-- ---- the test

pub above_is : (a p : Path) (b : Bool) → covers a p ≡ true → b ≡ not (same_path p a) → MatchBool b ((covers a p ≡ true) × (p ≢ a)) (covers a p ≡ true → p ≡ a)
above_is a p b covered is = elim (same_path p a) as (λ s. same_path p a ≡ s → b ≡ not s → MatchBool b ((covers a p ≡ true) × (p ≢ a)) (covers a p ≡ true → p ≡ a)) [
  | true ↦ λ h no. subst (λ (x : Bool). MatchBool x ((covers a p ≡ true) × (p ≢ a)) (covers a p ≡ true → p ≡ a)) (sym no) (λ _. same_path_is p a h)
  | false ↦ λ h yes. subst (λ (x : Bool). MatchBool x ((covers a p ≡ true) × (p ≢ a)) (covers a p ≡ true → p ≡ a)) (sym yes) (covered, λ same. differs p a same h)
] refl is

-- ---- the search

-- none among the first so many
abbrev pub NoneOf : List Nested → Path → Type 0
NoneOf ns p = (n : Nested) → Contains ns n → covers n.path p ≡ true → p ≡ n.path

pub none_first : (ns : List Nested) (p : Path) → NoneOf (take 0 ns) p
none_first ns p n has = absurd (none_there n has)

pub none_more : (ns : List Nested) (p : Path) (i : ℕ) (x : Nested) → i < length ns → x ≡ get_or ns i x → NoneOf (take i ns) p → (covers x.path p ≡ true → p ≡ x.path) → NoneOf (take (i + 1) ns) p
none_more ns p i x lt is before last n has =
    elim (Contains-append_cases (take i ns) (get_or ns i x ∷ []) n (subst (λ (l : List Nested). Contains l n) (take_more ns i x lt) has)) [
      | inl earlier ↦ before n earlier
      | inr here ↦ elim (first_or_later (get_or ns i x) [] n here) [
        | inl same ↦ subst (λ (m : Nested). covers m.path p ≡ true → p ≡ m.path) (is ∙ same) last
        | inr none ↦ absurd (none_there n none)
      ]
    ]

pub none_all : (c : Contents) (items : List Nested) (p : Path) (i : ℕ) → items ≡ c.nested → length items ≤ i → NoneOf (take i items) p → HasNone c p
none_all c items p i same le h n has = h n (subst (λ (l : List Nested). Contains l n) (sym (take_all i items le ∙ same)) has)

pub next_is : (c : Contents) (items : List Nested) (p : Path) (i : ℕ) (x : Nested) → items ≡ c.nested → i < length items → x ≡ get_or items i x → (covers x.path p ≡ true) × (p ≢ x.path) → IsNext c p x
next_is c items p i x same lt is h = record { has = subst (λ (l : List Nested). Contains l x) same (i, lt, sym is); covered = h.0; apart = h.1 }

-- ---- lengths

pub next_deeper : (c : Contents) (p : Path) (n : Nested) → IsCatalogue c → IsNext c p n → length c.at < length n.path
next_deeper c p n is next =
    let t = All-contains (λ (m : Nested). IsTransitionAt c.at c.rows m.path) c.nested n is.region.named next.has in
    transition_long t.stands t.kind

pub above_shorter : (q p : Path) → covers q p ≡ true → p ≢ q → length q < length p
above_shorter q p covered apart =
    let b = rest_behind q p covered in
    of b.0 b.1
  where
    of : (x : Path) → p ≡ q ++ x → length q < length p
    of [] is = absurd (apart (is ∙ append-nil q))
    of (a ∷ x) is = omega (arith, ap (λ (y : Path). length y) is, length-append q (a ∷ x))

pub next_shorter : (c : Contents) (p : Path) (n : Nested) → IsNext c p n → length n.path < length p
next_shorter c p n next = above_shorter n.path p next.covered next.apart
