-- The order in which the cuts of a tree are taken: those that a cut covers stand before it.
use Rattle.std.proofs.Common.{◌≡◌, ◌≢◌, ℕ, ◌-◌, ◌<◌, true, false, List, [], ◌++◌, reverse, take, length, get_or, refl, sym, ap, subst, ◌∙◌, append-nil, arith, inl, inr}
use Rattle.std.specs.Prelude.{Contains}
use Rattle.std.specs.declared.cmp.Ordering.{Ordering}
use Rattle.std.specs.declared.cmp.Ordering.TheVariants.{Less, Equal, Greater}
use Rattle.std.specs.Ordering.{is_lt, ordering_reverse}
use Rattle.std.specs.Cmp.{tied_itself}
use Rattle.std.specs.List.Sorted.{IsStrictlySortedBy}
use Rattle.std.specs.FinMap.{entries, entries_sorted, keys}
use Rattle.std.proofs.lemmas.Bool.{cases_lt}
use Rattle.std.proofs.lemmas.List.{get_or-reverse, get_or-take, get_or_default, length-reverse, length-take-le}
use Rattle.std.proofs.lemmas.List.Kept.{IsStrictlySortedBy-filter}
use Rattle.std.proofs.lemmas.List.Sorted.{IsPermutation-reverse, Contains-permutation}
use Rattle.cv_base.specs.Path.{Path, path_cmp, covers}
use Rattle.cv_base.proofs.Laws.{covers_below, path_total, path_exact}
use Rattle.cv_tree.proofs.Laws.{covers_before}
use Rattle.cv_tree.specs.Tree.{Nodes}
use Rattle.cv_cut.specs.Cuts.{cuts_of, is_cut}
use Rattle.cv_cut.specs.Cut.{is_other}
use Rattle.cv_cut.specs.Piece.{cuts_within}
use Rattle.cv_cut.proofs.Members.{passing}
use Rattle.cv_cut.proofs.RegionPaths.{keys_rise}
use Rattle.cv_cut.proofs.Between.{stands_below, below_covered, other_cut}
use Rattle.cv_cut.proofs.Sides.{rises_at}
use Rattle.cv_cut.proofs.Bools.{so}
use Rattle.cv_cut.proofs.Ends.{same_rest}

-- a path below another stands behind it
below_after : (c d : Path) → covers c d ≡ true → d ≢ c → path_cmp c d ≡ Less
below_after c d covered differs = path_total.antisymm c d ∙ elim (path_cmp d c) as (λ o. path_cmp d c ≡ o → is_lt o ≡ false → ordering_reverse o ≡ Less) [
  | Less ↦ λ e h. cc
  | Equal ↦ λ e h. absurd (differs (path_exact d c e))
  | Greater ↦ λ e h. refl
] refl (covers_before c d covered)

cuts_rise : (t : Nodes) → IsStrictlySortedBy path_cmp (cuts_of t)
cuts_rise t = IsStrictlySortedBy-filter path_cmp (is_cut t) (keys t) (keys_rise (entries t) (so _ (entries_sorted t)))

not_both : (o : Ordering) → o ≡ Less → ordering_reverse o ≡ Less → ⊥
not_both o h k = let no_way : ordering_reverse Less ≡ Less = ap ordering_reverse (sym h) ∙ k in cc

-- of sorted paths in reverse, the later stand before
stands_earlier : (ps : List Path) → IsStrictlySortedBy path_cmp ps → (i j : ℕ) (a b : Path) → i < length ps → j < length ps → get_or (reverse ps) i a ≡ a → get_or (reverse ps) j b ≡ b → path_cmp a b ≡ Less → j < i
stands_earlier ps rises i j a b li lj a-is b-is less =
    elim (cases_lt j i) [
      | inl lt ↦ lt
      | inr ge ↦ absurd (elim (cases_lt i j) [
        | inl lt ↦
            let one : get_or ps (length ps - 1 - i) a ≡ a = sym (get_or-reverse ps i a li) ∙ a-is in
            let other : get_or ps (length ps - 1 - j) a ≡ b = get_or_default ps (length ps - 1 - j) a b (omega arith) ∙ sym (get_or-reverse ps j b lj) ∙ b-is in
            let before : path_cmp b a ≡ Less = ap (λ (x : Path). path_cmp x a) (sym other) ∙ ap (path_cmp (get_or ps (length ps - 1 - j) a)) (sym one) ∙ rises_at ps rises (length ps - 1 - j) (length ps - 1 - i) a (omega arith) (omega arith) in
            not_both (path_cmp b a) before (sym (path_total.antisymm a b) ∙ less)
        | inr le ↦
            let place : i ≡ j = omega (arith, ge, le) in
            let same : a ≡ b = sym a-is ∙ get_or_default (reverse ps) i a b (omega (arith, length-reverse ps)) ∙ ap (λ k. get_or (reverse ps) k b) place ∙ b-is in
            let no_way : Less ≡ Equal = sym less ∙ ap (λ (x : Path). path_cmp x b) same ∙ tied_itself path_total b in
            cc
      ])
    ]

pub within_rise : (t : Nodes) (p : Path) → IsStrictlySortedBy path_cmp (cuts_within t p)
within_rise t p = IsStrictlySortedBy-filter path_cmp (λ c. covers p c) (cuts_of t) (cuts_rise t)

-- the cuts that the cut at i covers are among those before it
pub taken_before : (t : Nodes) (p : Path) (cuts : List Path) (i : ℕ) (c d : Path) → cuts ≡ reverse (cuts_within t p) → covers p c ≡ true → i < length cuts → c ≡ get_or cuts i c → is_other t c d ≡ true → Contains (take i cuts) d
taken_before t p cuts i c d is inside lt c-is other =
    let o = stands_below t c d other in
    let differs : d ≢ c = λ same. o.some (nothing_behind c o.rest (sym same ∙ o.is)) in
    let covered : covers p d ≡ true = ap (covers p) o.is ∙ covers_below p c o.rest inside in
    let there = passing (λ x. covers p x) (cuts_of t) d (other_cut t c d other) covered in
    let has : Contains cuts d = subst (λ (ps : List Path). Contains ps d) (sym is) (Contains-permutation (cuts_within t p) (reverse (cuts_within t p)) d (IsPermutation-reverse (cuts_within t p)) there) in
    let long : length cuts ≡ length (cuts_within t p) = ap length is ∙ length-reverse (cuts_within t p) in
    let within = has.1 in
    let before : has.0 < i =
    stands_earlier (cuts_within t p) (within_rise t p) i has.0 c d (omega (arith, lt, long)) (omega (arith, within, long)) (ap (λ (ps : List Path). get_or ps i c) (sym is) ∙ sym c-is) (ap (λ (ps : List Path). get_or ps has.0 d) (sym is) ∙ has.2) (below_after c d (below_covered t c d other) differs) in
    (has.0, omega (arith, before, length-take-le i cuts (omega (arith, lt))), get_or-take i cuts has.0 d before ∙ has.2)
  where
    nothing_behind : (c r : Path) → c ≡ c ++ r → r ≡ []
    nothing_behind c r h = sym (same_rest c [] r (append-nil c ∙ h))
