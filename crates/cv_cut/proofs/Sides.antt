-- Sorted paths: which of them stand before a path, and which of them it covers.
use Rattle.std.proofs.Common.{◌≡◌, ℕ, zero, suc, ◌<◌, ◌≤◌, Bool, true, false, cond, not, List, [], ◌∷◌, take, drop, length, get_or, refl, sym, ap, subst, ◌∙◌, arith, inl, inr}
use Rattle.std.specs.Prelude.{Contains}
use Rattle.std.specs.declared.cmp.Ordering.TheVariants.{Less}
use Rattle.std.specs.Ordering.{is_lt}
use Rattle.std.specs.List.{filter}
use Rattle.std.specs.List.Sorted.{IsStrictlySortedBy, IsPartitionedBy, IsPartitionPoint}
use Rattle.std.specs.Map.{keys_of}
use Rattle.std.specs.FinMap.{is_sorted}
use Rattle.std.specs.FinMap.Entries.{is_sorted-where_key}
use Rattle.std.proofs.Math.ListN.{get_or-map}
use Rattle.std.proofs.Math.Seq.{take-nil, drop-nil}
use Rattle.std.proofs.lemmas.Bool.{cases_lt, not-true}
use Rattle.std.proofs.lemmas.List.{length-map}
use Rattle.std.proofs.lemmas.List.Elements.{All-from_recursion, filter_passes}
use Rattle.cv_base.specs.Path.{Path, path_cmp, covers}
use Rattle.cv_base.proofs.Laws.{is_less, path_total}
use Rattle.cv_tree.specs.declared.node.Node.{Node}
use Rattle.cv_tree.proofs.Laws.{covers_before, covers_between}
use Rattle.cv_cut.specs.CutInner.{StandFrom}
use Rattle.cv_cut.proofs.Members.{first_there, later_there}
use Rattle.cv_cut.proofs.RegionPaths.{keys_rise}
use Rattle.cv_cut.proofs.Bools.{so}

-- ---- sorted paths

-- what stands before is before
pub rises_at : (ps : List Path) → IsStrictlySortedBy path_cmp ps → (i j : ℕ) (d : Path) → i < j → j < length ps → path_cmp (get_or ps i d) (get_or ps j d) ≡ Less
unfolding IsStrictlySortedBy
rises_at [] rises i j d lt within = absurd (omega arith)
rises_at (p ∷ ps) rises i zero d lt within = absurd (omega arith)
rises_at (p ∷ ps) rises zero (suc j) d lt within = All-from_recursion (λ q. path_cmp p q ≡ Less) ps rises.0 j d (omega arith)
rises_at (p ∷ ps) rises (suc i) (suc j) d lt within = rises_at ps rises.1 i j d (omega arith) (omega arith)

module _ {X : Type 0} where
  entries_rise : (es : List (Path × X)) → is_sorted path_cmp es ≡ true → (i j : ℕ) (d : Path × X) → i < j → j < length es → path_cmp (get_or es i d).0 (get_or es j d).0 ≡ Less
  entries_rise es rises i j d lt within =
      ap (λ (x : Path). path_cmp x (get_or es j d).0) (sym (get_or-map (λ e. e.0) es i d))
      ∙ ap (path_cmp (get_or (keys_of es) i d.0)) (sym (get_or-map (λ e. e.0) es j d))
      ∙ rises_at (keys_of es) (keys_rise es rises) i j d.0 lt (omega (arith, length-map es (λ e. e.0)))

  pub before_parted : (p : Path) (es : List (Path × X)) → is_sorted path_cmp es ≡ true → IsPartitionedBy (λ e. is_lt (path_cmp e.0 p)) es
  before_parted p es rises i j d le within h =
      elim (cases_lt i j) [
        | inl lt ↦ ap is_lt (path_total.trans (get_or es i d).0 (get_or es j d).0 p (entries_rise es rises i j d lt within) (is_less _ h))
        | inr ge ↦ let same : j ≡ i = omega (arith, le, ge) in subst (λ k. is_lt (path_cmp (get_or es k d).0 p) ≡ true) same h
      ]

  -- what a partition point parts
  pub parted : (p : Path × X → Bool) (xs : List (Path × X)) (i : ℕ) → i ≤ length xs → IsPartitionPoint (λ x. p x ≡ true) (λ x. p x ≡ false) xs i → (take i xs ≡ filter p xs) × (drop i xs ≡ filter (λ x. not (p x)) xs)
  parted p [] i le point = (take-nil i, drop-nil i)
  parted p (x ∷ xs) zero le point =
      let rest = parted p xs zero (omega arith) (λ k d low high. absurd (omega arith), λ k d low high. point.1 (suc k) d (omega arith) (omega arith)) in
      rw (point.1 0 x (omega arith) (omega arith)) (rest.0, ap (λ w. x ∷ w) rest.1)
  parted p (x ∷ xs) (suc i) le point =
      let rest = parted p xs i (omega arith) (λ k d low high. point.0 (suc k) d (omega arith) (omega arith), λ k d low high. point.1 (suc k) d (omega arith) (omega arith)) in
      rw (point.0 0 x (omega arith) (omega arith)) (ap (λ w. x ∷ w) rest.0, rest.1)

pub covered_parted : (p : Path) (es : List (Path × Node)) → StandFrom p es → IsPartitionedBy (λ e. covers p e.0) es
covered_parted p es stand i j d le within h =
    elim (cases_lt i j) [
      | inl lt ↦ covers_between p (get_or es i d).0 (get_or es j d).0 (not-true _ (stand.from i d (omega (arith, lt, within)))) (entries_rise es stand.rises i j d lt within) h
      | inr ge ↦ let same : j ≡ i = omega (arith, le, ge) in subst (λ k. covers p (get_or es k d).0 ≡ true) same h
    ]

-- ---- filters

-- a test that only elements of another pass keeps the same of those
pub filter_within : {X : Type 0} (p q : X → Bool) (xs : List X) → ((x : X) → Contains xs x → q x ≡ false → p x ≡ false) → filter p (filter q xs) ≡ filter p xs
filter_within p q [] h = refl
filter_within p q (x ∷ xs) h =
    let rest = filter_within p q xs (λ y has. h y (later_there x xs y has)) in
    elim (q x) as (λ b. q x ≡ b → filter p (cond b (x ∷ filter q xs) (filter q xs)) ≡ cond (p x) (x ∷ filter p xs) (filter p xs)) [
      | true ↦ λ e. ap (λ w. cond (p x) (x ∷ w) w) rest
      | false ↦ λ e. rest ∙ sym (ap (λ b. cond b (x ∷ filter p xs) (filter p xs)) (h x (first_there x xs) e))
    ] refl

pub sorted_filter : {X : Type 0} (p : Path → Bool) (es : List (Path × X)) → is_sorted path_cmp es ≡ true → is_sorted path_cmp (filter (λ e. p e.0) es) ≡ true
sorted_filter p es rises = so _ (is_sorted-where_key path_cmp p es (rw rises tt))

-- the entries that don't stand before a path, and those that it covers
pub stand_from : (p : Path) (es rest : List (Path × Node)) → is_sorted path_cmp es ≡ true → rest ≡ filter (λ e. not (is_lt (path_cmp e.0 p))) es → StandFrom p rest
stand_from p es rest rises is = subst (StandFrom p) (sym is) (record { rises = sorted_filter (λ q. not (is_lt (path_cmp q p))) es rises; from = filter_passes (λ e. not (is_lt (path_cmp e.0 p))) es })

pub covered_are : (p : Path) (es rest found : List (Path × Node)) → rest ≡ filter (λ e. not (is_lt (path_cmp e.0 p))) es → found ≡ filter (λ e. covers p e.0) rest → found ≡ filter (λ e. covers p e.0) es
covered_are p es rest found rest-is is =
    is ∙ ap (filter (λ e. covers p e.0)) rest-is
    ∙ filter_within (λ e. covers p e.0) (λ e. not (is_lt (path_cmp e.0 p))) es (λ e has before. elim (covers p e.0) as (λ b. covers p e.0 ≡ b → b ≡ false) [
      | true ↦ λ h. (let after = covers_before p e.0 h in let no_way : true ≡ false = ap not (sym after) ∙ before in cc)
      | false ↦ λ h. refl
    ] refl)
