-- What a list of pairs has at a name.
use Rattle.std.proofs.Common.{◌≡◌, ◌≢◌, ℕ, zero, suc, ◌<◌, inl, inr, Bool, true, false, cond, List, [], ◌∷◌, ◌++◌, length, get_or, set, map, refl, ap, subst, sym, ◌∙◌, arith}
use Rattle.std.specs.List.{AllByRecursion}
use Rattle.std.proofs.lemmas.List.{length-map, get_or-map}
use Rattle.cv_vault.specs.Names.{Name, same_name}
use Rattle.cv_vault.specs.Events.{value_at}
use Rattle.cv_vault.specs.TableInner.{AreApart}
use Rattle.cv_vault.proofs.Names.{same_name_itself, other_name, same_or_not}

-- no pair has the name
abbrev pub LacksPair : {X : Type 0} → Name → List (Name × X) → Type 0
LacksPair {X} n ps = AllByRecursion (λ (p : Name × X). n ≢ p.0) ps

abbrev pub firsts : {X : Type 0} → List (Name × X) → List Name
firsts {X} ps = map (λ (p : Name × X). p.0) ps

pub value_at-lacks : {X : Type 0} (absent : X) (ps : List (Name × X)) (n : Name) → LacksPair n ps → value_at absent ps n ≡ absent
value_at-lacks absent [] n h = refl
value_at-lacks absent (p ∷ ps) n h = rw (other_name n p.0 h.0) (value_at-lacks absent ps n h.1)

later_differs : (m : Name) (ns : List Name) (i : ℕ) → AreApart (m ∷ ns) → i < length ns → get_or ns i [] ≢ m
later_differs m ns i h lt e = let z : suc i ≡ 0 = h (suc i) 0 (omega arith) (omega arith) e in omega arith

apart_rest : (m : Name) (ns : List Name) → AreApart (m ∷ ns) → AreApart ns
apart_rest m ns h i j li lj e = let z : suc i ≡ suc j = h (suc i) (suc j) (omega arith) (omega arith) e in omega arith

first_at : {X : Type 0} (ps : List (Name × X)) (i : ℕ) (d : Name × X) → i < length ps → get_or (firsts ps) i [] ≡ (get_or ps i d).0
first_at {X} ps i d lt = get_or-map (λ (p : Name × X). p.0) ps i d [] lt

length-firsts : {X : Type 0} (ps : List (Name × X)) → length (firsts ps) ≡ length ps
length-firsts {X} ps = length-map ps (λ (p : Name × X). p.0)

pub value_at-get : {X : Type 0} (absent : X) (ps : List (Name × X)) (i : ℕ) (d : Name × X) → AreApart (firsts ps) → i < length ps → value_at absent ps (get_or ps i d).0 ≡ (get_or ps i d).1
value_at-get absent [] i d differ lt = absurd (omega arith)
value_at-get absent (p ∷ ps) zero d differ lt = rw (same_name_itself p.0) refl
value_at-get absent (p ∷ ps) (suc i) d differ lt =
    let within : i < length ps = omega arith in
    let apart : (get_or ps i d).0 ≢ p.0 = subst (λ m. m ≢ p.0) (first_at ps i d within) (later_differs p.0 (firsts ps) i differ (rw (length-firsts ps) within)) in
    rw (other_name (get_or ps i d).0 p.0 apart) (value_at-get absent ps i d (apart_rest p.0 (firsts ps) differ) within)

-- another value at a name that is there
pub value_at-set : {X : Type 0} (absent : X) (ps : List (Name × X)) (i : ℕ) (d : Name × X) (x : X) → AreApart (firsts ps) → i < length ps
    → (q : Name) → value_at absent (set ps i ((get_or ps i d).0, x)) q ≡ cond (same_name q (get_or ps i d).0) x (value_at absent ps q)
value_at-set absent [] i d x differ lt q = absurd (omega arith)
value_at-set absent (p ∷ ps) zero d x differ lt q = by (same_name q p.0)
  where
    by : (b : Bool) → cond b x (value_at absent ps q) ≡ cond b x (cond b p.1 (value_at absent ps q))
    by true = refl
    by false = refl
value_at-set absent (p ∷ ps) (suc i) d x differ lt q =
    let within : i < length ps = omega arith in
    let n : Name = (get_or ps i d).0 in
    let apart : n ≢ p.0 = subst (λ m. m ≢ p.0) (first_at ps i d within) (later_differs p.0 (firsts ps) i differ (rw (length-firsts ps) within)) in
    elim (same_or_not q p.0) [
      | inl e ↦ let no : same_name q n ≡ false = other_name q n (λ f. apart (sym f ∙ e)) in let yes : same_name q p.0 ≡ true = rw e (same_name_itself p.0) in rw (yes, no) refl
      | inr ne ↦ let no : same_name q p.0 ≡ false = other_name q p.0 ne in rw no (value_at-set absent ps i d x (apart_rest p.0 (firsts ps) differ) within q)
    ]

-- a name that isn't there, with the value of a name that isn't there
pub value_at-push : {X : Type 0} (absent : X) (ps : List (Name × X)) (n : Name) (q : Name) → value_at absent (ps ++ (n, absent) ∷ []) q ≡ value_at absent ps q
value_at-push absent [] n q = elim (same_name q n) as (λ b. cond b absent absent ≡ absent) [ true ↦ refl | false ↦ refl ]
value_at-push absent (p ∷ ps) n q = ap (λ v. cond (same_name q p.0) p.1 v) (value_at-push absent ps n q)
