-- Paths that cover a path with one more name.
use Rattle.std.proofs.Common.{◌≡◌, ◌≢◌, ℕ, true, false, cond, List, [], ◌∷◌, ◌++◌, None, is_some, refl, sym, subst}
use Rattle.cv_base.specs.Path.{Path, behind, covers, same_name}
use Rattle.cv_base.specs.Marker.{ends_in}
use Rattle.cv_base.proofs.Laws.{only_root, same_name_is, same_name_itself}

-- what covers a path with one more name, and not the path, is that path with the name
pub covers_last : (p q : Path) (name : List ℕ) → covers p q ≡ false → covers p (q ++ name ∷ []) ≡ true → p ≡ q ++ name ∷ []
covers_last [] q name not_all h = absurd cc
covers_last (a ∷ p) [] name not_all h =
    elim (same_name a name) as (λ t. same_name a name ≡ t → is_some (cond t (behind p []) None) ≡ true → a ∷ p ≡ name ∷ []) [
      | true ↦ λ e is. (λ i. same_name_is a name e i ∷ only_root p is i)
      | false ↦ λ e is. absurd cc
    ] refl h
covers_last (a ∷ p) (b ∷ q) name not_all h =
    elim (same_name a b) as (λ t. same_name a b ≡ t → is_some (cond t (behind p q) None) ≡ false → is_some (cond t (behind p (q ++ name ∷ [])) None) ≡ true → a ∷ p ≡ b ∷ (q ++ name ∷ [])) [
      | true ↦ λ e no is. (λ i. same_name_is a b e i ∷ covers_last p q name no is i)
      | false ↦ λ e no is. absurd cc
    ] refl not_all h

-- paths that cover each other are one
both_cover : (p q : Path) → covers p q ≡ true → covers q p ≡ true → p ≡ q
both_cover [] q h g = sym (only_root q g)
both_cover (a ∷ p) [] h g = absurd cc
both_cover (a ∷ p) (b ∷ q) h g =
    elim (same_name a b) as (λ t. same_name a b ≡ t → is_some (cond t (behind p q) None) ≡ true → a ∷ p ≡ b ∷ q) [
      | true ↦ λ e is.
          let name : a ≡ b = same_name_is a b e in
          let back : covers q p ≡ true = inner p q (subst (λ (c : List ℕ). covers (b ∷ q) (c ∷ p) ≡ true) name g) in
          (λ i. name i ∷ both_cover p q is back i)
      | false ↦ λ e is. absurd cc
    ] refl h
  where
    inner : (p q : Path) → covers (b ∷ q) (b ∷ p) ≡ true → covers q p ≡ true
    inner p q h = rw (same_name_itself b) at h

-- a path properly below another doesn't cover it
pub not_above : (at p : Path) → covers at p ≡ true → p ≢ at → covers p at ≡ false
not_above at p below apart =
    elim (covers p at) as (λ t. covers p at ≡ t → t ≡ false) [ true ↦ λ e. absurd (apart (both_cover p at e below)) | false ↦ λ e. refl ] refl

pub ends_so : (q : Path) (name : List ℕ) → ends_in name (q ++ name ∷ []) ≡ true
ends_so [] name = same_name_itself name
ends_so (a ∷ []) name = same_name_itself name
ends_so (a ∷ b ∷ q) name = ends_so (b ∷ q) name
