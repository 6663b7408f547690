-- Paths that begin with a path.
use Rattle.std.proofs.Common.{◌≡◌, Bool, true, false, cond, ◌&&◌, ◌||◌, [], ◌∷◌, ◌++◌, is_some, refl, sym, subst}
use Rattle.std.specs.declared.cmp.Ordering.TheVariants.{Less, Equal, Greater}
use Rattle.std.specs.declared.option.Option.{Option}
use Rattle.std.specs.declared.option.Option.TheVariants.{None, Some}
use Rattle.std.specs.Ordering.{is_eq, eq_by_cmp, ordering_then}
use Rattle.std.specs.List.{starts_with}
use Rattle.cv_base.specs.Path.{Path, path_cmp, same_name, behind, covers, overlap}
use Rattle.cv_base.proofs.PathOrder.{name_exact, same_name_is, same_name_itself}
use Rattle.cv_base.specs.BytesOrder.{bytes_cmp}

-- covers, as the code tests it
pub starts_with-covers : (p q : Path) → starts_with same_name q p ≡ covers p q
starts_with-covers [] q = refl
starts_with-covers (a ∷ p) [] = refl
starts_with-covers (a ∷ p) (b ∷ q) =
    elim (same_name a b) as (λ t. (t && starts_with same_name q p) ≡ is_some (cond t (behind p q) None)) [
      | true ↦ starts_with-covers p q
      | false ↦ refl
    ]

-- what is behind p stands behind p
pub behind-Some : (p q r : Path) → behind p q ≡ Some r → q ≡ p ++ r
behind-Some [] q r h = cc
behind-Some (a ∷ p) [] r h = cc
behind-Some (a ∷ p) (b ∷ q) r h =
    elim (same_name a b) as (λ t. same_name a b ≡ t → cond t (behind p q) None ≡ Some r → b ∷ q ≡ a ∷ (p ++ r)) [
      | true ↦ λ e is. let name : a ≡ b = same_name_is a b e in let rest : q ≡ p ++ r = behind-Some p q r is in cc
      | false ↦ λ e is. cc
    ] refl h

pub behind-append : (p q : Path) → behind p (p ++ q) ≡ Some q
behind-append [] q = refl
behind-append (a ∷ p) q = rw (same_name_itself a) (behind-append p q)

-- what covers a path behind p is covered by p, or covers p
pub overlap-from_covers : (p q r : Path) → covers q (p ++ r) ≡ true → overlap q p ≡ true
overlap-from_covers [] [] r h = refl
overlap-from_covers [] (b ∷ q) r h = refl
overlap-from_covers (a ∷ p) [] r h = refl
overlap-from_covers (a ∷ p) (b ∷ q) r h =
    elim (bytes_cmp b a) as (λ t. bytes_cmp b a ≡ t → is_some (cond (is_eq t) (behind q (p ++ r)) None) ≡ true → (is_some (cond (is_eq t) (behind q p) None) || is_some (cond (same_name a b) (behind p q) None)) ≡ true) [
      | Less ↦ λ e is. cc
      | Equal ↦ λ e is. let name : b ≡ a = name_exact b a e in subst (λ (c : _). (is_some (behind q p) || is_some (cond (same_name a c) (behind p q) None)) ≡ true) (sym name) (rw (same_name_itself a) (overlap-from_covers p q r is))
      | Greater ↦ λ e is. cc
    ] refl h

-- whether what is behind p is q
unfoldable pub is_behind : Option Path → Path → Bool
is_behind None q = false
is_behind (Some r) q = is_eq (path_cmp q r)

-- a path is p and then q where q is what is behind p
pub eq_by_cmp-append : (p q k : Path) → eq_by_cmp path_cmp (p ++ q) k ≡ is_behind (behind p k) q
unfolding is_behind
eq_by_cmp-append [] q k = refl
eq_by_cmp-append (a ∷ p) q [] = refl
eq_by_cmp-append (a ∷ p) q (b ∷ k) =
    elim (bytes_cmp a b) as (λ r. is_eq (ordering_then r (path_cmp (p ++ q) k)) ≡ is_behind (cond (is_eq r) (behind p k) None) q) [
      | Less ↦ refl
      | Equal ↦ eq_by_cmp-append p q k
      | Greater ↦ refl
    ]
