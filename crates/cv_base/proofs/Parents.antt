-- The parent of a path keeps the limits of a path.
use Rattle.std.proofs.Common.{◌≡◌, ℕ, suc, ◌-◌, ◌≤◌, true, [], ◌∷◌, length, take, refl, ap, ◌∙◌, arith, length-append}
use Rattle.std.specs.List.{list_all}
use Rattle.std.proofs.lemmas.Bool.{and_from}
use Rattle.cv_base.specs.Path.{Path, IsPath, parent, text_of, is_path_name}
use Rattle.cv_base.proofs.Bools.{first_true, second_true}

names : (p : Path) → list_all is_path_name p ≡ true → list_all is_path_name (parent p) ≡ true
names [] h = refl
names (a ∷ []) h = refl
names (a ∷ b ∷ p) h = and_from (is_path_name a) (list_all is_path_name (parent (b ∷ p))) (first_true (is_path_name a) _ h) (names (b ∷ p) (second_true (is_path_name a) _ h))

depth : (p : Path) → length (parent p) ≤ length p
depth [] = omega arith
depth (a ∷ []) = omega arith
depth (a ∷ b ∷ p) = omega (arith, depth (b ∷ p))

size : (p : Path) → length (text_of (parent p)) ≤ length (text_of p)
size [] = omega arith
size (a ∷ []) = omega arith
size (a ∷ b ∷ p) = omega (arith, size (b ∷ p), length-append (47 ∷ a) (text_of (parent (b ∷ p))), length-append (47 ∷ a) (text_of (b ∷ p)))

pub parent_limits : (p q : Path) → IsPath p → q ≡ parent p → IsPath q
parent_limits p q is same = rw same (record { names = names p is.names; depth = omega (arith, depth p, is.depth); size = omega (arith, size p, is.size) })

pub front_is : (p : Path) → take (length p - 1) p ≡ parent p
front_is [] = refl
front_is (a ∷ []) = refl
front_is (a ∷ b ∷ p) =
    let one : length (a ∷ b ∷ p) - 1 ≡ suc (length (b ∷ p) - 1) = omega arith in
    rw one (ap (λ (w : Path). a ∷ w) (front_is (b ∷ p)))

pub popped : (p q : Path) (n : ℕ) → n ≡ length p → q ≡ take (n - 1) p → q ≡ parent p
popped p q n len is = is ∙ ap (λ (k : ℕ). take (k - 1) p) len ∙ front_is p

pub no_parent : (p q : Path) (n : ℕ) → n ≡ length q → q ≡ p → n ≡ 0 → p ≡ parent p
no_parent [] q n len same none = refl
no_parent (a ∷ p) q n len same none = absurd (let l = ap length same in omega arith)

pub shortened : (p q r : Path) (n : ℕ) → n ≡ length r → r ≡ p → q ≡ take (n - 1) p → q ≡ parent p
shortened p q r n len same is = popped p q n (len ∙ ap length same) is
