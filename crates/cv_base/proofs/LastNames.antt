-- The last name of a path.
use Rattle.std.proofs.Common.{◌≡◌, List, [], ◌∷◌, ◌-◌, ◌≤◌, ℕ, suc, length, take, Some, refl, ap, subst, arith}
use native.Mathlib.Numerals.{unary_clauses}
use Rattle.std.specs.List.{slice_get}
use Rattle.md5.specs.Md5.{md5}
use Rattle.cv_base.specs.Path.{Path, same_name, text_of, parent, parent_key_of, last_name_of}
use Rattle.cv_base.specs.Marker.{ends_in}

-- whether a path ends in a name, by its last name
pub ends_in_last : (name last : List ℕ) (path : Path) → slice_get path (length path - 1) ≡ Some last → ends_in name path ≡ same_name last name
ends_in_last name last [] h = cc
ends_in_last name last (a ∷ []) h = cc
ends_in_last name last (a ∷ b ∷ path) h = ends_in_last name last (b ∷ path) (simp unary_clauses (simp unary_clauses at h))

-- the last name, by its place
last_name_at : (last : List ℕ) (path : Path) → Some last ≡ slice_get path (length path - 1) → last ≡ last_name_of path
last_name_at last [] h = absurd cc
last_name_at last (a ∷ []) h = cc
last_name_at last (a ∷ b ∷ path) h = last_name_at last (b ∷ path) (simp unary_clauses (simp unary_clauses at h))

pub last_name_is : (last : List ℕ) (path names : Path) → names ≡ path → Some last ≡ slice_get names (length names - 1) → last ≡ last_name_of path
last_name_is last path names same h = subst (λ (p : Path). last ≡ last_name_of p) same (last_name_at last names h)

-- all names but the last
all_but_last : (a : List ℕ) (path : Path) → take (length (a ∷ path) - 1) (a ∷ path) ≡ parent (a ∷ path)
all_but_last a [] = refl
all_but_last a (b ∷ path) =
    let e : length (a ∷ b ∷ path) - 1 ≡ suc (length (b ∷ path) - 1) = omega arith in
    rw e (ap (λ (w : Path). a ∷ w) (all_but_last b path))

-- the key of the directory above is that of all names but the last
parent_key_at : (path : Path) → 1 ≤ length path → md5 (text_of (take (length path - 1) path)) ≡ parent_key_of path
parent_key_at [] some = absurd (omega arith)
parent_key_at (a ∷ path) some = ap (λ (q : Path). md5 (text_of q)) (all_but_last a path)

pub parent_key_is : (path names : Path) → names ≡ path → 1 ≤ length names → md5 (text_of (take (length names - 1) names)) ≡ parent_key_of path
parent_key_is path names same some = subst (λ (p : Path). md5 (text_of (take (length names - 1) names)) ≡ parent_key_of p) same (parent_key_at names some)
