-- Facts of paths: the last name, the path above it, and paths that begin with others.
use Rattle.std.proofs.Common.{◌≡◌, ℕ, ltb, true, false, cond, List, [], ◌∷◌, ◌++◌, length, Some, None, Ok, is_some, refl, sym, ap, subst, ◌∙◌, arith, length-append}
use Rattle.std.proofs.lemmas.List.{append-nil}
use Rattle.std.specs.List.{list_all}
use Rattle.std.specs.declared.cmp.Ordering.TheVariants.{Less, Equal, Greater}
use Rattle.std.specs.Ordering.{is_eq, is_lt, ordering_reverse, ordering_then}
use Rattle.std.specs.Cmp.{tied_itself, eq_by_cmp_equiv}
use Rattle.std.specs.Cmp.Lexicographic.{nat_list_cmp_total}
use Rattle.std.proofs.lemmas.Bool.{le-ltb}
use Rattle.cv_base.specs.BytesOrder.{bytes_cmp}
use Rattle.cv_base.specs.Path.{Path, IsPath, path_cmp, same_name, same_path, behind, covers, overlap, parent, text_of, is_path_name}
use Rattle.cv_base.specs.PathText.{joined}
use Rattle.cv_base.specs.PathOrder.{path_total}
use Rattle.cv_base.proofs.Bools.{first_true, second_true}
use Rattle.cv_base.proofs.Parts.{same_parts}
use Rattle.cv_base.proofs.PathPrefixes.{behind-Some, behind-append}

-- ---- the last name

pub parent-append : (p : Path) (name : List ℕ) → parent (p ++ name ∷ []) ≡ p
parent-append [] name = refl
parent-append (a ∷ []) name = refl
parent-append (a ∷ b ∷ p) name = ap (λ (w : Path). a ∷ w) (parent-append (b ∷ p) name)

pub last_same : (p q : Path) (a b : List ℕ) → p ++ a ∷ [] ≡ q ++ b ∷ [] → (p ≡ q) × (a ≡ b)
last_same p q a b h =
    let size : length p ≡ length q = omega (arith, ap (λ (x : Path). length x) h, length-append p (a ∷ []), length-append q (b ∷ [])) in
    let parts = same_parts (length q) p q (a ∷ []) (b ∷ []) size refl h in
    (parts.0, let e : a ∷ [] ≡ b ∷ [] = parts.1 in cc)

pub all_last : (p : Path) (name : List ℕ) → list_all is_path_name (p ++ name ∷ []) ≡ true → is_path_name name ≡ true
all_last [] name h = first_true (is_path_name name) true h
all_last (a ∷ p) name h = all_last p name (second_true (is_path_name a) (list_all is_path_name (p ++ name ∷ [])) h)

-- joining gives a longer path just where it is one
pub joined_path : (p : Path) (name : List ℕ) → IsPath (p ++ name ∷ []) → joined p name ≡ Ok (p ++ name ∷ [])
joined_path p name is =
    let longer = p ++ name ∷ [] in
    let short : ltb 4095 (length (text_of longer)) ≡ false = le-ltb 4095 (length (text_of longer)) is.size in
    let shallow : ltb 64 (length longer) ≡ false = le-ltb 64 (length longer) is.depth in
    rw (short, shallow, all_last p name is.names) refl

-- ---- the same, and the order

pub same_name-symm : (a b : List ℕ) → same_name a b ≡ same_name b a
same_name-symm a b = (eq_by_cmp_equiv nat_list_cmp_total).symm a b

-- what isn't above and isn't the same is below
pub rising : (a b : List ℕ) → is_lt (bytes_cmp b a) ≡ false → same_name a b ≡ false → bytes_cmp a b ≡ Less
rising a b not_below apart =
    elim (bytes_cmp a b) as (λ o. bytes_cmp a b ≡ o → o ≡ Less) [
      | Less ↦ λ e. refl
      | Equal ↦ λ e. let wrong : true ≡ false = sym (ap is_eq e) ∙ apart in cc
      | Greater ↦ λ e. let wrong : true ≡ false = sym (ap is_lt (nat_list_cmp_total.antisymm b a ∙ ap ordering_reverse e)) ∙ not_below in cc
    ] refl

pub same_path-itself : (p : Path) → same_path p p ≡ true
same_path-itself p = ap is_eq (tied_itself path_total p)

-- paths behind one path are in the order of what is behind it
pub cmp-behind : (c q r : Path) → path_cmp (c ++ q) (c ++ r) ≡ path_cmp q r
cmp-behind [] q r = refl
cmp-behind (a ∷ c) q r = ap (λ o. ordering_then o (path_cmp (c ++ q) (c ++ r))) (tied_itself nat_list_cmp_total a) ∙ cmp-behind c q r

-- ---- paths that begin with others

-- what covers a path covers what is below it
-- each path covers itself
pub covers_itself : (p : Path) → covers p p ≡ true
covers_itself p = subst (λ (q : Path). covers p q ≡ true) (append-nil p) (ap is_some (behind-append p []))

pub only_root : (p : Path) → covers p [] ≡ true → p ≡ []
only_root [] h = refl
only_root (a ∷ p) h = absurd cc

-- of two paths that overlap the second covers the first, where the first doesn't cover it
pub second_covers : (a b : Path) → covers a b ≡ false → overlap a b ≡ true → covers b a ≡ true
second_covers a b out over = rw out at over

pub covers_below : (p q r : Path) → covers p q ≡ true → covers p (q ++ r) ≡ true
covers_below [] q r h = refl
covers_below (a ∷ p) [] r h = absurd cc
covers_below (a ∷ p) (b ∷ q) r h =
    elim (same_name a b) as (λ t. is_some (cond t (behind p q) None) ≡ true → is_some (cond t (behind p (q ++ r)) None) ≡ true) [
      | true ↦ λ is. covers_below p q r is
      | false ↦ λ is. absurd cc
    ] h

pub not_before : (p q r : Path) → covers p (q ++ r) ≡ false → covers p q ≡ false
not_before p q r out =
    elim (covers p q) as (λ t. covers p q ≡ t → t ≡ false) [
      | true ↦ λ e. absurd (let wrong : true ≡ false = sym (covers_below p q r e) ∙ out in cc)
      | false ↦ λ e. refl
    ] refl

pub covers_through : (p q r : Path) → covers p q ≡ true → covers q r ≡ true → covers p r ≡ true
covers_through p q r above deeper =
    elim (behind q r) as (λ o. behind q r ≡ o → is_some o ≡ true → covers p r ≡ true) [
      | None ↦ λ _ some. absurd cc
      | Some rest ↦ λ is _. ap (covers p) (behind-Some q r rest is) ∙ covers_below p q rest above
    ] refl deeper
