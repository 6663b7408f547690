-- The limits of a path with one more name.
use Rattle.std.proofs.Common.{◌≡◌, ℕ, ◌+◌, ◌<◌, Bool, true, false, cond, ◌&&◌, List, [], ◌∷◌, ◌++◌, length, refl, sym, ap, ◌∙◌, arith, length-append}
use Rattle.std.specs.Prelude.{Some, None, Err, is_ok, nat_lt, nat_le}
use Rattle.std.proofs.lemmas.List.Concat.{flat_map-append}
use Rattle.std.proofs.lemmas.List.Folds.{list_all-append}
use Rattle.cv_base.specs.Path.{Path, IsPath, text_of, is_path_name}
use Rattle.cv_base.specs.PathText.{within_limits, of_names}
use Rattle.cv_base.specs.declared.path_fault.PathFault.TheVariants.{TooLong, TooDeep}
use Rattle.cv_base.proofs.Laws.{first_true, second_true}
use Rattle.cv_overlay.specs.Walk.{takes}

pub size_with : (p : Path) (name : List ℕ) → length (text_of (p ++ name ∷ [])) ≡ length (text_of p) + 1 + length name
size_with p name =
    let e = ap length (flat_map-append (λ (n : List ℕ). 47 ∷ n) p (name ∷ [])) in
    let two = length-append (text_of p) (text_of (name ∷ [])) in
    let one = length-append (47 ∷ name) [] in
    omega (arith, e, two, one)

pub depth_with : (p : Path) (name : List ℕ) → length (p ++ name ∷ []) ≡ length p + 1
depth_with p name = omega (arith, length-append p (name ∷ []))

good_end : (path : Path) (good : Bool) → is_ok (of_names path (cond good None (Some 0))) ≡ good
good_end path true = refl
good_end path false = refl

taken : (size depth : ℕ) (path : Path) (good : Bool) → length path ≡ depth + 1
    → is_ok (within_limits size path (cond good None (Some 0))) ≡ (nat_lt depth 64 && nat_le size 4095 && good)
taken size depth path good e =
    elim (nat_lt 4095 size) as (λ b. nat_lt 4095 size ≡ b → is_ok (cond b (Err TooLong) (cond (nat_lt 64 (length path)) (Err TooDeep) (of_names path (cond good None (Some 0))))) ≡ (nat_lt depth 64 && nat_le size 4095 && good)) [
      | true ↦ λ large. let no : nat_le size 4095 ≡ false = grind (arith) in rw no (both_false (nat_lt depth 64) good)
      | false ↦ λ small. let yes : nat_le size 4095 ≡ true = grind (arith) in
          elim (nat_lt 64 (length path)) as (λ b. nat_lt 64 (length path) ≡ b → is_ok (cond b (Err TooDeep) (of_names path (cond good None (Some 0)))) ≡ (nat_lt depth 64 && nat_le size 4095 && good)) [
            | true ↦ λ deep. let no : nat_lt depth 64 ≡ false = grind (arith) in rw no refl
            | false ↦ λ shallow. let in_depth : nat_lt depth 64 ≡ true = grind (arith) in rw (yes, in_depth) (good_end path good)
          ] refl
    ] refl
  where
    both_false : (a b : Bool) → false ≡ ((a && false) && b)
    both_false true b = refl
    both_false false b = refl

-- what a path takes, as the code tests it
pub takes_is : (p : Path) (name : List ℕ) (depth size long : ℕ) → depth ≡ length p → size ≡ length (text_of p) → long ≡ length name
    → takes p name ≡ (nat_lt depth 64 && nat_le (size + 1 + long) 4095 && is_path_name name)
takes_is p name depth size long d s l =
    rw (d, s, l) (taken (length (text_of (p ++ name ∷ []))) (length p) (p ++ name ∷ []) (is_path_name name) (depth_with p name)
    ∙ ap (λ (k : ℕ). nat_lt (length p) 64 && nat_le k 4095 && is_path_name name) (size_with p name))

tested : (p : Path) (name : List ℕ) → takes p name ≡ true → (nat_lt (length p) 64 && nat_le (length (text_of (p ++ name ∷ []))) 4095 && is_path_name name) ≡ true
tested p name h = sym (taken (length (text_of (p ++ name ∷ []))) (length p) (p ++ name ∷ []) (is_path_name name) (depth_with p name)) ∙ h

-- a path that takes a name has fewer than 64
pub takes_depth : (p : Path) (name : List ℕ) → takes p name ≡ true → length p < 64
takes_depth p name h = let t = first_true (nat_lt (length p) 64) _ (first_true _ (is_path_name name) (tested p name h)) in grind (arith)

-- with the name it keeps the limits
pub takes_path : (p : Path) (name : List ℕ) → IsPath p → takes p name ≡ true → IsPath (p ++ name ∷ [])
takes_path p name is h =
    let front = first_true (nat_lt (length p) 64 && nat_le (length (text_of (p ++ name ∷ []))) 4095) (is_path_name name) (tested p name h) in
    let good = second_true (nat_lt (length p) 64 && nat_le (length (text_of (p ++ name ∷ []))) 4095) (is_path_name name) (tested p name h) in
    let size = second_true (nat_lt (length p) 64) (nat_le (length (text_of (p ++ name ∷ []))) 4095) front in
    let depth = takes_depth p name h in
    record {
      names = list_all-append is_path_name p (name ∷ []) ∙ rw (is.names, good) refl;
      depth = omega (arith, depth_with p name, depth);
      size = grind (arith);
    }
