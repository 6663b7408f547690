-- Writing one after another, as a loop does.
use Rattle.std.proofs.Common.{◌≡◌, ℕ, ◌+◌, ◌≤◌, ◌<◌, List, [], ◌∷◌, ◌++◌, length, get_or, take, sym, ap, ◌∙◌, append_assoc}
use Rattle.std.specs.List.{flat_map}
use Rattle.std.proofs.Math.Seq.{take-add, drop-cons}
use Rattle.std.proofs.lemmas.Grind.{flat_map-append}
use Rattle.std.proofs.lemmas.List.{append-nil, take_all}

-- the first so many and one more
one_more : {X : Type 0} (xs : List X) (i : ℕ) (x : X) → i < length xs → x ≡ get_or xs i x → take (i + 1) xs ≡ take i xs ++ x ∷ []
one_more {X} xs i x lt is = take-add i 1 xs ∙ ap (λ (w : List X). take i xs ++ w) (ap (λ (w : List X). take 1 w) (drop-cons xs i x lt) ∙ ap (λ (y : X). y ∷ []) (sym is))

-- one more is written
pub goes_on : {X : Type 0} (f : X → List ℕ) (xs : List X) (i : ℕ) (x : X) (start old new : List ℕ) → i < length xs → x ≡ get_or xs i x → old ≡ start ++ flat_map f (take i xs) → new ≡ old ++ f x → new ≡ start ++ flat_map f (take (i + 1) xs)
goes_on {X} f xs i x start old new lt is so_far more =
    let front = flat_map f (take i xs) in
    let next : flat_map f (take (i + 1) xs) ≡ front ++ f x = ap (λ (ys : List X). flat_map f ys) (one_more xs i x lt is) ∙ flat_map-append f (take i xs) (x ∷ []) ∙ ap (λ (w : List ℕ). front ++ w) (append-nil (f x)) in
    more ∙ ap (λ (w : List ℕ). w ++ f x) so_far ∙ append_assoc start front (f x) ∙ ap (λ (w : List ℕ). start ++ w) (sym next)

-- all are written
pub is_done : {X : Type 0} (f : X → List ℕ) (xs : List X) (i : ℕ) (start now : List ℕ) → length xs ≤ i → now ≡ start ++ flat_map f (take i xs) → now ≡ start ++ flat_map f xs
is_done {X} f xs i start now le so_far = so_far ∙ ap (λ (ys : List X). start ++ flat_map f ys) (take_all i xs le)
