-- Lists, element by element.
use Rattle.std.proofs.Common.{◌≡◌, ◌⊎◌, ℕ, zero, suc, List, take, length, ◌<◌, ◌+◌, get_or, [], ◌∷◌, ◌++◌, sym, ap, subst, ◌∙◌, refl, arith}
use Rattle.std.specs.List.{Contains}
use Rattle.std.proofs.lemmas.List.{take_more}
use Rattle.std.proofs.lemmas.List.Elements.{Contains-push_cases, All-take, All-contains, All-contains_itself}

pub earlier : {X : Type 0} (xs : List X) (i : ℕ) (x : X) → Contains (take i xs) x → Contains xs x
earlier xs i x h = All-contains (Contains xs) (take i xs) x (All-take (Contains xs) i xs (All-contains_itself xs)) h

pub last_or_earlier : {X : Type 0} (xs : List X) (i : ℕ) (x a : X) → i < length xs → x ≡ get_or xs i x → Contains (take (i + 1) xs) a → Contains (take i xs) a ⊎ (x ≡ a)
last_or_earlier {X} xs i x a lt is h =
    let e : take (i + 1) xs ≡ take i xs ++ x ∷ [] = take_more xs i x lt ∙ ap (λ y. take i xs ++ y ∷ []) (sym is) in
    Contains-push_cases (take i xs) x a (subst (λ (ys : List X). Contains ys a) e h)

pub first_of : {X : Type 0} (x : X) (xs : List X) → Contains (x ∷ xs) x
first_of x xs = (0, omega arith, refl)

pub later_of : {X : Type 0} (x : X) (xs : List X) (y : X) → Contains xs y → Contains (x ∷ xs) y
later_of x xs y c = (suc c.0, (let lt = c.1 in omega arith), c.2)

pub later_push : {X : Type 0} (xs : List X) (x y : X) → Contains xs y → Contains (xs ++ x ∷ []) y
later_push [] x y c = absurd (let lt = c.1 in omega arith)
later_push (z ∷ zs) x y (zero, lt, e) = (0, omega arith, e)
later_push (z ∷ zs) x y (suc k, lt, e) = later_of z (zs ++ x ∷ []) y (later_push zs x y (k, omega arith, e))
