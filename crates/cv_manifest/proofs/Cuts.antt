-- Lines, cut at newlines.
use Rattle.std.proofs.Common.{◌≡◌, ℕ, ◌+◌, ◌<◌, Bool, true, false, cond, eqb, ◌||◌, List, [], ◌∷◌, ◌++◌, get_or, take, drop, Option, Some, None, refl, sym, ap, ◌∙◌, arith, ◌-◌, append_assoc, add-one}
use Rattle.std.specs.Prelude.{MatchOption, position}
use Rattle.std.specs.List.{position_from}
use Rattle.std.proofs.lemmas.Bool.{or_parts, eqb-true, eq-eqb}
use Rattle.std.proofs.lemmas.List.{take-append-drop, length-take, get_or-take}
use Rattle.std.proofs.lemmas.List.Folds.{list_any_none}
use Rattle.std.proofs.lemmas.List.Quantifiers.{position-Some}
use Rattle.std.proofs.lemmas.Iterator.Adapters.{position_from-zero}
use Rattle.std.proofs.Math.Seq.{drop-cons}
use Rattle.std.proofs.Math.Bool.{or-true}
use Rattle.cv_manifest.specs.Lines.{has_newline, ended}

abbrev pub is_newline : ℕ → Bool
is_newline b = eqb b 10

-- ---- the first newline

none_first : (b : Bool) (i : ℕ) (r : Option ℕ) (rest : Bool) → cond b (Some i) r ≡ None → (r ≡ None → rest ≡ false) → (b || rest) ≡ false
none_first true i r rest e h = absurd cc
none_first false i r rest e h = h e

none_from : (xs : List ℕ) (i : ℕ) → position_from is_newline i xs ≡ None → has_newline xs ≡ false
none_from [] i e = refl
none_from (x ∷ xs) i e = none_first (is_newline x) i (position_from is_newline (i + 1) xs) (has_newline xs) e (none_from xs (i + 1))

front_clear : (xs : List ℕ) (i : ℕ) → position is_newline xs ≡ Some i → has_newline (take i xs) ≡ false
front_clear xs i e = list_any_none is_newline (take i xs) (λ k d h.
    let first = position-Some is_newline xs i d e in
    let below : k < i = omega (arith, h, length-take i xs) in
    rw (get_or-take i xs k d below) (first.2 k below))

first_is : (xs : List ℕ) (i : ℕ) → position is_newline xs ≡ Some i → drop i xs ≡ 10 ∷ drop (i + 1) xs
first_is xs i e =
    let first = position-Some is_newline xs i 0 e in
    let byte : get_or xs i 0 ≡ 10 = eqb-true _ 10 first.1 in
    rw (drop-cons xs i 0 first.0, byte, add-one i) refl

-- the bytes before the first newline, and those behind it
pub cut_at : (xs : List ℕ) (found : Option ℕ) → position is_newline xs ≡ found
    → MatchOption found (has_newline xs ≡ false) (λ i. (has_newline (take i xs) ≡ false) × (xs ≡ take i xs ++ 10 ∷ drop (i + 1) xs))
cut_at xs None e = none_from xs 0 (sym (position_from-zero is_newline xs) ∙ e)
cut_at xs (Some i) e = (front_clear xs i e, sym (take-append-drop i xs) ∙ ap (λ (t : List ℕ). take i xs ++ t) (first_is xs i e))

-- ---- lines of a text

or_none : (b : ℕ) (bs : List ℕ) → has_newline (b ∷ bs) ≡ false → (b ≡ 10 → ⊥) × (has_newline bs ≡ false)
or_none b bs e = let parts = or_parts (is_newline b) (has_newline bs) e in ((λ ten. let yes : is_newline b ≡ true = eq-eqb b 10 ten in cc), parts.1)

-- a text is cut at its first newline in one way
pub one_cut : (a b x y : List ℕ) → has_newline a ≡ false → has_newline b ≡ false → a ++ 10 ∷ x ≡ b ++ 10 ∷ y → (a ≡ b) × (x ≡ y)
one_cut [] [] x y a-none b-none e = (refl, cc)
one_cut [] (b ∷ bs) x y a-none b-none e = absurd ((or_none b bs b-none).0 cc)
one_cut (a ∷ as') [] x y a-none b-none e = absurd ((or_none a as' a-none).0 cc)
one_cut (a ∷ as') (b ∷ bs) x y a-none b-none e =
    let head : a ≡ b = cc in
    let tail : as' ++ 10 ∷ x ≡ bs ++ 10 ∷ y = cc in
    let more = one_cut as' bs x y (or_none a as' a-none).1 (or_none b bs b-none).1 tail in
    (rw (head, more.0) refl, more.1)

pub newline_in : (a x : List ℕ) → has_newline (a ++ 10 ∷ x) ≡ true
newline_in [] x = refl
newline_in (a ∷ as') x = rw (newline_in as' x) (or-true (is_newline a))

-- bytes that end with a newline aren't none
pub not_nil : (a x : List ℕ) → a ++ 10 ∷ x ≡ [] → ⊥
not_nil [] x e = cc
not_nil (a ∷ as') x e = cc

-- a line, and those behind it
pub ended-cons : (line : List ℕ) (lines : List (List ℕ)) (rest : List ℕ) → ended (line ∷ lines) ++ rest ≡ line ++ 10 ∷ (ended lines ++ rest)
ended-cons line lines rest = append_assoc (line ++ 10 ∷ []) (ended lines) rest ∙ append_assoc line (10 ∷ []) (ended lines ++ rest)

pub ended-push : (lines : List (List ℕ)) (line rest : List ℕ) → ended (lines ++ line ∷ []) ++ rest ≡ ended lines ++ (line ++ 10 ∷ rest)
ended-push [] line rest = ended-cons line [] rest
ended-push (first ∷ lines) line rest =
    ended-cons first (lines ++ line ∷ []) rest
    ∙ ap (λ (t : List ℕ). first ++ 10 ∷ t) (ended-push lines line rest)
    ∙ sym (ended-cons first lines (line ++ 10 ∷ rest))

pub ended-first : (line : List ℕ) (lines : List (List ℕ)) → ended (line ∷ lines) ≡ line ++ 10 ∷ ended lines
ended-first line lines = append_assoc line (10 ∷ []) (ended lines)
