-- Lists of which each element goes with one of another list.
use Rattle.std.proofs.Common.{suc, List, [], ◌∷◌, ◌++◌, subst, arith, inl, inr}
use Rattle.std.specs.Prelude.{AllPairs, Contains}
use Rattle.std.specs.List.{AllZip}
use Rattle.cv_cut.proofs.Lemmas.{first_or_later, first_there, later_there, none_there}

module _ {X Y : Type 0} (R : X → Y → Type 0) where
  -- what goes with an element
  pub zipped : (xs : List X) (ys : List Y) → AllZip R xs ys → (x : X) → Contains xs x → (y : Y) × Contains ys y × R x y
  zipped [] ys zip x has = absurd (none_there x has)
  zipped (z ∷ xs) [] zip x has = absurd zip
  zipped (z ∷ xs) (y ∷ ys) zip x has = elim (first_or_later z xs x has) [
    | inl same ↦ (y, first_there y ys, subst (λ (w : X). R w y) same zip.0)
    | inr later ↦ let o = zipped xs ys zip.1 x later in (o.0, later_there y ys o.0 o.1, o.2)
  ]

  -- that with which an element goes
  pub zipped_with : (xs : List X) (ys : List Y) → AllZip R xs ys → (y : Y) → Contains ys y → (x : X) × Contains xs x × R x y
  zipped_with xs [] zip y has = absurd (none_there y has)
  zipped_with [] (z ∷ ys) zip y has = absurd zip
  zipped_with (x ∷ xs) (z ∷ ys) zip y has = elim (first_or_later z ys y has) [
    | inl same ↦ (x, first_there x xs, subst (λ (w : Y). R x w) same zip.0)
    | inr later ↦ let o = zipped_with xs ys zip.1 y later in (o.0, later_there x xs o.0 o.1, o.2)
  ]

  pub zip_push : (xs : List X) (ys : List Y) (x : X) (y : Y) → AllZip R xs ys → R x y → AllZip R (xs ++ x ∷ []) (ys ++ y ∷ [])
  zip_push [] [] x y zip r = (r, tt)
  zip_push [] (z ∷ ys) x y zip r = absurd zip
  zip_push (z ∷ xs) [] x y zip r = absurd zip
  zip_push (z ∷ xs) (v ∷ ys) x y zip r = (zip.0, zip_push xs ys x y zip.1 r)

module _ {X : Type 0} (R : X → X → Type 0) where
  -- of a list of pairs, those of its first element and of the others
  pub pairs_head : (x : X) (xs : List X) → AllPairs R (x ∷ xs) → (y : X) → Contains xs y → R x y
  pairs_head x xs all y has = subst (R x) has.2 (all 0 (suc has.0) y (omega arith) (let lt = has.1 in omega arith))

  pub pairs_tail : (x : X) (xs : List X) → AllPairs R (x ∷ xs) → AllPairs R xs
  pairs_tail x xs all = λ i j d lt within. all (suc i) (suc j) d (omega arith) (omega arith)
