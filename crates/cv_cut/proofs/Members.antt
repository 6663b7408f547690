-- What is in a list, in its image under a function, and among those of its elements that pass a test.
use Rattle.std.proofs.Common.{◌≡◌, zero, suc, Bool, true, false, cond, List, [], ◌∷◌, map, refl, sym, ap, subst, ◌∙◌, arith, ◌⊎◌, inl, inr}
use Rattle.std.specs.Prelude.{Contains}
use Rattle.std.specs.List.{filter}
pub use Rattle.cv_base.proofs.Laws.{goes_to}

module _ {X : Type 0} where
  pub none_there : (x : X) → Contains [] x → ⊥
  none_there x has = let lt = has.1 in omega arith

  pub first_there : (x : X) (xs : List X) → Contains (x ∷ xs) x
  first_there x xs = (0, omega arith, refl)

  pub later_there : (y : X) (xs : List X) (x : X) → Contains xs x → Contains (y ∷ xs) x
  later_there y xs x has = (suc has.0, (let lt = has.1 in omega arith), has.2)

  pub first_or_later : (y : X) (xs : List X) (x : X) → Contains (y ∷ xs) x → (y ≡ x) ⊎ Contains xs x
  first_or_later y xs x (zero, lt, is) = inl is
  first_or_later y xs x (suc k, lt, is) = inr (k, omega arith, is)

  -- an element that passes
  pub passes : (p : X → Bool) (xs : List X) (x : X) → Contains (filter p xs) x → Contains xs x × (p x ≡ true)
  passes p [] x has = absurd (none_there x has)
  passes p (y ∷ xs) x has =
      elim (p y) as (λ b. p y ≡ b → Contains (cond b (y ∷ filter p xs) (filter p xs)) x → Contains (y ∷ xs) x × (p x ≡ true)) [
        | true ↦ λ e there. elim (first_or_later y (filter p xs) x there) [
          | inl same ↦ (subst (λ z. Contains (y ∷ xs) z) same (first_there y xs), ap p (sym same) ∙ e)
          | inr later ↦ let rest = passes p xs x later in (later_there y xs x rest.0, rest.1)
        ]
        | false ↦ λ e there. let rest = passes p xs x there in (later_there y xs x rest.0, rest.1)
      ] refl has

  pub passing : (p : X → Bool) (xs : List X) (x : X) → Contains xs x → p x ≡ true → Contains (filter p xs) x
  passing p [] x has pass = absurd (none_there x has)
  passing p (y ∷ xs) x has pass =
      elim (first_or_later y xs x has) [
        | inl same ↦ rw (ap p same ∙ pass) (subst (λ z. Contains (y ∷ filter p xs) z) same (first_there y (filter p xs)))
        | inr later ↦
            let rest = passing p xs x later pass in
            elim (p y) as (λ b. Contains (cond b (y ∷ filter p xs) (filter p xs)) x) [
              | true ↦ later_there y (filter p xs) x rest
              | false ↦ rest
            ]
      ]

module _ {X Y : Type 0} where
  -- an element of the image
  pub comes_from : (f : X → Y) (xs : List X) (y : Y) → Contains (map f xs) y → (x : X) × Contains xs x × (f x ≡ y)
  comes_from f [] y has = absurd (none_there y has)
  comes_from f (x ∷ xs) y has =
      elim (first_or_later (f x) (map f xs) y has) [
        | inl same ↦ (x, first_there x xs, same)
        | inr later ↦ let rest = comes_from f xs y later in (rest.0, later_there x xs rest.0 rest.1, rest.2)
      ]
