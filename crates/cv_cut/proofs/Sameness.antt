-- Lists in strict order with the same elements are equal.
use Rattle.std.proofs.Common.{◌≡◌, List, [], ◌∷◌, refl, sym, ap, subst, ◌∙◌, inl, inr}
use Rattle.std.specs.Prelude.{Contains}
use Rattle.std.specs.declared.cmp.Ordering.{Ordering}
use Rattle.std.specs.declared.cmp.Ordering.TheVariants.{Less, Equal, Greater}
use Rattle.std.specs.Ordering.{ordering_reverse}
use Rattle.std.specs.Cmp.{IsTotalOrder, tied_itself}
use Rattle.std.specs.List.Sorted.{IsStrictlySortedBy}
use Rattle.std.specs.List.{AllByRecursion}
use Rattle.std.proofs.lemmas.List.Elements.{All-contains, All-from_recursion}
use Rattle.cv_cut.proofs.Members.{none_there, first_there, later_there, first_or_later}

module _ {X : Type 0} {cmp : X → X → Ordering} (total : IsTotalOrder cmp) where
  not_itself : (a : X) → cmp a a ≡ Less → ⊥
  not_itself a h = let e : Less ≡ Equal = sym h ∙ tied_itself total a in cc

  not_both : (a b : X) → cmp a b ≡ Less → cmp b a ≡ Less → ⊥
  not_both a b h k = let e : Less ≡ Greater = sym h ∙ total.antisymm a b ∙ ap ordering_reverse k in cc

  above_first : (x y : X) (xs : List X) → AllByRecursion (λ z. cmp x z ≡ Less) xs → Contains xs y → cmp x y ≡ Less
  above_first x y xs all has = All-contains (λ z. cmp x z ≡ Less) xs y (All-from_recursion (λ z. cmp x z ≡ Less) xs all) has

  pub same_list : (xs ys : List X) → IsStrictlySortedBy cmp xs → IsStrictlySortedBy cmp ys → ((x : X) → Contains xs x → Contains ys x) → ((y : X) → Contains ys y → Contains xs y) → xs ≡ ys
  unfolding IsStrictlySortedBy
  same_list [] [] sorted order there back = refl
  same_list [] (y ∷ ys) sorted order there back = absurd (none_there y (back y (first_there y ys)))
  same_list (x ∷ xs) [] sorted order there back = absurd (none_there x (there x (first_there x xs)))
  same_list (x ∷ xs) (y ∷ ys) sorted order there back =
      let head : x ≡ y = elim (first_or_later y ys x (there x (first_there x xs))) [
        | inl same ↦ sym same
        | inr later ↦ elim (first_or_later x xs y (back y (first_there y ys))) [
          | inl same ↦ same
          | inr after ↦ absurd (not_both x y (above_first x y xs sorted.0 after) (above_first y x ys order.0 later))
        ]
      ] in
      let tail = same_list xs ys sorted.1 order.1
      (λ z has. elim (first_or_later y ys z (there z (later_there x xs z has))) [
        | inl same ↦ absurd (not_itself x (subst (λ (w : X). cmp x w ≡ Less) (sym same ∙ sym head) (above_first x z xs sorted.0 has)))
        | inr later ↦ later
      ])
      (λ z has. elim (first_or_later x xs z (back z (later_there y ys z has))) [
        | inl same ↦ absurd (not_itself y (subst (λ (w : X). cmp y w ≡ Less) (sym same ∙ head) (above_first y z ys order.0 has)))
        | inr later ↦ later
      ]) in
      λ i. head i ∷ tail i
