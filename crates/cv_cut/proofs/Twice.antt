-- Lists in which nothing stands twice.
use Rattle.std.proofs.Common.{◌≡◌, ℕ, zero, suc, ◌<◌, true, Some, List, [], ◌∷◌, map, sym, ap, ◌∙◌, arith, inl, inr}
use Rattle.std.specs.Prelude.{Contains, slice_get}
use Rattle.std.specs.declared.cmp.Ordering.{Ordering}
use Rattle.std.specs.declared.cmp.Ordering.TheVariants.{Less, Equal}
use Rattle.std.specs.Cmp.{IsTotalOrder, tied_itself}
use Rattle.std.specs.Option.{option_map}
use Rattle.std.specs.FinMap.{is_sorted}
use Rattle.std.specs.FinMap.Entries.{below_all}
use Rattle.std.proofs.lemmas.Bool.{cases_lt}
use Rattle.cv_base.proofs.Laws.{first_true, second_true, image_at, stands_there}
use Rattle.cv_rows.specs.Made.{AreApart}
use Rattle.cv_cut.proofs.Entries.{below_each}

pub image_there : {X Y : Type 0} (f : X → Y) (xs : List X) (i : ℕ) (x : X) → slice_get xs i ≡ Some x → slice_get (map f xs) i ≡ Some (f x)
image_there f [] i x h = absurd cc
image_there f (y ∷ xs) zero x h = ap (λ o. option_map f o) h
image_there f (y ∷ xs) (suc i) x h = image_there f xs i x h

-- where nothing stands twice, what stands at two places stands at one
pub one_place : (xs : List (List ℕ)) (x : List ℕ) (i j : ℕ) → AreApart xs → slice_get xs i ≡ Some x → slice_get xs j ≡ Some x → i ≡ j
one_place xs x i j apart one other =
    elim (cases_lt i j) [
      | inl lt ↦ absurd (apart x (record { first = i; second = j; order = lt; one = one; other = other }))
      | inr ge ↦ elim (cases_lt j i) [
        | inl gt ↦ absurd (apart x (record { first = j; second = i; order = gt; one = other; other = one }))
        | inr le ↦ omega (arith, ge, le)
      ]
    ]

-- no element stands at two places
pub record StandOnce {X : Type 0} (xs : List X) : Type 0 where
  pub each : (i j : ℕ) (x : X) → i < j → slice_get xs i ≡ Some x → slice_get xs j ≡ Some x → ⊥

-- nor does one of their images, where these differ
pub once_image : {X Y : Type 0} (f : X → Y) (xs : List X) → StandOnce xs → ((a b : X) → Contains xs a → Contains xs b → f a ≡ f b → a ≡ b) → StandOnce (map f xs)
once_image f xs once apart = record {
  each = λ i j y lt one other.
      let a = image_at f xs i y one in
      let b = image_at f xs j y other in
      let same = apart a.0 b.0 (stands_there xs i a.0 a.1) (stands_there xs j b.0 b.1) (a.2 ∙ sym b.2) in
      once.each i j a.0 lt a.1 (b.1 ∙ ap Some (sym same));
}

not_below : (r : Ordering) → r ≡ Less → r ≡ Equal → ⊥
not_below r h k = let e : Less ≡ Equal = sym h ∙ k in cc

rising_once : {K X : Type 0} (R : K → K → Ordering) → IsTotalOrder R → (es : List (K × X)) → is_sorted R es ≡ true → (i j : ℕ) (x : K × X) → i < j → slice_get es i ≡ Some x → slice_get es j ≡ Some x → ⊥
rising_once R o [] rises i j x lt one other = cc
rising_once R o (e ∷ es) rises i zero x lt one other = omega arith
rising_once R o (e ∷ es) rises zero (suc j) x lt one other =
    let same : e ≡ x = cc in
    let less = below_each R e.0 es x.0 x.1 (first_true (below_all R e.0 es) (is_sorted R es) rises) (stands_there es j x other) in
    not_below (R e.0 x.0) less (ap (λ y. R y.0 x.0) same ∙ tied_itself o x.0)
rising_once R o (e ∷ es) rises (suc i) (suc j) x lt one other =
    rising_once R o es (second_true (below_all R e.0 es) (is_sorted R es) rises) i j x (omega arith) one other

-- entries whose keys rise
pub sorted_once : {K X : Type 0} (R : K → K → Ordering) → IsTotalOrder R → (es : List (K × X)) → is_sorted R es ≡ true → StandOnce es
sorted_once R o es rises = record { each = rising_once R o es rises }
