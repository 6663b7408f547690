-- The order of the walk is that of the bytes of paths' texts.
use Rattle.std.proofs.Common.{◌≡◌, ℕ, Bool, true, not, ◌==◌, List, [], ◌∷◌, ◌++◌, refl, sym, ap, subst, ◌∙◌, append-nil}
use Rattle.std.specs.declared.cmp.Ordering.{Ordering}
use Rattle.std.specs.declared.cmp.Ordering.TheVariants.{Less, Equal, Greater}
use Rattle.std.specs.Ordering.{nat_cmp, ordering_then, ordering_reverse}
use Rattle.std.specs.Cmp.{nat_cmp_total}
use Rattle.std.specs.FinMap.{nat_cmp-IsAntisymmetric}
use Rattle.std.specs.List.{list_all}
use Rattle.cv_base.specs.Path.{Path, text_of, with_slash}
use Rattle.cv_base.proofs.Laws.{first_true, second_true, then_equal}
use Rattle.cv_base.specs.BytesOrder.{bytes_cmp}
use Rattle.cv_overlay.specs.Walk.{has_no_slash, walk_cmp}
use Rattle.cv_overlay.proofs.WalkOrder.{none_less, some_greater}

abbrev is_other : ℕ → Bool
is_other c = not (c == 47)

no_slash : (c : ℕ) → is_other c ≡ true → nat_cmp 47 c ≡ Equal → ⊥
no_slash c h e = let is : 47 ≡ c = nat_cmp-IsAntisymmetric 47 c e in let other : is_other 47 ≡ true = subst (λ (b : ℕ). is_other b ≡ true) (sym is) h in cc

no_slash_either : (c : ℕ) → is_other c ≡ true → nat_cmp c 47 ≡ Equal → ⊥
no_slash_either c h e = no_slash c h (nat_cmp_total.antisymm 47 c ∙ ap ordering_reverse e)

then_then : (r x y : Ordering) → ordering_then r (ordering_then x y) ≡ ordering_then (ordering_then r x) y
then_then Less x y = refl
then_then Equal x y = refl
then_then Greater x y = refl

-- a byte that is no slash decides beside one
decides : (r x y z : Ordering) → (r ≡ Equal → ⊥) → ordering_then r x ≡ ordering_then (ordering_then r y) z
decides Less x y z differs = refl
decides Equal x y z differs = absurd (differs refl)
decides Greater x y z differs = refl

abbrev Plain : List ℕ → Type 0
Plain name = has_no_slash name ≡ true

-- two names that go on
both_go_on : (a b s t : List ℕ) → Plain a → Plain b → ordering_then (bytes_cmp (with_slash a) (with_slash b)) (bytes_cmp s t) ≡ bytes_cmp (a ++ 47 ∷ s) (b ++ 47 ∷ t)
both_go_on [] [] s t ha hb = refl
both_go_on [] (y ∷ b) s t ha hb = sym (decides (nat_cmp 47 y) _ _ _ (no_slash y (first_true (is_other y) _ hb)))
both_go_on (x ∷ a) [] s t ha hb = sym (decides (nat_cmp x 47) _ _ _ (no_slash_either x (first_true (is_other x) _ ha)))
both_go_on (x ∷ a) (y ∷ b) s t ha hb =
    sym (then_then (nat_cmp x y) (bytes_cmp (with_slash a) (with_slash b)) (bytes_cmp s t))
    ∙ ap (ordering_then (nat_cmp x y)) (both_go_on a b s t (second_true (is_other x) _ ha) (second_true (is_other y) _ hb))

-- the second goes on
second_goes_on : (a b t : List ℕ) → Plain a → ordering_then (bytes_cmp a (with_slash b)) Less ≡ bytes_cmp a (b ++ 47 ∷ t)
second_goes_on [] [] t ha = refl
second_goes_on [] (y ∷ b) t ha = refl
second_goes_on (x ∷ a) [] t ha = sym (decides (nat_cmp x 47) _ _ _ (no_slash_either x (first_true (is_other x) _ ha)))
second_goes_on (x ∷ a) (y ∷ b) t ha =
    sym (then_then (nat_cmp x y) (bytes_cmp a (with_slash b)) Less) ∙ ap (ordering_then (nat_cmp x y)) (second_goes_on a b t (second_true (is_other x) _ ha))

-- the first goes on
first_goes_on : (a b s : List ℕ) → Plain b → ordering_then (bytes_cmp (with_slash a) b) Greater ≡ bytes_cmp (a ++ 47 ∷ s) b
first_goes_on [] [] s hb = refl
first_goes_on (x ∷ a) [] s hb = refl
first_goes_on [] (y ∷ b) s hb = sym (decides (nat_cmp 47 y) _ _ _ (no_slash y (first_true (is_other y) _ hb)))
first_goes_on (x ∷ a) (y ∷ b) s hb =
    sym (then_then (nat_cmp x y) (bytes_cmp (with_slash a) b) Greater) ∙ ap (ordering_then (nat_cmp x y)) (first_goes_on a b s (second_true (is_other y) _ hb))

abbrev Names : Path → Type 0
Names p = list_all has_no_slash p ≡ true

pub walk_texts : (p q : Path) → Names p → Names q → walk_cmp p q ≡ bytes_cmp (text_of p) (text_of q)
walk_texts [] [] hp hq = refl
walk_texts [] (b ∷ q) hp hq = none_less b q
walk_texts (a ∷ p) [] hp hq = some_greater a p
walk_texts (a ∷ []) (b ∷ []) hp hq = then_equal (bytes_cmp a b) ∙ (λ i. bytes_cmp (sym (append-nil a) i) (sym (append-nil b) i))
walk_texts (a ∷ []) (b ∷ d ∷ q) hp hq =
    let pa = first_true (has_no_slash a) _ hp in
    ap (ordering_then (bytes_cmp a (with_slash b))) (none_less d q) ∙ second_goes_on a b (d ++ text_of q) pa ∙ ap (λ (x : List ℕ). bytes_cmp x (b ++ text_of (d ∷ q))) (sym (append-nil a))
walk_texts (a ∷ c ∷ p) (b ∷ []) hp hq =
    let pb = first_true (has_no_slash b) _ hq in
    ap (ordering_then (bytes_cmp (with_slash a) b)) (some_greater c p) ∙ first_goes_on a b (c ++ text_of p) pb ∙ ap (bytes_cmp (a ++ text_of (c ∷ p))) (sym (append-nil b))
walk_texts (a ∷ c ∷ p) (b ∷ d ∷ q) hp hq =
    ap (ordering_then (bytes_cmp (with_slash a) (with_slash b))) (walk_texts (c ∷ p) (d ∷ q) (second_true (has_no_slash a) _ hp) (second_true (has_no_slash b) _ hq))
    ∙ both_go_on a b (c ++ text_of p) (d ++ text_of q) (first_true (has_no_slash a) _ hp) (first_true (has_no_slash b) _ hq)
