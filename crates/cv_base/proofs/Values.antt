-- Facts of options, results, truth values and orders.
use Rattle.std.proofs.Common.{◌≡◌, ℕ, Bool, true, false, cond, ◌&&◌, ◌||◌, Option, Some, None, Result, Ok, Err, refl, sym, ap, subst, ◌∙◌, inl, inr, arith}
use Rattle.std.specs.Prelude.{◌≢◌, ◌⊎◌, OnOk, OnErr, IsSome, IsErrAnd}
use Rattle.std.specs.declared.cmp.Ordering.{Ordering}
use Rattle.std.specs.declared.cmp.Ordering.TheVariants.{Less, Equal, Greater}
use Rattle.std.specs.Ordering.{is_eq, is_lt, ordering_then}

-- ---- options

pub some_same : {A : Type 0} (found : Option A) (a b : A) → found ≡ Some a → found ≡ Some b → a ≡ b
some_same found a b is was = let e : Some a ≡ Some b = sym is ∙ was in cc

pub not_both : {A : Type 0} (found : Option A) (a : A) → found ≡ Some a → found ≡ None → ⊥
not_both found a some none = let e : Some a ≡ None = sym some ∙ none in cc

pub some_there : {A : Type 0} (found : Option A) → IsSome found → (a : A) × (found ≡ Some a)
some_there None some = absurd cc
some_there (Some a) some = (a, refl)

pub not_there : {A : Type 0} (found : Option A) → found ≡ None → IsSome found → ⊥
not_there None none some = cc
not_there (Some a) none some = cc

-- where there is something, the test went this way
pub chosen : {A : Type 0} (test : Bool) (found : Option A) (a : A) → cond test found None ≡ Some a → (test ≡ true) × (found ≡ Some a)
chosen true found a e = (refl, e)
chosen false found a e = absurd cc

-- ---- results

pub OnOk-map : {X E A B : Type 0} (r : Result X E) → (A → B) → OnOk r A → OnOk r B
OnOk-map (Ok x) f h = f h
OnOk-map (Err e) f h = tt

-- what holds in any case holds of an error
pub on_err_only : {A E P : Type 0} (r : Result A E) → P → OnErr r P
on_err_only (Ok x) h = tt
on_err_only (Err e) h = h

-- `?` hands a fault on as it is
pub handed_on : {A E : Type 0} (r : Result A E) (fault : E) → IsErrAnd r (λ e. e ≡ fault) → r ≡ Err fault
handed_on (Ok x) fault is = absurd is
handed_on (Err e) fault is = ap Err is

pub one_fault : {A E : Type 0} (r : Result A E) (fault other : E) → IsErrAnd r (λ e. e ≡ fault) → r ≡ Err other → fault ≡ other
one_fault (Ok x) fault other is same = absurd is
one_fault (Err e) fault other is same = let there : e ≡ other = cc in sym is ∙ there

pub left_by : {A E : Type 0} (P : Result A E → Type 0) (r : Result A E) (fault : E) → IsErrAnd r (λ e. e ≡ fault) → P (Err fault) → P r
left_by P (Ok x) fault is h = absurd is
left_by P (Err e) fault is h = subst (λ x. P (Err x)) (sym is) h

-- ---- truth values, numbers and orders

pub first_false : (a b : Bool) → (a || b) ≡ false → a ≡ false
first_false true b h = cc
first_false false b h = refl

-- which way a test went
pub either : {A : Type 0} (test : Bool) (x y z : A) → cond test x y ≡ z → ((test ≡ true) × (x ≡ z)) ⊎ ((test ≡ false) × (y ≡ z))
either true x y z e = inl (refl, e)
either false x y z e = inr (refl, e)

pub unchosen : {A : Type 0} (test : Bool) (x y : A) → y ≡ cond (test && false) x y
unchosen true x y = refl
unchosen false x y = refl

pub same_or_other : (i j : ℕ) → (i ≡ j) ⊎ (i ≢ j)
same_or_other i j = grind arith

pub is_less : (r : Ordering) → is_lt r ≡ true → r ≡ Less
is_less Less h = refl
is_less Equal h = cc
is_less Greater h = cc

pub is_equal : (r : Ordering) → is_eq r ≡ true → r ≡ Equal
is_equal Less h = cc
is_equal Equal h = refl
is_equal Greater h = cc

pub then_equal : (r : Ordering) → ordering_then r Equal ≡ r
then_equal Less = refl
then_equal Equal = refl
then_equal Greater = refl
