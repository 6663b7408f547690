-- Facts of lists.
use Rattle.std.proofs.Common.{◌≡◌, ◌<◌, ◌+◌, ◌-◌, ℕ, zero, suc, true, List, [], ◌∷◌, ◌++◌, length, take, drop, map, get_or, Option, Some, refl, sym, ap, subst, ◌∙◌, arith}
use Rattle.std.specs.Prelude.{bytes_eq, slice_get, Contains, option_map}
use Rattle.std.specs.List.{All, AllByRecursion, flat_map, last_or}
use Rattle.std.specs.List.Sorted.{IsPermutation}
use Rattle.std.specs.Cmp.{tied_itself}
use Rattle.std.specs.Cmp.Lexicographic.{nat_list_cmp_total}
use Rattle.std.specs.declared.cmp.Ordering.TheVariants.{Less, Equal}
use Rattle.std.proofs.lemmas.List.{take_all, drop_more, length-drop}
use Rattle.std.proofs.lemmas.List.Concat.{length-flat_map}
use Rattle.std.proofs.lemmas.List.Elements.{Contains-append_right, Contains-get_or}
use Rattle.std.proofs.lemmas.List.Sorted.{sum_by-IsPermutation}
use Rattle.std.proofs.lemmas.Option.{slice_get_within, get_or_from_slice_get}
use Rattle.std.proofs.lemmas.Slice.Eq.{bytes_eq-Decides}
use Rattle.cv_base.specs.BytesOrder.{bytes_cmp}

pub all_push : {X : Type 0} (P : X → Type 0) (xs : List X) (x : X) → AllByRecursion P xs → P x → AllByRecursion P (xs ++ x ∷ [])
all_push P [] x all last = (last, tt)
all_push P (y ∷ xs) x all last = (all.0, all_push P xs x all.1 last)

pub all_append : {X : Type 0} (P : X → Type 0) (xs ys : List X) → AllByRecursion P xs → AllByRecursion P ys → AllByRecursion P (xs ++ ys)
all_append P [] ys h k = k
all_append P (x ∷ xs) ys h k = (h.0, all_append P xs ys h.1 k)

pub all_weaker : {X : Type 0} (P Q : X → Type 0) (xs : List X) → ((x : X) → P x → Q x) → AllByRecursion P xs → AllByRecursion Q xs
all_weaker P Q [] f h = tt
all_weaker P Q (x ∷ xs) f h = (f x h.0, all_weaker P Q xs f h.1)

pub each_all : {X : Type 0} (P : X → Type 0) (xs : List X) → ((x : X) → Contains xs x → P x) → All P xs
each_all P xs h = λ k d lt. h (get_or xs k d) (Contains-get_or xs k d lt)

pub item_there : {X : Type 0} (xs : List X) (i : ℕ) (x : X) → i < length xs → x ≡ get_or xs i x → Contains xs x
item_there xs i x lt is = (i, lt, sym is)

pub stands_there : {X : Type 0} (xs : List X) (i : ℕ) (x : X) → slice_get xs i ≡ Some x → Contains xs x
stands_there xs i x h = (i, slice_get_within xs i x h, get_or_from_slice_get xs i x x h)

-- an element goes to the image
pub goes_to : {X Y : Type 0} (f : X → Y) (xs : List X) (x : X) → Contains xs x → Contains (map f xs) (f x)
goes_to f [] x has = absurd (let lt = has.1 in omega arith)
goes_to f (z ∷ xs) x (zero, lt, is) = (0, omega arith, ap f is)
goes_to f (z ∷ xs) x (suc k, lt, is) = Contains-append_right (f z ∷ []) (map f xs) (f x) (goes_to f xs x (k, omega arith, is))

-- an element of an image, by its index
pub image_at : {X Y : Type 0} (f : X → Y) (xs : List X) (i : ℕ) (y : Y) → slice_get (map f xs) i ≡ Some y → (x : X) × (slice_get xs i ≡ Some x) × (f x ≡ y)
image_at f [] i y h = absurd cc
image_at f (x ∷ xs) zero y h = (x, refl, cc)
image_at f (x ∷ xs) (suc i) y h = image_at f xs i y h

pub last_push : {X : Type 0} (before : Option X) (xs : List X) (x : X) → last_or before (xs ++ x ∷ []) ≡ Some x
last_push before [] x = refl
last_push before (y ∷ xs) x = last_push (Some y) xs x

pub last_map : {X Y : Type 0} (f : X → Y) (before : Option X) (xs : List X) → last_or (option_map f before) (map f xs) ≡ option_map f (last_or before xs)
last_map f before [] = refl
last_map f before (x ∷ xs) = last_map f (Some x) xs

-- the bytes of a list of fields
pub fields_length : {X : Type 0} (f : X → List ℕ) (xs ys : List X) → IsPermutation xs ys → length (flat_map f ys) ≡ length (flat_map f xs)
fields_length f xs ys moved = length-flat_map f ys ∙ sum_by-IsPermutation (λ x. length (f x)) xs ys moved ∙ sym (length-flat_map f xs)

-- what is left of a list begins with the element of its place
pub drop_is : {X : Type 0} (xs : List X) (i : ℕ) (x : X) → i < length xs → x ≡ get_or xs i x → drop i xs ≡ x ∷ drop (i + 1) xs
drop_is xs i x below is = drop_more xs i x below ∙ ap (λ w. w ∷ drop (i + 1) xs) (sym is)

-- what `&xs[n..]` has
pub rest_all : {X : Type 0} (xs : List X) (n : ℕ) → take (length xs - n) (drop n xs) ≡ drop n xs
rest_all xs n = take_all (length xs - n) (drop n xs) (omega (arith, length-drop n xs))

pub bytes_itself : (a b : List ℕ) → a ≡ b → bytes_eq a b ≡ true
bytes_itself a b h = (bytes_eq-Decides a b).1 h

pub bytes_eq-own : (a : List ℕ) → bytes_eq a a ≡ true
bytes_eq-own a = bytes_itself a a refl

pub bytes_are : (a b : List ℕ) → bytes_eq a b ≡ true → a ≡ b
bytes_are a b h = (bytes_eq-Decides a b).0 h

-- bytes aren't below themselves
pub not_less : (a b : List ℕ) → bytes_cmp a b ≡ Less → a ≡ b → ⊥
not_less a b less same =
    let tied : bytes_cmp a a ≡ Equal = tied_itself nat_list_cmp_total a in
    let wrong : bytes_cmp a a ≡ Less = subst (λ (c : List ℕ). bytes_cmp a c ≡ Less) (sym same) less in
    cc
