-- The longest front that one pack takes is one.
use Rattle.std.proofs.Common.{◌≡◌, ℕ, ◌+◌, ◌<◌, ◌≤◌, Bool, List, [], ◌∷◌, ◌++◌, length, map, refl, sym, ap, ◌∙◌, subst, zero-add, arith, length-append}
use Rattle.std.specs.Prelude.{All, true, false, ◌&&◌, nat_lt, nat_le, sum_by}
use Rattle.std.proofs.lemmas.Bool.{lt-ltb, le-leb}
use Rattle.std.proofs.lemmas.List.{map-append, append-nil}
use Rattle.std.proofs.lemmas.List.Elements.{All-head, All-tail}
use Rattle.std.proofs.lemmas.List.Sums.{sum_by-append}
use Rattle.cv_base.specs.declared.object.Object.{Object}
use Rattle.cv_pack.specs.Pack.{contents_size, entry_of, has_room}
use Rattle.cv_pack.specs.declared.entry.Entry.{Entry}
use Rattle.cv_publisher.specs.Packing.{IsFront}

-- of two fronts of a list one is a front of the other
data Splits {X : Type 0} (a b c d : List X) : Type 0 where
  longer : (more : List X) → c ≡ a ++ more → b ≡ more ++ d → Splits a b c d
  shorter : (next : X) (more : List X) → a ≡ c ++ next ∷ more → d ≡ next ∷ more ++ b → Splits a b c d

split_two : {X : Type 0} (a b c d : List X) → a ++ b ≡ c ++ d → Splits a b c d
split_two [] b c d same = longer c refl same
split_two (x ∷ a) b [] d same = shorter x a refl (sym same)
split_two (x ∷ a) b (y ∷ c) d same =
    let first : x ≡ y = cc in
    elim (split_two a b c d cc) [
      | longer more is left ↦ longer more (ap (λ l. y ∷ l) is ∙ ap (λ z. z ∷ a ++ more) (sym first)) left
      | shorter next more is left ↦ shorter next more (ap (λ l. x ∷ l) is ∙ ap (λ z. z ∷ c ++ next ∷ more) first) left
    ]

all_three : (a b c : Bool) → a ≡ true → b ≡ true → c ≡ true → (a && b && c) ≡ true
all_three true true true p q r = refl
all_three true true false p q r = r
all_three true false c p q r = absurd cc
all_three false b c p q r = absurd cc

at_middle : {X : Type 0} (P : X → Type 0) (before : List X) (x : X) (after : List X) → All P (before ++ x ∷ after) → P x
at_middle P [] x after each = All-head P x after each
at_middle P (y ∷ before) x after each = at_middle P before x after (All-tail P y (before ++ x ∷ after) each)

size-append : (os more : List Object) → contents_size (os ++ more) ≡ contents_size os + contents_size more
size-append os more =
    ap (λ (x : List Entry). sum_by (λ e. e.size) x) (map-append entry_of os more) ∙ sum_by-append (λ (e : Entry). e.size) (map entry_of os) (map entry_of more)

size-cons : (o : Object) (os : List Object) → contents_size (o ∷ os) ≡ length o.bytes + contents_size os
size-cons o os = size-append (o ∷ []) os ∙ ap (λ (n : ℕ). n + contents_size os) (zero-add (length o.bytes))

-- no pack that is a front has the next object of a longest one
not_longer : (os pack rest : List Object) (next : Object) (more rest' : List Object)
    → IsFront os pack rest → IsFront os (pack ++ next ∷ more) rest' → rest ≡ next ∷ more ++ rest' → ⊥
not_longer os pack rest next more rest' short long is =
    let full : has_room pack next.bytes ≡ false = short.longest next (more ++ rest') is in
    let count = long.count in
    let total = long.total in
    let fits : length pack < 10000 = omega (arith, count, length-append pack (next ∷ more)) in
    let small : length next.bytes ≤ 16777216 = at_middle (λ (o : Object). length o.bytes ≤ 16777216) pack next more long.sizes in
    let within : contents_size pack + length next.bytes ≤ 33554432 = omega (arith, total, size-append pack (next ∷ more), size-cons next more) in
    let room : has_room pack next.bytes ≡ true =
    all_three (nat_lt (length pack) 10000) (nat_le (length next.bytes) 16777216) (nat_le (contents_size pack + length next.bytes) 33554432)
    (lt-ltb (length pack) 10000 fits) (le-leb (length next.bytes) 16777216 small) (le-leb (contents_size pack + length next.bytes) 33554432 within) in
    absurd cc

pub same_front : (os pack rest pack' rest' : List Object) → IsFront os pack rest → IsFront os pack' rest' → (pack' ≡ pack) × (rest' ≡ rest)
same_front os pack rest pack' rest' one other = by (split_two pack rest pack' rest' (sym one.split ∙ other.split))
  where
    grown : (more : List Object) → pack' ≡ pack ++ more → rest ≡ more ++ rest' → (pack' ≡ pack) × (rest' ≡ rest)
    grown [] is left = (is ∙ append-nil pack, sym left)
    grown (next ∷ more) is left = absurd (not_longer os pack rest next more rest' one (subst (λ (p : List Object). IsFront os p rest') is other) left)

    by : Splits pack rest pack' rest' → (pack' ≡ pack) × (rest' ≡ rest)
    by (longer more is left) = grown more is left
    by (shorter next more is left) = absurd (not_longer os pack' rest' next more rest other (subst (λ (p : List Object). IsFront os p rest) is one) left)
