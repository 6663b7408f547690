-- Objects at places.
use Rattle.std.proofs.Common.{◌≡◌, ◌≢◌, ℕ, zero, suc, ◌+◌, ◌-◌, ◌<◌, ◌≤◌, Bool, List, [], ◌∷◌, ◌++◌, Option, Some, length, take, drop, get_or, refl, sym, ◌∙◌, ◌⊎◌, ap, subst, append_assoc, arith, length-append, inl, inr}
use Rattle.std.specs.Prelude.{All, AllPairs, Contains, slice_get, option_to_list, false, true, ◌&&◌, nat_lt, nat_le, Result, Ok, Err, OnOk, is_err}
use Rattle.std.proofs.lemmas.Bool.{le-ltb, lt-leb}
use Rattle.std.proofs.lemmas.List.{length-take-le, take_more, drop_more, drop_all, take_all, map-append, take-append-drop, get_or_append_left, get_or-append-add, get_or_at}
use Rattle.std.proofs.lemmas.List.Elements.{All-head, All-tail, All-take, All-drop, All-push}
use Rattle.std.proofs.lemmas.Option.{slice_get_cases}
use Rattle.cv_base.specs.declared.id.ObjectId.{ObjectId}
use Rattle.cv_base.specs.declared.object.Object.{Object}
use Rattle.cv_pack.specs.Pack.{contents_size, has_room, ids, IsPacked}
use Rattle.cv_pack.specs.declared.add_fault.AddFault.{AddFault}
use Rattle.cv_pack.proofs.Laws.{size_more}
use Rattle.cv_publisher.specs.Packing.{AreSendable, IsFront, objects_at}

-- ---- places one after another

pub objects_at-append : (all : List Object) (ps qs : List ℕ) → objects_at all (ps ++ qs) ≡ objects_at all ps ++ objects_at all qs
objects_at-append all [] qs = refl
objects_at-append all (p ∷ ps) qs =
    ap (λ (x : List Object). option_to_list (slice_get all p) ++ x) (objects_at-append all ps qs)
    ∙ sym (append_assoc (option_to_list (slice_get all p)) (objects_at all ps) (objects_at all qs))

-- one place more
pub objects_more : (all : List Object) (ps : List ℕ) (i : ℕ) (o : Object) → i < length ps → slice_get all (get_or ps i 0) ≡ Some o
    → objects_at all (take (i + 1) ps) ≡ objects_at all (take i ps) ++ o ∷ []
objects_more all ps i o within is =
    ap (objects_at all) (take_more ps i 0 within) ∙ objects_at-append all (take i ps) (get_or ps i 0 ∷ [])
    ∙ ap (λ (x : Option Object). objects_at all (take i ps) ++ (option_to_list x ++ [])) is

-- the next one
pub objects_next : (all : List Object) (ps : List ℕ) (i : ℕ) (o : Object) → i < length ps → slice_get all (get_or ps i 0) ≡ Some o
    → objects_at all (drop i ps) ≡ o ∷ objects_at all (drop (i + 1) ps)
objects_next all ps i o within is =
    ap (objects_at all) (drop_more ps i 0 within) ∙ ap (λ (x : Option Object). option_to_list x ++ objects_at all (drop (i + 1) ps)) is

pub objects_split : (all : List Object) (n : ℕ) (ps : List ℕ) → objects_at all ps ≡ objects_at all (take n ps) ++ objects_at all (drop n ps)
objects_split all n ps = ap (objects_at all) (sym (take-append-drop n ps)) ∙ objects_at-append all (take n ps) (drop n ps)

-- as many as there are places
length_one : {X : Type 0} (x : Option X) (y : X) → x ≡ Some y → length (option_to_list x) ≡ 1
length_one x y is = ap (λ r. length (option_to_list r)) is

pub length-objects_at : (all : List Object) (ps : List ℕ) → All (λ p. p < length all) ps → length (objects_at all ps) ≡ length ps
length-objects_at all [] there = refl
length-objects_at all (p ∷ ps) there =
    let within : p < length all = All-head (λ (x : ℕ). x < length all) p ps there in
    elim (slice_get_cases all p).1 [
      | inl found ↦
          let rest = length-objects_at all ps (All-tail (λ (x : ℕ). x < length all) p ps there) in
          let one = length_one (slice_get all p) found.0 found.2 in
          omega (arith, length-append (option_to_list (slice_get all p)) (objects_at all ps))
      | inr past ↦ absurd (let long = past.0 in omega arith)
    ]

-- ---- parts of lists

all_left : {X : Type 0} (P : X → Type 0) (xs ys : List X) → All P (xs ++ ys) → All P xs
all_left P xs ys all = λ k d within. subst P (get_or_append_left xs ys d k within) (all k d (omega (arith, length-append xs ys)))

all_right : {X : Type 0} (P : X → Type 0) (xs ys : List X) → All P (xs ++ ys) → All P ys
all_right P xs ys all = λ k d within. subst P (get_or-append-add xs ys k d) (all (length xs + k) d (omega (arith, length-append xs ys)))

pairs_left : {X : Type 0} (R : X → X → Type 0) (xs ys : List X) → AllPairs R (xs ++ ys) → AllPairs R xs
pairs_left {X} R xs ys all = λ i j d below within.
    subst (λ (y : X). R (get_or xs i d) y) (get_or_append_left xs ys d j within)
    (subst (λ (x : X). R x (get_or (xs ++ ys) j d)) (get_or_append_left xs ys d i (omega arith)) (all i j d below (omega (arith, length-append xs ys))))

pairs_right : {X : Type 0} (R : X → X → Type 0) (xs ys : List X) → AllPairs R (xs ++ ys) → AllPairs R ys
pairs_right {X} R xs ys all = λ i j d below within.
    subst (λ (y : X). R (get_or ys i d) y) (get_or-append-add xs ys j d)
    (subst (λ (x : X). R x (get_or (xs ++ ys) (length xs + j) d)) (get_or-append-add xs ys i d)
    (all (length xs + i) (length xs + j) d (omega arith) (omega (arith, length-append xs ys))))

-- ---- what can be sent

abbrev Differ : ObjectId → ObjectId → Type 0
Differ a b = a ≢ b

ids-append : (os more : List Object) → ids (os ++ more) ≡ ids os ++ ids more
ids-append os more = map-append (λ (o : Object). o.id) os more

pub sendable_take : (all : List Object) (n : ℕ) (ps : List ℕ) → AreSendable all ps → AreSendable all (take n ps)
sendable_take all n ps are = record {
  there = All-take (λ (p : ℕ). p < length all) n ps are.there;
  own = all_left IsPacked (objects_at all (take n ps)) (objects_at all (drop n ps)) (subst (All IsPacked) (objects_split all n ps) are.own);
  apart =
      pairs_left Differ (ids (objects_at all (take n ps))) (ids (objects_at all (drop n ps)))
      (subst (AllPairs Differ) (ap ids (objects_split all n ps) ∙ ids-append (objects_at all (take n ps)) (objects_at all (drop n ps))) are.apart);
}

pub sendable_drop : (all : List Object) (n : ℕ) (ps : List ℕ) → AreSendable all ps → AreSendable all (drop n ps)
sendable_drop all n ps are = record {
  there = All-drop (λ (p : ℕ). p < length all) n ps are.there;
  own = all_right IsPacked (objects_at all (take n ps)) (objects_at all (drop n ps)) (subst (All IsPacked) (objects_split all n ps) are.own);
  apart =
      pairs_right Differ (ids (objects_at all (take n ps))) (ids (objects_at all (drop n ps)))
      (subst (AllPairs Differ) (ap ids (objects_split all n ps) ∙ ids-append (objects_at all (take n ps)) (objects_at all (drop n ps))) are.apart);
}

-- what stands at a place is among them, behind what stands at the places before it
around : (all : List Object) (ps : List ℕ) (i : ℕ) (o : Object) → i < length ps → slice_get all (get_or ps i 0) ≡ Some o
    → objects_at all ps ≡ objects_at all (take i ps) ++ o ∷ objects_at all (drop (i + 1) ps)
around all ps i o within is =
    objects_split all i ps ∙ ap (λ (x : List Object). objects_at all (take i ps) ++ x) (objects_next all ps i o within is)

pub own_at : (all : List Object) (ps : List ℕ) (i : ℕ) (o : Object) → i < length ps → slice_get all (get_or ps i 0) ≡ Some o → AreSendable all ps → IsPacked o
own_at all ps i o within is are =
    All-head IsPacked o (objects_at all (drop (i + 1) ps))
    (all_right IsPacked (objects_at all (take i ps)) (o ∷ objects_at all (drop (i + 1) ps)) (subst (All IsPacked) (around all ps i o within is) are.own))

pub new_at : (all : List Object) (ps : List ℕ) (i : ℕ) (o : Object) → i < length ps → slice_get all (get_or ps i 0) ≡ Some o → AreSendable all ps
    → Contains (ids (objects_at all (take i ps))) o.id → ⊥
new_at all ps i o within is are has =
    let before : List ObjectId = ids (objects_at all (take i ps)) in
    let behind : List ObjectId = ids (objects_at all (drop (i + 1) ps)) in
    let pairs : AllPairs Differ (before ++ o.id ∷ behind) =
    subst (AllPairs Differ) (ap ids (around all ps i o within is) ∙ ids-append (objects_at all (take i ps)) (o ∷ objects_at all (drop (i + 1) ps))) are.apart in
    pairs has.0 (length before) o.id has.1 (omega (arith, length-append before (o.id ∷ behind)))
    (get_or_append_left before (o.id ∷ behind) o.id has.0 has.1 ∙ has.2 ∙ sym (get_or_at before o.id behind o.id (length before) refl))

-- ---- the front that a pack takes

pub front_stops : (all : List Object) (left : List ℕ) (i : ℕ) (o : Object) → i < length left → slice_get all (get_or left i 0) ≡ Some o
    → length (objects_at all (take i left)) ≤ 10000 → All (λ x. length x.bytes ≤ 16777216) (objects_at all (take i left))
    → contents_size (objects_at all (take i left)) ≤ 33554432 → has_room (objects_at all (take i left)) o.bytes ≡ false
    → IsFront (objects_at all left) (objects_at all (take i left)) (objects_at all (drop i left))
front_stops all left i o within is few small total full = record {
  split = objects_split all i left;
  count = few;
  sizes = small;
  total = total;
  longest = λ next more rest.
      let first = objects_next all left i o within is in
      let same : o ≡ next = cc in
      subst (λ (x : Object). has_room (objects_at all (take i left)) x.bytes ≡ false) same full;
}

pub front_ends : (all : List Object) (left : List ℕ) → length (objects_at all left) ≤ 10000 → All (λ x. length x.bytes ≤ 16777216) (objects_at all left)
    → contents_size (objects_at all left) ≤ 33554432
    → IsFront (objects_at all left) (objects_at all (take (length left) left)) (objects_at all (drop (length left) left))
front_ends all left few small total =
    let whole : take (length left) left ≡ left = take_all (length left) left (omega arith) in
    let none : drop (length left) left ≡ [] = drop_all (length left) left (omega arith) in
    record {
      split = objects_split all (length left) left;
      count = subst (λ (ps : List ℕ). length (objects_at all ps) ≤ 10000) (sym whole) few;
      sizes = subst (λ (ps : List ℕ). All (λ (x : Object). length x.bytes ≤ 16777216) (objects_at all ps)) (sym whole) small;
      total = subst (λ (ps : List ℕ). contents_size (objects_at all ps) ≤ 33554432) (sym whole) total;
      longest = λ next more rest. let nothing = ap (objects_at all) none in absurd cc;
    }

-- no room is left for an object: for another one, for one of its size, or for its bytes
first_fails : (a b c : Bool) → a ≡ false → (a && b && c) ≡ false
first_fails true b c is = absurd cc
first_fails false b c is = refl

second_fails : (a b c : Bool) → b ≡ false → (a && b && c) ≡ false
second_fails true true c is = absurd cc
second_fails true false c is = refl
second_fails false b c is = refl

third_fails : (a b c : Bool) → c ≡ false → (a && b && c) ≡ false
third_fails true true c is = is
third_fails true false c is = refl
third_fails false b c is = refl

pub count_full : (pack : List Object) (bytes : List ℕ) → 10000 ≤ length pack → has_room pack bytes ≡ false
count_full pack bytes full = first_fails (nat_lt (length pack) 10000) (nat_le (length bytes) 16777216) (nat_le (contents_size pack + length bytes) 33554432) (le-ltb (length pack) 10000 full)

pub size_full : (pack : List Object) (bytes : List ℕ) → 16777216 < length bytes → has_room pack bytes ≡ false
size_full pack bytes full = second_fails (nat_lt (length pack) 10000) (nat_le (length bytes) 16777216) (nat_le (contents_size pack + length bytes) 33554432) (lt-leb (length bytes) 16777216 full)

pub total_full : (pack : List Object) (bytes : List ℕ) → 33554432 < contents_size pack + length bytes → has_room pack bytes ≡ false
total_full pack bytes full = third_fails (nat_lt (length pack) 10000) (nat_le (length bytes) 16777216) (nat_le (contents_size pack + length bytes) 33554432) (lt-leb (contents_size pack + length bytes) 33554432 full)

-- ---- the loops over places

pub count_at : (all : List Object) (left : List ℕ) (i : ℕ) → AreSendable all left → i ≤ length left → length (objects_at all (take i left)) ≡ i
count_at all left i are within =
    length-objects_at all (take i left) (All-take (λ (p : ℕ). p < length all) i left are.there) ∙ length-take-le i left within

pub size_at : (all : List Object) (left : List ℕ) (i size : ℕ) (o : Object) (bytes : List ℕ) → i < length left → slice_get all (get_or left i 0) ≡ Some o → bytes ≡ o.bytes
    → size ≡ contents_size (objects_at all (take i left)) → size + length bytes ≡ contents_size (objects_at all (take (i + 1) left))
size_at all left i size o bytes within is same sized =
    ap (λ (n : ℕ). n + length bytes) sized ∙ ap (λ (b : List ℕ). contents_size (objects_at all (take i left)) + length b) same
    ∙ sym (size_more (objects_at all (take i left)) o) ∙ ap contents_size (sym (objects_more all left i o within is))

abbrev IsSmall : Object → Type 0
IsSmall o = length o.bytes ≤ 16777216

pub small_at : (all : List Object) (left : List ℕ) (i : ℕ) (o : Object) (bytes : List ℕ) → i < length left → slice_get all (get_or left i 0) ≡ Some o → bytes ≡ o.bytes
    → length bytes ≤ 16777216 → All IsSmall (objects_at all (take i left)) → All IsSmall (objects_at all (take (i + 1) left))
small_at all left i o bytes within is same fits small =
    subst (All IsSmall) (sym (objects_more all left i o within is))
    (All-push IsSmall (objects_at all (take i left)) o small (subst (λ (b : List ℕ). length b ≤ 16777216) same fits))

-- where some are left, the first has room
pub front_some : (all : List Object) (left : List ℕ) (i size len : ℕ) (o : Object) → AreSendable all left → i < length left → slice_get all (get_or left i 0) ≡ Some o → len ≡ length o.bytes
    → size ≡ contents_size (objects_at all (take i left)) → (10000 ≤ i) ⊎ ((16777216 < len) ⊎ (33554432 < size + len)) → 0 < i
front_some all left (suc i) size len o are within is same sized full = omega arith
front_some all left zero size len o are within is same sized (inl many) = absurd (omega arith)
front_some all left zero size len o are within is same sized (inr (inl big)) =
    let small : length o.bytes ≤ 16777216 = (own_at all left zero o within is are).size in
    absurd (omega arith)
front_some all left zero size len o are within is same sized (inr (inr over)) =
    let small : length o.bytes ≤ 16777216 = (own_at all left zero o within is are).size in
    let none : size ≡ 0 = sized in
    absurd (omega arith)

pub front_whole : (all : List Object) (left : List ℕ) (i size : ℕ) → AreSendable all left → length left ≤ i → i ≤ length left → i ≤ 10000
    → size ≡ contents_size (objects_at all (take i left)) → size ≤ 33554432 → All IsSmall (objects_at all (take i left))
    → IsFront (objects_at all left) (objects_at all (take (length left) left)) (objects_at all (drop (length left) left))
front_whole all left i size are past within few sized total small =
    let whole : take i left ≡ left = take_all i left past in
    let count = length-objects_at all left are.there in
    front_ends all left (omega arith) (subst (λ (ps : List ℕ). All IsSmall (objects_at all ps)) whole small)
    (subst (λ (n : ℕ). n ≤ 33554432) (sized ∙ ap (λ (ps : List ℕ). contents_size (objects_at all ps)) whole) total)

added_ok : (r : Result (Unit {0}) AddFault) (P : Type 0) → is_err r ≡ false → OnOk r P → P
added_ok (Ok done) P is holds = holds
added_ok (Err fault) P is holds = absurd cc

pub filled_more : (all : List Object) (ps : List ℕ) (i : ℕ) (o : Object) (old new : List Object) (r : Result (Unit {0}) AddFault) → i < length ps
    → slice_get all (get_or ps i 0) ≡ Some o → old ≡ objects_at all (take i ps) → is_err r ≡ false → OnOk r (new ≡ old ++ o ∷ [])
    → new ≡ objects_at all (take (i + 1) ps)
filled_more all ps i o old new r within is before ok adds =
    added_ok r (new ≡ old ++ o ∷ []) ok adds ∙ ap (λ (os : List Object). os ++ o ∷ []) before ∙ sym (objects_more all ps i o within is)
