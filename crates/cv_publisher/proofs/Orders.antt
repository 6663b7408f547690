-- The order in which objects are sent.
use Rattle.std.proofs.Common.{◌≡◌, ℕ, zero, suc, ◌+◌, ◌<◌, ◌⊎◌, Bool, true, false, cond, List, [], ◌∷◌, ◌++◌, Option, Some, None, length, map, get_or, refl, sym, ◌∙◌, ap, subst, arith, inl, inr}
use Rattle.std.specs.Prelude.{Result, Ok, Err, IfOk, String, ◌≢◌, All, AllPairs, Contains, slice_get, option_to_list, option_map, bytes_eq, IsSome, is_some}
use Rattle.std.specs.declared.cmp.Ordering.TheVariants.{Less}
use Rattle.std.specs.declared.alloc.Global.{Global}
use Rattle.std.specs.List.{AllByRecursion}
use Rattle.std.specs.List.Sorted.{IsStrictlySortedBy}
use Rattle.std.specs.Ordering.{is_eq}
use Rattle.std.specs.BTreeMap.{BTreeMap, IsOrdered, get_by_text, values}
use Rattle.std.specs.Map.{keys_of, values_of, update}
use Rattle.std.specs.String.{string_bytes, string_cmp, string_cmp_total}
use Rattle.std.proofs.lemmas.Bool.{cases_lt}
use Rattle.std.proofs.lemmas.List.{length-map, get_or-map}
use Rattle.std.proofs.lemmas.List.Elements.{All-from_recursion, All-contains, Contains-get_or, Contains-append_cases}
use Rattle.std.proofs.lemmas.Map.Entries.{btree_map_get_place, place_from_lookup}
use Rattle.std.proofs.lemmas.Map.Keys.{Less-from_sorted}
use Rattle.std.proofs.lemmas.Map.Text.{is_eq-slice_cmp}
use Rattle.std.proofs.lemmas.Option.{slice_get-map, slice_get-get_or, slice_get_within, slice_get_cases, get_or_from_slice_get}
use Rattle.std.proofs.lemmas.Slice.Eq.{bytes_eq-Decides}
use Rattle.cv_base.specs.BytesOrder.{bytes_cmp}
use Rattle.cv_base.specs.ObjectId.{id_text}
use Rattle.cv_base.specs.declared.id.ObjectId.{ObjectId}
use Rattle.cv_base.specs.declared.object.Object.{Object}
use Rattle.cv_pack.specs.Pack.{ids, IsPacked}
use Rattle.cv_publisher.specs.Packing.{AreInOrder, AreSendable, id_texts, objects_at}
use Rattle.cv_publisher.specs.PackingInner.{FindsFirst}

abbrev Found : Type 0
Found = String Global × ℕ

abbrev text_at : Found → List ℕ
text_at e = string_bytes e.0

abbrev text_of_id : Object → List ℕ
text_of_id o = id_text o.id

-- ---- a search by text, as it grows

pub finds_none : (texts : List (List ℕ)) (find : List ℕ → Option ℕ) → ((q : List ℕ) → find q ≡ None) → FindsFirst texts 0 find
finds_none texts find none = record {
  found = λ q place is. let nothing = none q in absurd cc;
  known = λ q place below is. absurd (omega arith);
}

-- by whether the text is the new one
either : (b : Bool) (P : Type 0) (x y z : Option ℕ) → (b ≡ true → P) → z ≡ cond b x y → (P × (z ≡ x)) ⊎ (z ≡ y)
either true P x y z p is = inl (p refl, is)
either false P x y z p is = inr is

some_is : (x : Option ℕ) (i : ℕ) → x ≡ Some i → IsSome x
some_is x i is = ap is_some is

-- a place of a text that wasn't found
pub finds_new : (texts : List (List ℕ)) (i : ℕ) (text : List ℕ) (find more : List ℕ → Option ℕ) → slice_get texts i ≡ Some text → FindsFirst texts i find
    → ((q : List ℕ) → more q ≡ update bytes_eq find text (Some i) q) → FindsFirst texts (i + 1) more
finds_new texts i text find more here finds goes = record {
  found = λ q place is.
      elim (either (bytes_eq text q) (text ≡ q) (Some i) (find q) (more q) (λ same. (bytes_eq-Decides text q).0 same) (goes q)) [
        | inl new ↦ let at_i = new.1 in let same : i ≡ place = cc in subst (λ (n : ℕ). slice_get texts n ≡ Some q) same (here ∙ ap (λ (t : List ℕ). Some t) new.0)
        | inr old ↦ finds.found q place (sym old ∙ is)
      ];
  known = λ q place below is.
      elim (either (bytes_eq text q) (text ≡ q) (Some i) (find q) (more q) (λ same. (bytes_eq-Decides text q).0 same) (goes q)) [
        | inl new ↦ some_is (more q) i new.1
        | inr old ↦
            elim (cases_lt place i) [
              | inl before ↦ subst IsSome (sym old) (finds.known q place before is)
              | inr past ↦
                  let last : place ≡ i = omega arith in
                  let at_i : slice_get texts i ≡ Some q = subst (λ (n : ℕ). slice_get texts n ≡ Some q) last is in
                  let same : text ≡ q = cc in
                  let test : bytes_eq text q ≡ true = (bytes_eq-Decides text q).1 same in
                  some_is (more q) i (goes q ∙ ap (λ (b : Bool). cond b (Some i) (find q)) test)
            ]
      ];
}

-- a place of a text that was found before
pub finds_old : (texts : List (List ℕ)) (i : ℕ) (text : List ℕ) (find : List ℕ → Option ℕ) → slice_get texts i ≡ Some text → IsSome (find text) → FindsFirst texts i find
    → FindsFirst texts (i + 1) find
finds_old texts i text find here there finds = record {
  found = finds.found;
  known = λ q place below is.
      elim (cases_lt place i) [
        | inl before ↦ finds.known q place before is
        | inr past ↦
            let last : place ≡ i = omega arith in
            let at_i : slice_get texts i ≡ Some q = subst (λ (n : ℕ). slice_get texts n ≡ Some q) last is in
            let same : text ≡ q = cc in
            subst (λ (t : List ℕ). IsSome (find t)) same there
      ];
}

-- ---- what the map has in order

from_places : {E : Type 0} (P : E → Type 0) (es : List E) → ((k : ℕ) (e : E) → slice_get es k ≡ Some e → P e) → AllByRecursion P es
from_places P [] at_each = tt
from_places P (e ∷ es) at_each = (at_each zero e refl, from_places P es (λ k x is. at_each (suc k) x is))

abbrev IsPlaced : List (List ℕ) → Found → Type 0
IsPlaced texts e = slice_get texts e.1 ≡ Some (text_at e)

are_placed : (texts : List (List ℕ)) (m : BTreeMap (String Global) ℕ) → IsOrdered string_cmp m → FindsFirst texts (length texts) (get_by_text m) → AllByRecursion (IsPlaced texts) m.entries
are_placed texts m ordered finds =
    from_places (IsPlaced texts) m.entries
    (λ k e is. finds.found (text_at e) e.1 (btree_map_get_place string_cmp_total m k e.0 e.1 ordered is))

some_object : (x : Option Object) (text : List ℕ) → option_map text_of_id x ≡ Some text → (o : Object) × (x ≡ Some o) × (text_of_id o ≡ text)
some_object None text is = absurd cc
some_object (Some o) text is = (o, refl, cc)

-- the object that a text was found at
found_object : (all : List Object) (e : Found) → IsPlaced (id_texts all) e → (o : Object) × (slice_get all e.1 ≡ Some o) × (text_of_id o ≡ text_at e)
found_object all e placed = some_object (slice_get all e.1) (text_at e) (sym (slice_get-map text_of_id all e.1) ∙ placed)

texts_found : (all : List Object) (es : List Found) → AllByRecursion (IsPlaced (id_texts all)) es → id_texts (objects_at all (values_of es)) ≡ map text_at es
texts_found all [] placed = refl
texts_found all (e ∷ es) placed =
    let o = found_object all e placed.0 in
    let rest = texts_found all es placed.1 in
    ap (λ (x : Option Object). id_texts (option_to_list x ++ objects_at all (values_of es))) o.1
    ∙ ap (λ (t : List ℕ). t ∷ id_texts (objects_at all (values_of es))) o.2 ∙ ap (λ (ts : List (List ℕ)). text_at e ∷ ts) rest

all_texts : (k : String Global) (es : List Found) → AllByRecursion (λ (x : String Global). string_cmp k x ≡ Less) (keys_of es)
    → AllByRecursion (λ (t : List ℕ). bytes_cmp (string_bytes k) t ≡ Less) (map text_at es)
all_texts k [] below = tt
all_texts k (e ∷ es) below = (below.0, all_texts k es below.1)

texts_ascend : (es : List Found) → IsStrictlySortedBy string_cmp (keys_of es) → IsStrictlySortedBy bytes_cmp (map text_at es)
unfolding IsStrictlySortedBy
texts_ascend [] sorted = tt
texts_ascend (e ∷ es) sorted = (all_texts e.0 es sorted.0, texts_ascend es sorted.1)

-- ---- what stands at places

in_one : (x : Option Object) (o : Object) → Contains (option_to_list x) o → x ≡ Some o
in_one None o has = absurd (let below = has.1 in omega arith)
in_one (Some y) o has =
    let first : has.0 ≡ 0 = (let below = has.1 in omega arith) in
    ap (λ (z : Object). Some z) (subst (λ (k : ℕ). get_or (y ∷ []) k o ≡ o) first has.2)

at_contains : (all : List Object) (i : ℕ) (o : Object) → slice_get all i ≡ Some o → Contains all o
at_contains all i o is = (i, slice_get_within all i o is, get_or_from_slice_get all i o o is)

pub only_those : (all : List Object) (ps : List ℕ) (o : Object) → Contains (objects_at all ps) o → Contains all o
only_those all [] o has = absurd (let below = has.1 in omega arith)
only_those all (p ∷ ps) o has =
    elim (Contains-append_cases (option_to_list (slice_get all p)) (objects_at all ps) o has) [
      | inl here ↦ at_contains all p o (in_one (slice_get all p) o here)
      | inr later ↦ only_those all ps o later
    ]

is_the_option : (x : Option ℕ) → IsSome x → (n : ℕ) × (x ≡ Some n)
is_the_option None some = absurd cc
is_the_option (Some n) some = (n, refl)

text_contains : (texts : List (List ℕ)) (i : ℕ) (text : List ℕ) → slice_get texts i ≡ Some text → Contains texts text
text_contains texts i text is = (i, slice_get_within texts i text is, get_or_from_slice_get texts i text text is)

each_text : (all : List Object) (m : BTreeMap (String Global) ℕ) → FindsFirst (id_texts all) (length (id_texts all)) (get_by_text m) → (o : Object) → Contains all o
    → Contains (map text_at m.entries) (id_text o.id)
each_text all m finds o has =
    let at_k : slice_get all has.0 ≡ Some o = slice_get-get_or all has.0 o has.1 ∙ ap (λ (x : Object). Some x) has.2 in
    let text_k : slice_get (id_texts all) has.0 ≡ Some (text_of_id o) = slice_get-map text_of_id all has.0 ∙ ap (option_map text_of_id) at_k in
    let v = is_the_option (get_by_text m (text_of_id o)) (finds.known (text_of_id o) has.0 (slice_get_within (id_texts all) has.0 (text_of_id o) text_k) text_k) in
    let place = place_from_lookup (λ (k : String Global). is_eq (bytes_cmp (text_of_id o) (string_bytes k))) m.entries v.0 v.1 in
    let same : text_of_id o ≡ string_bytes place.1 =
    (bytes_eq-Decides (text_of_id o) (string_bytes place.1)).0 (sym (is_eq-slice_cmp (text_of_id o) (string_bytes place.1)) ∙ place.3) in
    text_contains (map text_at m.entries) place.0 (text_of_id o)
    (slice_get-map text_at m.entries place.0 ∙ ap (option_map text_at) place.2 ∙ ap (λ (t : List ℕ). Some t) (sym same))

-- the values of a map by text are places in order
pub in_order : (all : List Object) (m : BTreeMap (String Global) ℕ) (n : ℕ) → n ≡ length all → IsOrdered string_cmp m → FindsFirst (id_texts all) n (get_by_text m)
    → AreInOrder all (objects_at all (values m))
in_order all m n whole ordered first =
    let finds = subst (λ (x : ℕ). FindsFirst (id_texts all) x (get_by_text m)) (whole ∙ sym (length-map all text_of_id)) first in
    let texts = texts_found all m.entries (are_placed (id_texts all) m ordered finds) in
    record {
      ascend = subst (IsStrictlySortedBy bytes_cmp) (sym texts) (texts_ascend m.entries ordered);
      only = only_those all (values m);
      each = λ o has. subst (λ (ts : List (List ℕ)). Contains ts (id_text o.id)) (sym texts) (each_text all m finds o has);
    }

within_all : (all : List Object) (es : List Found) → AllByRecursion (IsPlaced (id_texts all)) es → AllByRecursion (λ (p : ℕ). p < length all) (values_of es)
within_all all [] placed = tt
within_all all (e ∷ es) placed =
    let o = found_object all e placed.0 in
    (slice_get_within all e.1 o.0 o.1, within_all all es placed.1)

pub places_there : (all : List Object) (m : BTreeMap (String Global) ℕ) (n : ℕ) → n ≡ length all → IsOrdered string_cmp m → FindsFirst (id_texts all) n (get_by_text m)
    → All (λ p. p < length all) (values m)
places_there all m n whole ordered first =
    let finds = subst (λ (x : ℕ). FindsFirst (id_texts all) x (get_by_text m)) (whole ∙ sym (length-map all text_of_id)) first in
    All-from_recursion (λ (p : ℕ). p < length all) (values m) (within_all all m.entries (are_placed (id_texts all) m ordered finds))

pub order_of : {V E : Type 0} (r : Result V E) (items : V → List ℕ) (all : List Object) (m : BTreeMap (String Global) ℕ) (n : ℕ) → IfOk r (λ v. items v ≡ values m) → n ≡ length all
    → IsOrdered string_cmp m → FindsFirst (id_texts all) n (get_by_text m) → IfOk r (λ v. AreInOrder all (objects_at all (items v)))
order_of (Ok v) items all m n are whole ordered finds = subst (λ (ps : List ℕ). AreInOrder all (objects_at all ps)) (sym are) (in_order all m n whole ordered finds)
order_of (Err e) items all m n are whole ordered finds = tt

pub there_of : {V E : Type 0} (r : Result V E) (items : V → List ℕ) (all : List Object) (m : BTreeMap (String Global) ℕ) (n : ℕ) → IfOk r (λ v. items v ≡ values m) → n ≡ length all
    → IsOrdered string_cmp m → FindsFirst (id_texts all) n (get_by_text m) → IfOk r (λ v. All (λ p. p < length all) (items v))
there_of (Ok v) items all m n are whole ordered finds = subst (All (λ (p : ℕ). p < length all)) (sym are) (places_there all m n whole ordered finds)
there_of (Err e) items all m n are whole ordered finds = tt

-- ---- what is in order can be sent

not_below_itself : (t : List ℕ) → bytes_cmp t t ≡ Less → ⊥
not_below_itself t less =
    let equal : is_eq (bytes_cmp t t) ≡ true = is_eq-slice_cmp t t ∙ (bytes_eq-Decides t t).1 refl in
    let wrong : is_eq (bytes_cmp t t) ≡ false = ap is_eq less in
    absurd cc

id_at : (os : List Object) (i : ℕ) (a : Object) (d : ObjectId) → i < length os → get_or (ids os) i d ≡ (get_or os i a).id
id_at os i a d within = get_or-map (λ (o : Object). o.id) os i a d within

text_at_place : (os : List Object) (i : ℕ) (a : Object) (d : List ℕ) → i < length os → get_or (id_texts os) i d ≡ id_text (get_or os i a).id
text_at_place os i a d within = get_or-map text_of_id os i a d within

ids_apart : (os : List Object) → IsStrictlySortedBy bytes_cmp (id_texts os) → AllPairs (λ a b. a ≢ b) (ids os)
ids_apart os ascend = λ i j d below within same.
    let short : j < length os = subst (λ (n : ℕ). j < n) (length-map os (λ (o : Object). o.id)) within in
    elim (slice_get_cases os j).1 [
      | inl found ↦
          let a = found.0 in
          let equal : (get_or os i a).id ≡ (get_or os j a).id = sym (id_at os i a d (omega arith)) ∙ same ∙ id_at os j a d short in
          let t = id_text (get_or os j a).id in
          let less : bytes_cmp (get_or (id_texts os) i t) (get_or (id_texts os) j t) ≡ Less =
          Less-from_sorted bytes_cmp (id_texts os) i j t ascend below (omega (arith, length-map os text_of_id)) in
          let first : get_or (id_texts os) i t ≡ t = text_at_place os i a t (omega arith) ∙ ap id_text equal in
          let second : get_or (id_texts os) j t ≡ t = text_at_place os j a t short in
          not_below_itself t (subst (λ (y : List ℕ). bytes_cmp t y ≡ Less) second (subst (λ (x : List ℕ). bytes_cmp x (get_or (id_texts os) j t) ≡ Less) first less))
      | inr past ↦ absurd (let long = past.0 in omega arith)
    ]

pub sendable : (all : List Object) (ps : List ℕ) → All (λ p. p < length all) ps → All IsPacked all → AreInOrder all (objects_at all ps) → AreSendable all ps
sendable all ps there own order = record {
  there = there;
  own = λ k d within. All-contains IsPacked all (get_or (objects_at all ps) k d) own (only_those all ps (get_or (objects_at all ps) k d) (Contains-get_or (objects_at all ps) k d within));
  apart = ids_apart (objects_at all ps) order.ascend;
}
