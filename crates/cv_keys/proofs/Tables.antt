-- What is read of a keys text is a table, in which each key is found by its id.
use Rattle.std.proofs.Common.{◌≡◌, ◌≢◌, ℕ, zero, suc, ◌+◌, ◌==◌, nat_lt, Bool, true, false, cond, ◌||◌, List, [], ◌∷◌, ◌++◌, length, Option, Some, None, Result, Ok, Err, is_some, codes, refl, sym, ap, subst, ◌∙◌, arith, length-append, Vec, Global}
use Rattle.std.specs.Prelude.{slice_get, IfOk}
use Rattle.std.specs.List.{list_all, position_from, position_or_len}
use Rattle.std.specs.Result.{result_map_both}
use Rattle.std.specs.Str.{bytes_eq}
use Rattle.std.proofs.lemmas.Bool.{eq-eqb, ltb-false, not-true}
use Rattle.std.proofs.lemmas.List.Folds.{list_any-append, list_all-append, find_at}
use Rattle.std.proofs.lemmas.Option.{slice_get_past}
use Rattle.std.proofs.lemmas.Slice.Eq.{bytes_eq-Decides}
use Rattle.std.proofs.lemmas.Iterator.Adapters.{position_from-zero}
use Rattle.cv_base.specs.Sequence.{◌>>=◌}
use Rattle.cv_base.specs.Unless.{IsUnless}
use Rattle.cv_base.proofs.Laws.{first_true, second_true, first_false}
use Rattle.serde_json.specs.Data.{Data}
use Rattle.serde_json.specs.Find.{get, as_str, as_object}
use Rattle.cv_keys.specs.Key.{is_key_id, is_secret, has_id, is_distinct, key_of, IsTable}
use Rattle.cv_keys.specs.KeyInner.{place_of}
use Rattle.cv_keys.specs.KeysText.{tested_text, member_text, key_in, new_key, keys_behind, array_keys}
use Rattle.cv_keys.specs.declared.key.Key.{Key}
use Rattle.cv_keys.specs.declared.key_fault.KeyFault.{KeyFault}
use Rattle.cv_keys.specs.declared.key_fault.KeyFault.TheVariants.{WrongType, BadValue, Repeated, TooMany, NoKey, NoMemory}
use Rattle.cv_keys.specs.declared.read_keys.TheConstants.{KEY_LIMIT}

second_false : (a b : Bool) → (a || b) ≡ false → b ≡ false
second_false true b h = cc
second_false false b h = h

-- bytes are equal both ways round
unequal : (a b : List ℕ) → bytes_eq a b ≡ false → bytes_eq b a ≡ false
unequal a b h =
    elim (bytes_eq b a) as (λ t. bytes_eq b a ≡ t → t ≡ false) [
      | true ↦ λ e. let same : bytes_eq a b ≡ true = (bytes_eq-Decides a b).1 (sym ((bytes_eq-Decides b a).0 e)) in cc
      | false ↦ λ e. refl
    ] refl

-- a key of a new id leaves the ids apart
is_distinct-append : (keys : List Key) (key : Key) → is_distinct keys ≡ true → has_id keys key.id ≡ false → is_distinct (keys ++ key ∷ []) ≡ true
is_distinct-append [] key apart fresh = refl
is_distinct-append (first ∷ keys) key apart fresh =
    let other : bytes_eq key.id first.id ≡ false = unequal first.id key.id (first_false _ _ fresh) in
    let before : has_id keys first.id ≡ false = not-true _ (first_true _ _ apart) in
    let after : is_distinct (keys ++ key ∷ []) ≡ true = is_distinct-append keys key (second_true _ _ apart) (second_false _ _ fresh) in
    rw (list_any-append (λ (k : Key). bytes_eq k.id first.id) keys (key ∷ []), before, other, after) refl

-- a key among those of which none has an id has another id
not_among : (keys : List Key) (i : ℕ) (key : Key) (id : List ℕ) → has_id keys id ≡ false → slice_get keys i ≡ Some key → bytes_eq key.id id ≡ false
not_among [] i key id absent is = cc
not_among (first ∷ keys) zero key id absent is =
    let same : first ≡ key = cc in subst (λ (k : Key). bytes_eq k.id id ≡ false) same (first_false _ _ absent)
not_among (first ∷ keys) (suc i) key id absent is = not_among keys i key id (second_false _ _ absent) is

-- the key of an id that no other key has is found there
place_from : (keys : List Key) (n i : ℕ) (key : Key) → is_distinct keys ≡ true → slice_get keys i ≡ Some key
    → position_from (λ (k : Key). bytes_eq k.id key.id) n keys ≡ Some (n + i)
place_from [] n i key apart is = cc
place_from (first ∷ keys) n zero key apart is =
    let same : first ≡ key = cc in
    let found : bytes_eq first.id key.id ≡ true = (bytes_eq-Decides first.id key.id).1 (ap (λ (k : Key). k.id) same) in
    rw found (ap Some (omega arith))
place_from (first ∷ keys) n (suc i) key apart is =
    let absent : has_id keys first.id ≡ false = not-true _ (first_true _ _ apart) in
    let other : bytes_eq first.id key.id ≡ false = unequal key.id first.id (not_among keys i key first.id absent is) in
    rw other (place_from keys (n + 1) i key (second_true _ _ apart) is ∙ ap Some (omega arith))

pub place_of-distinct : (keys : List Key) (i : ℕ) (key : Key) → is_distinct keys ≡ true → slice_get keys i ≡ Some key → place_of keys key.id ≡ Some i
place_of-distinct keys i key apart is = position_from-zero _ keys ∙ place_from keys 0 i key apart is ∙ ap Some (omega arith)

-- the key of an id stands at its place, or there is none
pub key_at : (keys : List Key) (id : List ℕ) (place : ℕ) → place_of keys id ≡ Some place → key_of keys id ≡ slice_get keys place
key_at keys id place is = find_at (λ (k : Key). bytes_eq k.id id) keys ∙ by (position_or_len (λ (k : Key). bytes_eq k.id id) keys) is
  where
    by : (n : ℕ) → cond (nat_lt n (length keys)) (Some n) None ≡ Some place → slice_get keys n ≡ slice_get keys place
    by n h = elim (nat_lt n (length keys)) as (λ t. cond t (Some n) None ≡ Some place → slice_get keys n ≡ slice_get keys place) [
      | true ↦ λ e. let same : n ≡ place = cc in ap (slice_get keys) same
      | false ↦ λ e. cc
    ] h

pub no_key : (keys : List Key) (id : List ℕ) → place_of keys id ≡ None → key_of keys id ≡ None
no_key keys id none = find_at (λ (k : Key). bytes_eq k.id id) keys ∙ by (position_or_len (λ (k : Key). bytes_eq k.id id) keys) none
  where
    by : (n : ℕ) → cond (nat_lt n (length keys)) (Some n) None ≡ None → slice_get keys n ≡ None
    by n h = elim (nat_lt n (length keys)) as (λ t. nat_lt n (length keys) ≡ t → cond t (Some n) None ≡ None → slice_get keys n ≡ None) [
      | true ↦ λ below e. cc
      | false ↦ λ past e. let most = ltb-false n (length keys) past in slice_get_past keys n (omega (arith, most))
    ] refl h

-- a text that was taken passes its test
tested_text-Ok : (place : ℕ) (test : List ℕ → Bool) (o : Option (List ℕ)) (text : List ℕ) → tested_text place test o ≡ Ok text → test text ≡ true
tested_text-Ok place test None text h = cc
tested_text-Ok place test (Some s) text h =
    elim (test s) as (λ t. test s ≡ t → cond t (Ok s) (Err (BadValue place)) ≡ Ok text → test text ≡ true) [
      | true ↦ λ e k. let same : s ≡ text = cc in subst (λ w. test w ≡ true) same e
      | false ↦ λ e k. cc
    ] refl h

member_text-Ok : (place : ℕ) (test : List ℕ → Bool) (o : Option Data) (text : List ℕ) → member_text place test o ≡ Ok text → test text ≡ true
member_text-Ok place test None text h = cc
member_text-Ok place test (Some d) text h = tested_text-Ok place test (as_str d) text h

-- what was bound came of a part
record Bound {A B : Type 0} (r : Result A KeyFault) (next : A → Result B KeyFault) (y : B) : Type 0 where
  value : A
  part : r ≡ Ok value
  rest : next value ≡ Ok y

bound : {A B : Type 0} (r : Result A KeyFault) (next : A → Result B KeyFault) (y : B) → (r >>= next) ≡ Ok y → Bound r next y
bound (Ok x) next y h = record { value = x; part = refl; rest = h }
bound (Err fault) next y h = cc

-- the id of a key that was read
abbrev id_in : Result Key KeyFault → List ℕ → List ℕ
id_in (Ok key) other = key.id
id_in (Err fault) other = other

key_in-Ok : (place : ℕ) (d : Data) (key : Key) → key_in place d ≡ Ok key → is_key_id key.id ≡ true
key_in-Ok place d key h =
    let made : List ℕ → List ℕ → Result Key KeyFault = λ id secret. Ok (record { id = id; secret = secret }) in
    let after : List ℕ → Result Key KeyFault = λ id. member_text place is_secret (get (codes "secret") d) >>= made id in
    elim (is_some (as_object d)) as (λ t. cond t (member_text place is_key_id (get (codes "id") d) >>= after) (Err (WrongType place)) ≡ Ok key → is_key_id key.id ≡ true) [
      | true ↦ λ k.
          let id = bound (member_text place is_key_id (get (codes "id") d)) after key k in
          let secret = bound (member_text place is_secret (get (codes "secret") d)) (made id.value) key id.rest in
          let same : id.value ≡ key.id = ap (λ (r : Result Key KeyFault). id_in r id.value) secret.rest in
          subst (λ (w : List ℕ). is_key_id w ≡ true) same (member_text-Ok place is_key_id (get (codes "id") d) id.value id.part)
      | false ↦ λ k. cc
    ] h

new_key-Ok : (before : List Key) (place : ℕ) (d : Data) (key : Key) → new_key before place d ≡ Ok key → (is_key_id key.id ≡ true) × (has_id before key.id ≡ false)
new_key-Ok before place d key h =
    let read = bound (key_in place d) _ key h in
    elim (has_id before read.value.id) as (λ t. has_id before read.value.id ≡ t → cond t (Err (Repeated place)) (Ok read.value) ≡ Ok key
    → (is_key_id key.id ≡ true) × (has_id before key.id ≡ false)) [
      | true ↦ λ e k. cc
      | false ↦ λ e k. let same : read.value ≡ key = cc in
          subst (λ (w : Key). (is_key_id w.id ≡ true) × (has_id before w.id ≡ false)) same (key_in-Ok place d read.value read.part, e)
    ] refl read.rest

-- keys that are good so far
record IsGood (keys : List Key) : Type 0 where
  ids : list_all (λ (key : Key). is_key_id key.id) keys ≡ true
  distinct : is_distinct keys ≡ true

IsGood-append : (keys : List Key) (key : Key) → IsGood keys → is_key_id key.id ≡ true → has_id keys key.id ≡ false → IsGood (keys ++ key ∷ [])
IsGood-append keys key good id fresh = record {
  ids = rw (list_all-append (λ (k : Key). is_key_id k.id) keys (key ∷ []), good.ids, id) refl;
  distinct = is_distinct-append keys key good.distinct fresh;
}

keys_behind-Ok : (before : List Key) (place : ℕ) (ds : List Data) (keys : List Key) → IsGood before → keys_behind before place ds ≡ Ok keys
    → IsGood keys × (length keys ≡ length before + length ds)
keys_behind-Ok before place [] keys good h =
    let same : before ≡ keys = cc in subst (λ (w : List Key). IsGood w × (length w ≡ length before + 0)) same (good, omega arith)
keys_behind-Ok before place (d ∷ ds) keys good h =
    let read = bound (new_key before place d) _ keys h in
    let key = read.value in
    let facts = new_key-Ok before place d key read.part in
    let all = keys_behind-Ok (before ++ key ∷ []) (place + 1) ds keys (IsGood-append before key good facts.0 facts.1) read.rest in
    (all.0, omega (arith, all.1, length-append before (key ∷ [])))

-- the keys of an array are a table
pub IsTable-array_keys : (ds : List Data) (keys : List Key) → array_keys ds ≡ Ok keys → IsTable keys
IsTable-array_keys ds keys h =
    elim (nat_lt KEY_LIMIT (length ds)) as (λ t. nat_lt KEY_LIMIT (length ds) ≡ t → cond t (Err TooMany) (cond (length ds == 0) (Err NoKey) (keys_behind [] 1 ds)) ≡ Ok keys → IsTable keys) [
      | true ↦ λ e k. cc
      | false ↦ λ few k. elim (length ds == 0) as (λ t. length ds == 0 ≡ t → cond t (Err NoKey) (keys_behind [] 1 ds) ≡ Ok keys → IsTable keys) [
        | true ↦ λ e m. cc
        | false ↦ λ some m.
            let all = keys_behind-Ok [] 1 ds keys (record { ids = refl; distinct = refl }) m in
            let count = ltb-false KEY_LIMIT (length ds) few in
            let nonzero : length ds ≢ 0 = λ e. let zero_tells : length ds == 0 ≡ true = eq-eqb (length ds) 0 e in cc in
            record { some = omega (arith, all.1, nonzero); few = omega (arith, all.1, count); ids = all.0.ids; distinct = all.0.distinct }
      ] refl k
    ] refl h

-- what is read of an array is a table
pub IsTable-read : (ds : List Data) (r : Result (Vec Key Global) KeyFault) → IsUnless NoMemory (result_map_both (λ keys. keys.items) (λ fault. fault) r) (array_keys ds)
    → IfOk r (λ keys. IsTable keys.items)
IsTable-read ds (Ok keys) h = IsTable-array_keys ds keys.items (sym h)
IsTable-read ds (Err e) h = tt
