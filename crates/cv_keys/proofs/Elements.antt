-- Keys that are read of them one after another.
use Rattle.std.proofs.Common.{◌≡◌, ℕ, ◌+◌, ◌<◌, List, [], ◌∷◌, ◌++◌, length, map, get_or, drop, codes, Some, Result, Ok, Err, inl, inr, refl, sym, ap, ◌∙◌}
use Rattle.std.specs.Result.{IsErrAnd, result_map_both}
use Rattle.serde_json.specs.Data.{Data}
use Rattle.serde_json.specs.Find.{get, as_array}
use Rattle.serde_json.specs.View.{view, items_of}
use Rattle.serde_json.specs.declared.value.Value.{Value}
use Rattle.cv_base.specs.Unless.{IsUnless}
use Rattle.cv_base.proofs.Laws.{drop_is}
use Rattle.cv_json.proofs.Laws.{elements-items_of}
use Rattle.cv_keys.specs.KeysText.{new_key, keys_behind, array_keys, keys_in_object}
use Rattle.cv_keys.specs.declared.key.Key.{Key}
use Rattle.cv_keys.specs.declared.key_fault.KeyFault.{KeyFault}
use Rattle.cv_keys.specs.declared.key_fault.KeyFault.TheVariants.{NoMemory}

-- the keys of an object whose member `keys` is an array of these
pub keys_in_object-array : (d e : Data) (ds : List Data) → get (codes "keys") d ≡ Some e → as_array e ≡ Some (items_of ds) → keys_in_object (Some d) ≡ array_keys ds
keys_in_object-array d e ds member is_array = rw (member, is_array, elements-items_of ds) refl

-- one key more was read
pub keys_behind-more : (vs : List Value) (i : ℕ) (v : Value) (key : Key) (before after : List Key) (all : Result (List Key) KeyFault)
    → i < length vs → v ≡ get_or vs i v → Ok key ≡ new_key before (i + 1) (view v) → after ≡ before ++ key ∷ []
    → all ≡ keys_behind before (i + 1) (map view (drop i vs)) → all ≡ keys_behind after (i + 1 + 1) (map view (drop (i + 1) vs))
keys_behind-more vs i v key before after all below is told pushed so_far =
    let cut = drop_is vs i v below is in
    so_far ∙ rw (pushed, cut, ← told) refl

-- a fault of an element is that of all
pub keys_behind-fault : {T : Type 0} (vs : List Value) (i : ℕ) (v : Value) (fault : KeyFault) (before : List Key) (all : Result (List Key) KeyFault) (r : Result T KeyFault)
    (seen : T → List Key) → i < length vs → v ≡ get_or vs i v → IsUnless NoMemory (Err fault) (new_key before (i + 1) (view v))
    → all ≡ keys_behind before (i + 1) (map view (drop i vs)) → IsErrAnd r (λ given. given ≡ fault) → IsUnless NoMemory (result_map_both seen (λ f. f) r) all
keys_behind-fault vs i v fault before all (Ok x) seen below is told so_far given = absurd given
keys_behind-fault vs i v fault before all (Err other) seen below is told so_far given =
    let cut = drop_is vs i v below is in
    elim told [
      | inl lacking ↦ inl (given ∙ lacking)
      | inr first ↦ let whole : all ≡ Err fault = so_far ∙ rw (cut, ← first) refl in inr (ap Err given ∙ sym whole)
    ]
