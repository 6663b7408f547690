-- The names of the line's files, which are none of objects.
use Rattle.std.proofs.Common.{◌≡◌, ◌≢◌, ◌<◌, ◌^◌, ℕ, Bool, true, false, List, [], ◌∷◌, nat_eq, codes, length, ◌+◌, length-append, refl, ap, ◌∙◌, arith}
use Rattle.std.specs.Prelude.{decimal, None, if◌then◌else◌}
use Rattle.std.specs.List.{starts_with}
use Rattle.std.proofs.lemmas.List.{append_cancel_right}
use Rattle.std.proofs.lemmas.Fmt.{decimal_injective}
use Rattle.hex.specs.Hex.{encode_lower, lower_digits}
use Rattle.hex.proofs.HexLemmas.{length-encode_with}
use Rattle.cv_base.specs.Digest.{IsDigest}
use Rattle.cv_base.specs.ObjectId.{file_name, id_text, suffix_of}
use Rattle.cv_base.specs.declared.id.ObjectId.{ObjectId}
use Rattle.cv_base.specs.declared.object.Object.{Object}
use Rattle.cv_vault.specs.Disk.{File, Files}
use Rattle.cv_base.specs.Objects.{AreNamed}
use Rattle.cv_objects.specs.Batches.{IsApart}
use Rattle.cv_objects.specs.Names.{objects_of, is_digest, way_name}
use Rattle.cv_objects.proofs.Lemmas.{is_digest_of}
use Rattle.cv_vault.specs.Names.{on_way}
use Rattle.cv_swap.specs.Stands.{head_name, head_way, epoch_name, epoch_text}
use Rattle.cv_swap.specs.StandsInner.{epoch_way}

abbrev is_data : List ℕ → Bool
is_data n = starts_with nat_eq n (codes "data/")

abbrev is_head : List ℕ → Bool
is_head n = starts_with nat_eq n (codes ".cvmfs")

tested : (p : List ℕ → Bool) (a b : List ℕ) → p a ≡ false → p b ≡ true → a ≢ b
tested p a b x y e = let z : p a ≡ p b = ap p e in cc

pub head_not_data : (id : ObjectId) → head_name ≢ file_name id
head_not_data id = tested is_data head_name (file_name id) refl refl

pub epoch_not_data : (id : ObjectId) → epoch_name ≢ file_name id
epoch_not_data id = tested is_data epoch_name (file_name id) refl refl

pub head_way_not_data : (id : ObjectId) → head_way ≢ file_name id
head_way_not_data id = tested is_data head_way (file_name id) refl refl

pub epoch_way_not_data : (id : ObjectId) → epoch_way ≢ file_name id
epoch_way_not_data id = tested is_data epoch_way (file_name id) refl refl

pub epoch_not_head : epoch_name ≢ head_name
epoch_not_head = tested is_head epoch_name head_name refl refl

pub same_epoch : (m n : ℕ) → m < 2 ^ 64 → n < 2 ^ 64 → epoch_text m ≡ epoch_text n → m ≡ n
same_epoch m n a b e = decimal_injective m n a b (append_cancel_right (decimal m) (decimal n) (10 ∷ []) e)

-- the same files, the same objects
pub same_object : (f g : Files) (id : ObjectId) → f (file_name id) ≡ g (file_name id) → objects_of f id ≡ objects_of g id
same_object f g id e = ap (λ (x : File). if is_digest id.hash then x else None) e

-- ---- names beside those of a batch

abbrev is_manifest : List ℕ → Bool
is_manifest n = starts_with nat_eq n (codes "txn/m")

pub epoch_not_manifest : epoch_way ≢ head_way
epoch_not_manifest = tested is_manifest epoch_way head_way refl refl

pub manifest_not_epoch : epoch_name ≢ head_way
manifest_not_epoch = tested on_way epoch_name head_way refl refl

-- a short name on the way is no object's
short_not_object : (way : List ℕ) (size : ℕ) (id : ObjectId) → length way ≡ size → size < 44 → IsDigest id.hash → way ≢ way_name id
short_not_object way size id long short is e =
    let bytes = is.size in
    let whole : length way ≡ 4 + length (id_text id) = ap length e ∙ length-append (codes "txn/") (id_text id) in
    let text : length (id_text id) ≡ length (encode_lower id.hash) + length (suffix_of id.kind) = length-append (encode_lower id.hash) (suffix_of id.kind) in
    omega (arith, long, whole, text, length-encode_with lower_digits id.hash, bytes)

-- no object comes by these names, or to them
pub head_apart : (batch : List Object) → AreNamed batch → IsApart batch head_way
head_apart batch named = record {
  way = λ o h. short_not_object head_way 12 o.id refl (omega arith) (is_digest_of batch o named h);
  name = λ o h. head_way_not_data o.id;
}

pub epoch_way_apart : (batch : List Object) → AreNamed batch → IsApart batch epoch_way
epoch_way_apart batch named = record {
  way = λ o h. short_not_object epoch_way 9 o.id refl (omega arith) (is_digest_of batch o named h);
  name = λ o h. epoch_way_not_data o.id;
}

pub epoch_apart : (batch : List Object) → IsApart batch epoch_name
epoch_apart batch = record {
  way = λ o h. tested on_way epoch_name (way_name o.id) refl refl;
  name = λ o h. epoch_not_data o.id;
}

pub head_place_apart : (batch : List Object) → IsApart batch head_name
head_place_apart batch = record {
  way = λ o h. tested on_way head_name (way_name o.id) refl refl;
  name = λ o h. head_not_data o.id;
}
