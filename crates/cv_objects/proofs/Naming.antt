-- Names of objects, which tell their ids.
use Rattle.std.proofs.Common.{◌≡◌, ◌≢◌, ◌<◌, ◌&&◌, ℕ, Bool, true, false, List, [], ◌∷◌, length, nat_eq, refl, sym, arith}
use Rattle.std.specs.Prelude.{slice_index, zero, suc}
use Rattle.std.specs.List.{list_all}
use Rattle.std.proofs.lemmas.Bool.Decides.{Decides-ltb, Decides-eqb}
use Rattle.hex.specs.Hex.{IsBytes}
use Rattle.cv_base.specs.Digest.{IsDigest}
use Rattle.cv_base.specs.ObjectId.{id_text, file_name}
use Rattle.cv_base.specs.declared.id.ObjectId.{ObjectId}
use Rattle.cv_base.proofs.Laws.{one_id_text}
use Rattle.cv_vault.specs.Names.{on_way}
use Rattle.cv_vault.proofs.Laws.{apart}
use Rattle.cv_objects.specs.Names.{way_name, is_digest, is_byte}

-- an object's name on its way tells its id
pub way_is : (a b : ObjectId) → IsDigest a.hash → IsDigest b.hash → way_name a ≡ way_name b → a ≡ b
way_is a b x y e =
    let texts : id_text a ≡ id_text b = cc in
    one_id_text a b x y texts

pub data_off_way : (id : ObjectId) → on_way (file_name id) ≡ false
data_off_way id = refl

pub way_on_way : (id : ObjectId) → on_way (way_name id) ≡ true
way_on_way id = refl

pub data_not_way : (a b : ObjectId) → file_name a ≢ way_name b
data_not_way a b e = apart on_way (way_name b) (file_name a) refl refl (sym e)

below : (x : ℕ) → x < 256 → is_byte x ≡ true
below x h = (Decides-ltb x 256).1 h

all_bytes : (xs : List ℕ) → IsBytes xs → list_all is_byte xs ≡ true
all_bytes [] h = refl
all_bytes (x ∷ xs) h = rw (below x (h 0), all_bytes xs (λ i. h (suc i))) refl

pub digest_is : (hash : List ℕ) → IsDigest hash → is_digest hash ≡ true
digest_is hash h = rw (h.size, all_bytes hash h.bytes) refl

first_true : (a b : Bool) → a && b ≡ true → a ≡ true
first_true true b h = refl
first_true false b h = cc

second_true : (a b : Bool) → a && b ≡ true → b ≡ true
second_true true b h = h
second_true false b h = absurd (let k = h in cc)

bytes_cons : (x : ℕ) (xs : List ℕ) → x < 256 → IsBytes xs → (i : ℕ) → slice_index (x ∷ xs) i < 256
bytes_cons x xs a b zero = a
bytes_cons x xs a b (suc i) = b i

bytes_back : (xs : List ℕ) → list_all is_byte xs ≡ true → IsBytes xs
bytes_back [] h = λ i. omega arith
bytes_back (x ∷ xs) h = bytes_cons x xs ((Decides-ltb x 256).0 (first_true (is_byte x) (list_all is_byte xs) h)) (bytes_back xs (second_true (is_byte x) (list_all is_byte xs) h))

pub digest_back : (hash : List ℕ) → is_digest hash ≡ true → IsDigest hash
digest_back hash h = record {
  size = (Decides-eqb (length hash) 20).0 (first_true (nat_eq (length hash) 20) (list_all is_byte hash) h);
  bytes = bytes_back hash (second_true (nat_eq (length hash) 20) (list_all is_byte hash) h);
}
