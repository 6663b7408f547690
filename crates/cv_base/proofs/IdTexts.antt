-- Texts of ids, taken apart.
use Rattle.std.proofs.Common.{◌≡◌, ◌++◌, ◌-◌, ◌≤◌, ℕ, List, [], ◌∷◌, length, take, drop, arith, length-append, append_assoc, codes, ◌+◌, ◌∙◌, ap, sym, refl}
use Rattle.std.specs.Prelude.{Option, Some, None, IfSome}
use Rattle.std.proofs.lemmas.List.{take_at, drop_at, take-append-drop, length-drop, length-take, length-take-le}
use Rattle.cv_base.proofs.Parts.{same_parts}
use Rattle.hex.specs.Hex.{encode_lower, encode_with, lower_digits}
use Rattle.hex.proofs.HexLemmas.{length-encode_with}
use Rattle.cv_base.specs.Digest.{IsDigest}
use Rattle.cv_base.specs.ObjectId.{object_id, id_text, file_name, suffix_of}
use Rattle.cv_base.specs.declared.id.Kind.{Kind}
use Rattle.cv_base.specs.declared.id.ObjectId.{ObjectId}

-- a digest has forty digits
pub length-digits : (hash : List ℕ) → IsDigest hash → length (encode_lower hash) ≡ 40
length-digits hash is = let size = is.size in omega (arith, length-encode_with lower_digits hash, size)

-- the digits and the suffix of a text that is an id
pub text_parts : (text : List ℕ) (id : ObjectId) → IsDigest id.hash → text ≡ id_text id
    → (40 ≤ length text) × (take 40 text ≡ encode_lower id.hash) × (drop 40 text ≡ suffix_of id.kind)
text_parts text id is e =
    let size = length-digits id.hash is in (
      rw (e, length-append) (omega (arith, size)),
      rw e (take_at (encode_lower id.hash) (suffix_of id.kind) 40 size),
      rw e (drop_at (encode_lower id.hash) (suffix_of id.kind) 40 size),
    )

-- a text of these parts is the id's
pub whole_text : (text : List ℕ) (found : Option ObjectId)
    → IfSome found (λ id. (take 40 text ≡ encode_lower id.hash) × (drop 40 text ≡ suffix_of id.kind)) → IfSome found (λ id. text ≡ id_text id)
whole_text text None h = tt
whole_text text (Some id) h =
    sym (take-append-drop 40 text) ∙ ap (λ x. x ++ drop 40 text) h.0 ∙ ap (λ x. encode_lower id.hash ++ x) h.1

-- the same hash and the same kind
pub one_id : {hash : List ℕ} {kind : Kind} {h : Option (List ℕ)} {k : Option Kind} (id : ObjectId)
    → h ≡ Some hash → k ≡ Some kind → h ≡ Some id.hash → k ≡ Some id.kind → Some (object_id hash kind) ≡ Some id
one_id {hash} {kind} id h-is k-is h-too k-too =
    let same-hash : hash ≡ id.hash = cc in
    let same-kind : kind ≡ id.kind = cc in
    rw (same-hash, same-kind) refl

-- the two digits of the first byte, and those of the others
pub first_digits : (hash : List ℕ) → encode_lower (take 1 hash) ≡ take 2 (encode_lower hash)
unfolding encode_with
first_digits [] = refl
first_digits (b ∷ rest) = refl

pub other_digits : (hash : List ℕ) → encode_lower (drop 1 hash) ≡ drop 2 (encode_lower hash)
unfolding encode_with
other_digits [] = refl
other_digits (b ∷ rest) = refl

-- a name cut into a folder of five bytes, two digits, a byte between, 38 digits and what follows
pub record IsCut (name folder first slash others suffix : List ℕ) : Type 0 where
  pub whole : name ≡ folder ++ (first ++ (slash ++ (others ++ suffix)))
  pub folder_size : length folder ≡ 5
  pub first_size : length first ≡ 2
  pub slash_size : length slash ≡ 1
  pub others_size : length others ≡ 38

pub cut : (name folder first slash others suffix rest after between : List ℕ) → 46 ≤ length name
    → folder ≡ take 5 name → rest ≡ drop 5 name → first ≡ take 2 rest → after ≡ drop 2 rest
    → slash ≡ take 1 after → between ≡ drop 1 after → others ≡ take 38 between → suffix ≡ drop 38 between
    → IsCut name folder first slash others suffix
cut name folder first slash others suffix rest after between long f r t a s b o e =
    let size-rest : length rest ≡ length name - 5 = ap length r ∙ length-drop 5 name in
    let size-after : length after ≡ length rest - 2 = ap length a ∙ length-drop 2 rest in
    let size-between : length between ≡ length after - 1 = ap length b ∙ length-drop 1 after in
    let last : between ≡ others ++ suffix = rw (o, e) (sym (take-append-drop 38 between)) in
    let third : after ≡ slash ++ (others ++ suffix) = sym (take-append-drop 1 after) ∙ rw (← s, ← b, last) refl in
    let second : rest ≡ first ++ (slash ++ (others ++ suffix)) = sym (take-append-drop 2 rest) ∙ rw (← t, ← a, third) refl in
    record {
      whole = sym (take-append-drop 5 name) ∙ rw (← f, ← r, second) refl;
      folder_size = ap length f ∙ length-take-le 5 name (omega arith);
      first_size = ap length t ∙ length-take-le 2 rest (omega arith);
      slash_size = ap length s ∙ length-take-le 1 after (omega arith);
      others_size = ap length o ∙ length-take-le 38 between (omega arith);
    }

-- the file's name, its parts to the right
file_name_is : (id : ObjectId) → file_name id ≡ codes "data/" ++ (take 2 (encode_lower id.hash) ++ (codes "/" ++ (drop 2 (encode_lower id.hash) ++ suffix_of id.kind)))
file_name_is id = simp append_assoc

-- the file's name, cut so
pub cut_name : (name folder first slash others suffix : List ℕ) (id : ObjectId) → IsCut name folder first slash others suffix → IsDigest id.hash → name ≡ file_name id
    → (first ++ others ≡ encode_lower id.hash) × (suffix ≡ suffix_of id.kind)
cut_name name folder first slash others suffix id c is named =
    let e : List ℕ = encode_lower id.hash in
    let size = length-digits id.hash is in
    let one = same_parts 5 folder (codes "data/") _ _ c.folder_size refl (sym c.whole ∙ named ∙ file_name_is id) in
    let two = same_parts 2 first (take 2 e) _ _ c.first_size (rw (length-take, size) refl) one.1 in
    let three = same_parts 1 slash (codes "/") _ _ c.slash_size refl two.1 in
    let four = same_parts 38 others (drop 2 e) _ _ c.others_size (rw (length-drop, size) refl) three.1 in
    (rw (two.0, four.0) (take-append-drop 2 e), four.1)

-- what is cut so is the file's name
pub cut_back : (name folder first slash others suffix : List ℕ) (found : Option ObjectId) → IsCut name folder first slash others suffix → folder ≡ codes "data/" → slash ≡ codes "/"
    → IfSome found (λ id. (first ++ others ≡ encode_lower id.hash) × (suffix ≡ suffix_of id.kind)) → IfSome found (λ id. name ≡ file_name id)
cut_back name folder first slash others suffix None c f s h = tt
cut_back name folder first slash others suffix (Some id) c f s h =
    let front : first ≡ take 2 (encode_lower id.hash) = sym (take_at first others 2 c.first_size) ∙ ap (take 2) h.0 in
    let back : others ≡ drop 2 (encode_lower id.hash) = sym (drop_at first others 2 c.first_size) ∙ ap (drop 2) h.0 in
    c.whole ∙ rw (f, s, front, back, h.1) (sym (file_name_is id))

pub name_long : (name : List ℕ) (id : ObjectId) → IsDigest id.hash → name ≡ file_name id → 46 ≤ length name
name_long name id is named =
    let size = length-digits id.hash is in
    let e : List ℕ = encode_lower id.hash in
    let split : length e ≡ length (take 2 e) + length (drop 2 e) = ap length (sym (take-append-drop 2 e)) ∙ length-append (take 2 e) (drop 2 e) in
    let whole : length name ≡ 5 + (length (take 2 e) + (1 + (length (drop 2 e) + length (suffix_of id.kind)))) =
    ap length (named ∙ file_name_is id) ∙ simp length-append (omega arith) in
    omega (arith, size, split, whole)
