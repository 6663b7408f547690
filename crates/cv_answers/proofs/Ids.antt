-- What is written of an id says it, and a text says no id but that.
use Rattle.std.proofs.Common.{◌≡◌, ℕ, true, List, ◌∷◌, [], ◌++◌, length, take, drop, Option, Some, None, refl, sym, ap, subst, ◌∙◌, arith}
use Rattle.std.specs.Prelude.{option_map, option_and_then}
use Rattle.std.specs.Str.{bytes_eq}
use Rattle.std.proofs.lemmas.List.{take_at, drop_at, take-append-drop}
use Rattle.std.proofs.lemmas.Slice.Eq.{bytes_eq-Decides}
use Rattle.hex.specs.Hex.{encode_lower, lower_digits}
use Rattle.hex.proofs.HexLemmas.{length-encode_with}
use Rattle.cv_base.specs.Digest.{IsDigest}
use Rattle.cv_base.specs.ObjectId.{object_id, suffix_of, id_text}
use Rattle.cv_base.specs.declared.id.Kind.{Kind}
use Rattle.cv_base.specs.declared.id.Kind.TheVariants.{Plain, Catalogue, History}
use Rattle.cv_base.specs.declared.id.ObjectId.{ObjectId}
use Rattle.cv_messages.specs.Spelling.{digest_of}
use Rattle.cv_messages.proofs.Laws.{digest_of-encode_lower, digest_of-Some}
use Rattle.cv_answers.specs.Refusal.{kind_of, id_of}
use Rattle.cv_answers.proofs.Found.{found}

kind_of-suffix_of : (kind : Kind) → kind_of (suffix_of kind) ≡ Some kind
kind_of-suffix_of Plain = refl
kind_of-suffix_of Catalogue = refl
kind_of-suffix_of History = refl

kind_of-Some : (suffix : List ℕ) (kind : Kind) → kind_of suffix ≡ Some kind → suffix ≡ suffix_of kind
kind_of-Some suffix kind h =
    let same = found (λ k. bytes_eq (suffix_of k) suffix) (λ k. true) (Plain ∷ Catalogue ∷ History ∷ []) kind refl h in
    sym ((bytes_eq-Decides (suffix_of kind) suffix).0 same.0)

-- what was written of an id says it
pub id_of-id_text : (id : ObjectId) → IsDigest id.hash → id_of (id_text id) ≡ Some id
id_of-id_text id is =
    let bytes = is.size in
    let size : length (encode_lower id.hash) ≡ 40 = omega (arith, length-encode_with lower_digits id.hash, bytes) in
    let front : take 40 (id_text id) ≡ encode_lower id.hash = take_at (encode_lower id.hash) (suffix_of id.kind) 40 size in
    let back : drop 40 (id_text id) ≡ suffix_of id.kind = drop_at (encode_lower id.hash) (suffix_of id.kind) 40 size in
    rw (front, back, digest_of-encode_lower id.hash is, kind_of-suffix_of id.kind) refl

-- and a text says no id but that
id_of-Some : (text : List ℕ) (id : ObjectId) → id_of text ≡ Some id → IsDigest id.hash × (text ≡ id_text id)
id_of-Some text id h = by (digest_of (take 40 text)) (kind_of (drop 40 text)) refl refl h
  where
    by : (hash : Option (List ℕ)) (kind : Option Kind) → digest_of (take 40 text) ≡ hash → kind_of (drop 40 text) ≡ kind
        → option_and_then (λ bytes. option_map (object_id bytes) kind) hash ≡ Some id → IsDigest id.hash × (text ≡ id_text id)
    by None kind digits suffix h = cc
    by (Some hash) None digits suffix h = cc
    by (Some hash) (Some kind) digits suffix h =
        let same : object_id hash kind ≡ id = cc in
        let front = digest_of-Some (take 40 text) hash digits in
        let back = kind_of-Some (drop 40 text) kind suffix in
        let P : ObjectId → Type 0 = λ i. IsDigest i.hash × (text ≡ id_text i) in
        subst P same (front.0, sym (take-append-drop 40 text) ∙ ap (λ x. x ++ drop 40 text) front.1 ∙ ap (λ x. encode_lower hash ++ x) back)

-- a text that is no id's says none
pub id_of-None : (text : List ℕ) → ((id : ObjectId) → IsDigest id.hash → text ≡ id_text id → ⊥) → id_of text ≡ None
id_of-None text never = by (id_of text) refl
  where
    by : (said : Option ObjectId) → id_of text ≡ said → id_of text ≡ None
    by None e = e
    by (Some id) e = let known = id_of-Some text id e in absurd (never id known.0 known.1)
