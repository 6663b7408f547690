-- Ids of digests have file names of their own.
use Rattle.std.proofs.Common.{◌≡◌, ℕ, List, ◌++◌, take, drop, codes, refl, sym, ap, ◌∙◌, arith, append_assoc}
use Rattle.std.specs.Prelude.{Ok, true, false, ◌==◌}
use Rattle.std.specs.List.{list_any}
use Rattle.std.proofs.lemmas.List.{take-append-drop, length-drop, length-take-le}
use Rattle.hex.specs.Hex.{encode_lower, decode_of}
use Rattle.hex.proofs.HexLemmas.{decode_of-encode_lower}
use Rattle.cv_base.specs.Digest.{IsDigest}
use Rattle.cv_base.specs.ObjectId.{object_id, id_text, suffix_of, file_name}
use Rattle.cv_base.specs.declared.id.Kind.{Kind}
use Rattle.cv_base.specs.declared.id.Kind.TheVariants.{Plain, Catalogue, History}
use Rattle.cv_base.specs.declared.id.ObjectId.{ObjectId}
use Rattle.cv_base.proofs.Parts.{same_parts}
use Rattle.cv_base.proofs.IdTexts.{length-digits, text_parts}

abbrev first_of : ObjectId → List ℕ
first_of id = take 2 (encode_lower id.hash)

abbrev others_of : ObjectId → List ℕ
others_of id = drop 2 (encode_lower id.hash)

-- the file's name, its parts to the right
to_right : (a b c d e : List ℕ) → a ++ b ++ c ++ d ++ e ≡ a ++ (b ++ (c ++ (d ++ e)))
to_right a b c d e = append_assoc (a ++ b ++ c) d e ∙ append_assoc (a ++ b) c (d ++ e) ∙ append_assoc a b (c ++ (d ++ e))

pub same_suffix : (a b : Kind) → suffix_of a ≡ suffix_of b → a ≡ b
same_suffix Plain Plain e = refl
same_suffix Plain Catalogue e = absurd cc
same_suffix Plain History e = absurd cc
same_suffix Catalogue Plain e = absurd cc
same_suffix Catalogue Catalogue e = refl
same_suffix Catalogue History e = (let told : true ≡ false = ap (list_any (λ c. c == 67)) e in absurd cc)
same_suffix History Plain e = absurd cc
same_suffix History Catalogue e = (let told : false ≡ true = ap (list_any (λ c. c == 67)) e in absurd cc)
same_suffix History History e = refl

pub same_digits : (a b : List ℕ) → IsDigest a → IsDigest b → encode_lower a ≡ encode_lower b → a ≡ b
same_digits a b da db e =
    let both : ◌≡◌ (Ok a) (Ok b) = sym (decode_of-encode_lower a da.bytes) ∙ ap decode_of e ∙ decode_of-encode_lower b db.bytes in
    cc

-- the same digits and the same suffix
pub same_id : (a b : ObjectId) → IsDigest a.hash → IsDigest b.hash → encode_lower a.hash ≡ encode_lower b.hash → suffix_of a.kind ≡ suffix_of b.kind → a ≡ b
same_id a b da db digits suffix =
    let hash : a.hash ≡ b.hash = same_digits a.hash b.hash da db digits in
    let kind : a.kind ≡ b.kind = same_suffix a.kind b.kind suffix in
    λ i. object_id (hash i) (kind i)

-- an id's text tells the id
pub one_id_text : (a b : ObjectId) → IsDigest a.hash → IsDigest b.hash → id_text a ≡ id_text b → a ≡ b
one_id_text a b da db e =
    let one = text_parts (id_text a) a da refl in
    let two = text_parts (id_text a) b db e in
    same_id a b da db (sym one.1 ∙ two.1) (sym one.2 ∙ two.2)

pub one_file_name : (a b : ObjectId) → IsDigest a.hash → IsDigest b.hash → file_name a ≡ file_name b → a ≡ b
one_file_name a b da db e =
    let la = length-digits a.hash da in
    let lb = length-digits b.hash db in
    let right : codes "data/" ++ (first_of a ++ (codes "/" ++ (others_of a ++ suffix_of a.kind))) ≡ codes "data/" ++ (first_of b ++ (codes "/" ++ (others_of b ++ suffix_of b.kind))) =
    sym (to_right (codes "data/") (first_of a) (codes "/") (others_of a) (suffix_of a.kind)) ∙ e ∙ to_right (codes "data/") (first_of b) (codes "/") (others_of b) (suffix_of b.kind) in
    let folder = same_parts 5 (codes "data/") (codes "data/") _ _ refl refl right in
    let first = same_parts 2 (first_of a) (first_of b) _ _ (length-take-le 2 (encode_lower a.hash) (omega (arith, la))) (length-take-le 2 (encode_lower b.hash) (omega (arith, lb))) folder.1 in
    let slash = same_parts 1 (codes "/") (codes "/") _ _ refl refl first.1 in
    let da-size = length-drop 2 (encode_lower a.hash) in
    let db-size = length-drop 2 (encode_lower b.hash) in
    let others = same_parts 38 (others_of a) (others_of b) (suffix_of a.kind) (suffix_of b.kind) (omega (arith, la, da-size)) (omega (arith, lb, db-size)) slash.1 in
    let digits : encode_lower a.hash ≡ encode_lower b.hash =
    sym (take-append-drop 2 (encode_lower a.hash)) ∙ (λ i. first.0 i ++ others.0 i) ∙ take-append-drop 2 (encode_lower b.hash) in
    same_id a b da db digits others.1
