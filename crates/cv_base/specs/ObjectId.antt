-- The ids of objects, their texts and their files.
use Rattle.std.specs.Prelude.{◌++◌, ℕ, Bool, true, false, ◌&&◌, List, [], codes, take, drop}
use Rattle.std.specs.Str.{bytes_eq}
use Rattle.hex.specs.Hex.{encode_lower}
use Rattle.cv_base.specs.declared.id.Kind.{Kind}
use Rattle.cv_base.specs.declared.id.Kind.TheVariants.{Plain, Catalogue, History}
use Rattle.cv_base.specs.declared.id.ObjectId.{ObjectId}

abbrev pub object_id : List ℕ → Kind → ObjectId
object_id hash kind = record { hash = hash; kind = kind }

-- what follows the digits of the hash
abbrev pub suffix_of : Kind → List ℕ
suffix_of Plain = []
suffix_of Catalogue = codes "C"
suffix_of History = codes "H"

-- the text of an id: forty digits and the suffix
abbrev pub id_text : ObjectId → List ℕ
id_text id = encode_lower id.hash ++ suffix_of id.kind

-- its file: data/, two digits of the hash, /, the other digits and the suffix
abbrev pub file_name : ObjectId → List ℕ
file_name id =
    codes "data/" ++ take 2 (encode_lower id.hash) ++ codes "/" ++ drop 2 (encode_lower id.hash) ++ suffix_of id.kind

abbrev pub same_kind : Kind → Kind → Bool
same_kind Plain Plain = true
same_kind Catalogue Catalogue = true
same_kind History History = true
same_kind a b = false

abbrev pub same_id : ObjectId → ObjectId → Bool
same_id a b = bytes_eq a.hash b.hash && same_kind a.kind b.kind
