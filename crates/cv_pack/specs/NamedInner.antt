-- The ids of entries, as sets of hashes.
use Rattle.std.specs.Prelude.{◌≡◌, ℕ, List}
use Rattle.std.specs.BTreeSet.{BTreeSet, contains}
use Rattle.cv_base.specs.BytesOrder.{bytes_cmp}
use Rattle.cv_base.specs.ObjectId.{object_id}
use Rattle.cv_base.specs.declared.id.Kind.{Kind}
use Rattle.cv_base.specs.declared.id.Kind.TheVariants.{Plain, Catalogue}
use Rattle.cv_pack.specs.declared.entry.Entry.{Entry}
use Rattle.cv_pack.specs.Reading.{is_named}

-- the set has the hashes of the entries of this kind
abbrev pub HasHashes : Kind → List Entry → BTreeSet (List ℕ) → Type 0
HasHashes kind es hashes = (hash : List ℕ) → contains bytes_cmp hashes hash ≡ is_named es (object_id hash kind)

-- each set has the hashes of the entries of its kind
pub record AreHashes (es : List Entry) (plain catalogues : BTreeSet (List ℕ)) : Type 0 where
  pub of_plain : HasHashes Plain es plain
  pub of_catalogues : HasHashes Catalogue es catalogues
