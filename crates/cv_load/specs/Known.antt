-- Known pairs of a catalogue's hash and a path.
use Rattle.std.specs.Prelude.{◌≡◌, ℕ, Bool, true, false, if◌then◌else◌, List, Option, None, Some}
use Rattle.std.specs.List.{All, Contains}
use Rattle.std.specs.Ordering.{eq_by_cmp}
use Rattle.std.specs.BTreeSet.{BTreeSet}
use Rattle.std.specs.BTreeSet as set
use Rattle.std.specs.BTreeMap as tree
use Rattle.cv_base.specs.BytesOrder.{bytes_cmp}
use Rattle.cv_base.specs.Path.{Path, path_cmp}
use Rattle.cv_base.specs.declared.id.ObjectId.{ObjectId}
use Rattle.cv_base.specs.declared.id.Kind.TheVariants.{Catalogue}
use Rattle.cv_ports.specs.Shelf.{Shelf}
use Rattle.cv_load.specs.declared.known_set.KnownSet.{KnownSet}
use Rattle.cv_cut.specs.Good.{IsWholeAt}

abbrev pub knows : Option (BTreeSet (List ℕ)) → List ℕ → Bool
knows None hash = false
knows (Some hashes) hash = set.contains bytes_cmp hashes hash

-- the pair is in the set
abbrev pub is_known : KnownSet → List ℕ → Path → Bool
is_known known hash path = knows (tree.get path_cmp known.paths path) hash

-- whether a pair is in a set to which another was added
abbrev pub with_pair : List ℕ → Path → List ℕ → Path → Bool → Bool
with_pair hash path h p was = if eq_by_cmp path_cmp path p then (if eq_by_cmp bytes_cmp hash h then true else was) else was

-- the hash of an id and its path are among the pairs
pub record HasPair (pairs : List (ObjectId × Path)) (hash : List ℕ) (path : Path) : Type 0 where
  pub pair : ObjectId × Path
  pub among : Contains pairs pair
  pub hash_ : pair.0.hash ≡ hash
  pub path_ : pair.1 ≡ path

-- each pair of the set is whole
abbrev pub AreKnown : Shelf → KnownSet → Type 0
AreKnown shelf known = (hash : List ℕ) (path : Path) → is_known known hash path ≡ true → IsWholeAt shelf hash path

-- a catalogue's id and its path, which are whole
pub record IsWholePair (shelf : Shelf) (pair : ObjectId × Path) : Type 0 where
  pub kind : pair.0.kind ≡ Catalogue
  pub whole : IsWholeAt shelf pair.0.hash pair.1

abbrev pub AreWhole : Shelf → List (ObjectId × Path) → Type 0
AreWhole shelf pairs = All (IsWholePair shelf) pairs
