-- What a shelf in memory holds.
use Rattle.std.specs.Prelude.{ℕ, List}
use Rattle.std.specs.BTreeMap.{is_at}
use Rattle.std.specs.Map.{lookup}
use Rattle.cv_base.specs.BytesOrder.{bytes_cmp}
use Rattle.cv_base.specs.declared.id.Kind.{Kind}
use Rattle.cv_base.specs.declared.id.Kind.TheVariants.{Plain, Catalogue, History}
use Rattle.cv_ports.specs.Calls.{Calls}
use Rattle.cv_ports.specs.Shelf.{Shelf}

-- the bytes under each hash, for each kind of object in ascending order of the hashes; its calls, and how many objects were fetched
pub record ShelfView : Type 0 where
  pub plain : List (List ℕ × List ℕ)
  pub catalogues : List (List ℕ × List ℕ)
  pub history : List (List ℕ × List ℕ)
  pub calls : Calls
  pub taken : ℕ

-- the objects of a kind
abbrev pub of_kind : ShelfView → Kind → List (List ℕ × List ℕ)
of_kind s Plain = s.plain
of_kind s Catalogue = s.catalogues
of_kind s History = s.history

-- what stands under each id
abbrev pub standing : ShelfView → Shelf
standing s id = lookup (is_at (bytes_cmp id.hash)) (of_kind s id.kind)
