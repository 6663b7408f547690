-- What a tree is cut into.
use Rattle.std.specs.Prelude.{ℕ, List, [], ◌++◌, Bool, map, reverse, length, unwrap_or}
use Rattle.sha1.specs.Sha1.{sha1}
use Rattle.cv_base.specs.Path.{Path, behind, key_of}
use Rattle.cv_base.specs.ObjectId.{object_id}
use Rattle.cv_base.specs.declared.object.Object.{Object}
use Rattle.cv_base.specs.declared.id.Kind.TheVariants.{Catalogue}
use Rattle.cv_tree.specs.Tree.{Nodes, at}
use Rattle.cv_tree.specs.declared.node.Node.{Node}
use Rattle.cv_rows.specs.declared.row.Row.{Row}
use Rattle.cv_rows.specs.declared.nested.Nested.{Nested}
use Rattle.cv_cut.specs.Cuts.{cuts_of, is_inner, region}
use Rattle.cv_cut.specs.Catalogues.{kind_of, row_of, entry_of, cat, root_of}
use Rattle.cv_cut.specs.declared.tree_cut.Cut.{Cut}

-- the region of a cut, with its paths from the root of the repository on
abbrev pub region_at : Nodes → Path → List (Path × Node)
region_at t c = map (λ e. (c ++ e.0, e.1)) (region (at t c))

-- the catalogue of the cut at a path, under its id
abbrev pub catalogue_object : Nodes → Path → Object
catalogue_object t c = record { id = object_id (sha1 (cat t c)) Catalogue; bytes = cat t c }

-- the catalogues of all cuts, those nested in another before it
abbrev pub cut_of : Nodes → Cut
cut_of t = record {
  root = object_id (root_of t) Catalogue;
  size = length (cat t []);
  catalogues = map (catalogue_object t) (reverse (cuts_of t));
}

-- ---- rows and nested entries

-- what is left of a path behind a cut
abbrev pub rest_of : Path → Path → Path
rest_of c p = unwrap_or (behind c p) []

-- the row of an entry in the catalogue of the cut at c
abbrev pub row_in : Nodes → Path → Path × Node → Row
row_in t c e = row_of (kind_of c (at t c) (rest_of c e.0) e.1) e.0 e.1

-- whether a path that the cut at c covers is another cut
abbrev pub is_other : Nodes → Path → Path → Bool
is_other t c p = is_inner (at t c) (rest_of c p)

-- the nested entry of a cut
abbrev pub nested_in : Nodes → Path → Nested
nested_in t d = entry_of d (cat t d)

-- the keys of the paths
abbrev pub keys_at : List (Path × Node) → List (List ℕ)
keys_at region = map (λ e. key_of e.0) region
