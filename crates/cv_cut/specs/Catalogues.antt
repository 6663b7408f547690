-- The canonical catalogue of a cut, and the root of a tree.
use Rattle.std.specs.Prelude.{◌≡◌, ◌≢◌, ◌<◌, ◌⊎◌, ◌+◌, ℕ, zero, suc, List, [], ◌∷◌, ◌++◌, map, length, Some, None, IsTrue, IsSome, if◌then◌else◌}
use Rattle.std.specs.FinMap.{get, from_entries, values}
use Rattle.sha1.specs.Sha1.{sha1}
use Rattle.cv_base.specs.BytesOrder.{bytes_cmp}
use Rattle.cv_base.specs.declared.limits.TheConstants.{OBJECT_LIMIT}
use Rattle.cv_base.specs.declared.repo_path.TheConstants.{NAMES_LIMIT}
use Rattle.cv_base.specs.Path.{Path, text_of, key_of, parent_key_of, last_name_of}
use Rattle.cv_tree.specs.Tree.{Nodes, at}
use Rattle.cv_tree.specs.declared.node.Node.{Node}
use Rattle.cv_tree.specs.declared.node.Node.TheVariants as node
use Rattle.cv_rows.specs.Catalogue.{Contents, catalogue_bytes}
use Rattle.cv_rows.specs.Places.{root_kind}
use Rattle.cv_rows.specs.declared.limits.TheConstants.{ROW_LIMIT}
use Rattle.cv_rows.specs.declared.row.Row.{Row}
use Rattle.cv_rows.specs.declared.nested.Nested.{Nested}
use Rattle.cv_rows.specs.declared.row_kind.RowKind.{RowKind}
use Rattle.cv_rows.specs.declared.row_kind.RowKind.TheVariants.{Directory, Transition, File, Link}
use Rattle.cv_cut.specs.Cuts.{is_cut, is_marked, is_near, region, inner}

-- ---- rows

-- the kind of the row of a path: that of a root row at the cut itself, and a Transition at another cut
abbrev pub kind_of : Path → Nodes → Path → Node → RowKind
kind_of c u [] n = root_kind c
kind_of c u (name ∷ names) (node.Dir attr) = if is_marked u (name ∷ names) then Transition else Directory
kind_of c u (name ∷ names) (node.File attr file) = File
kind_of c u (name ∷ names) (node.Link attr target) = Link

-- the row of this kind for a node at a path
abbrev pub row_of : RowKind → Path → Node → Row
row_of kind p (node.Dir attr) = record {
  key = record { 0 = key_of p };
  parent = record { 0 = parent_key_of p };
  kind = kind;
  attr = attr;
  size = 0;
  hash = None;
  name = last_name_of p;
  target = [];
}
row_of kind p (node.File attr file) = record {
  key = record { 0 = key_of p };
  parent = record { 0 = parent_key_of p };
  kind = kind;
  attr = attr;
  size = file.size;
  hash = Some file.hash;
  name = last_name_of p;
  target = [];
}
row_of kind p (node.Link attr target) = record {
  key = record { 0 = key_of p };
  parent = record { 0 = parent_key_of p };
  kind = kind;
  attr = attr;
  size = length target;
  hash = None;
  name = last_name_of p;
  target = target;
}

-- the rows of the cut at c, one for each path of its region, in the order of their keys
abbrev pub rows_of : Path → Nodes → List Row
rows_of c u = values (from_entries {R = bytes_cmp} (map (λ e. (key_of (c ++ e.0), row_of (kind_of c u e.0 e.1) (c ++ e.0) e.1)) (region u)))

-- ---- nested entries

abbrev pub entry_of : Path → List ℕ → Nested
entry_of p bytes = record { path = p; hash = sha1 bytes; size = length bytes }

-- the nested entries of the cut at c, one for each other cut of its region, in the order of their texts
abbrev pub nested_of : Path → Nodes → (Path → List ℕ) → List Nested
nested_of c u file = values (from_entries {R = bytes_cmp} (map (λ d. (text_of (c ++ d), entry_of (c ++ d) (file d))) (inner u)))

-- ---- catalogues

-- the row file of the cut at c, where those of the other cuts of its region are these
abbrev pub row_file : Path → Nodes → (Path → List ℕ) → List ℕ
row_file c u file = catalogue_bytes (record { at = c; rows = rows_of c u; nested = nested_of c u file })

-- the canonical catalogue of the cut at c, at which u stands; no path of u has as many names as the number says
unfoldable pub catalogue : ℕ → Path → Nodes → List ℕ
catalogue zero c u = []
catalogue (suc n) c u = row_file c u (λ d. catalogue n (c ++ d) (at u d))

-- the same where u is what stands at c in a tree, whose paths have at most NAMES_LIMIT names
abbrev pub catalogue_of : Path → Nodes → List ℕ
catalogue_of c u = catalogue (NAMES_LIMIT + 1) c u

-- the canonical catalogue of a cut of a tree
abbrev pub cat : Nodes → Path → List ℕ
cat t c = catalogue_of c (at t c)

-- and the same, decoded
abbrev pub contents_of : Nodes → Path → Contents
contents_of t c = record { at = c; rows = rows_of c (at t c); nested = nested_of c (at t c) (λ d. cat t (c ++ d)) }

-- the root of a tree: the SHA-1 of the catalogue at its root
abbrev pub root_of : Nodes → List ℕ
root_of t = sha1 (cat t [])

-- ---- limits

-- a path of the region of the cut at c
abbrev pub IsInRegion : Nodes → Path → Path → Type 0
IsInRegion t c p = (q : Path) × (p ≡ c ++ q) × IsSome (get (at t c) q) × IsTrue (is_near (at t c) q)

-- two paths of the region of one cut have one key
pub record SharesKey (t : Nodes) (p q : Path) : Type 0 where
  pub cut : Path
  pub is_cut_ : IsTrue (is_cut t cut)
  pub first : IsInRegion t cut p
  pub second : IsInRegion t cut q
  pub differ : p ≢ q
  pub keys : key_of p ≡ key_of q

-- a cut whose catalogue passes a limit: 50,000 rows, or 16 MiB
pub record IsFull (t : Nodes) (c : Path) : Type 0 where
  pub is_cut_ : IsTrue (is_cut t c)
  pub passes : (ROW_LIMIT < length (region (at t c))) ⊎ (OBJECT_LIMIT < length (cat t c))

-- the tree fits its catalogues
pub record Fits (t : Nodes) : Type 0 where
  pub apart : (p q : Path) → SharesKey t p q → ⊥
  pub limits : (c : Path) → IsFull t c → ⊥
