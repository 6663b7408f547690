-- Trees and their parts: finite maps from paths to nodes. What a path covers, and what takes its place.
use Rattle.std.specs.Prelude.{◌≡◌, Bool, true, false, not, List, [], ◌∷◌, ◌++◌, Option, Some, None, IsSome, IsTrue}
use Rattle.std.specs.List.{filter}
use Rattle.std.specs.FinMap.{FinMap, empty, insert, get, entries, from_entries}
use Rattle.cv_base.specs.Path.{Path, path_cmp, behind, covers, IsPath}
use Rattle.cv_tree.specs.declared.node.Node.{Node}
use Rattle.cv_tree.specs.declared.node.Node.TheVariants.{Dir, File, Link}
use Rattle.cv_tree.specs.Node.{IsNode}

abbrev pub Nodes : Type 0
Nodes = FinMap path_cmp Node

abbrev pub is_directory : Option Node → Bool
is_directory None = false
is_directory (Some (Dir attr)) = true
is_directory (Some (File attr file)) = false
is_directory (Some (Link attr target)) = false

abbrev pub is_file : Option Node → Bool
is_file None = false
is_file (Some (Dir attr)) = false
is_file (Some (File attr file)) = true
is_file (Some (Link attr target)) = false

-- what stands below another path stands in a directory
abbrev pub HasParents : Nodes → Type 0
HasParents t = (q : Path) (name : List _) → IsSome (get t (q ++ name ∷ [])) → IsTrue (is_directory (get t q))

-- a part: it has a root, every other path's parent is a directory, and each path and node keeps its limits
pub record IsPart (t : Nodes) : Type 0 where
  pub root : IsSome (get t [])
  pub parents : HasParents t
  pub paths : (q : Path) → IsSome (get t q) → IsPath q
  pub nodes : (q : Path) (node : Node) → get t q ≡ Some node → IsNode node

-- a tree: a part whose root is a directory
pub record IsTree (t : Nodes) : Type 0 where
  pub root : IsTrue (is_directory (get t []))
  pub part : IsPart t

-- the map of a single node, which is the root
abbrev pub single : Node → Nodes
single node = insert empty [] node

-- the entries that p covers, with p taken off their paths
abbrev pub cons_behind : {X : Type 0} → Option Path → X → List (Path × X) → List (Path × X)
cons_behind None x es = es
cons_behind (Some q) x es = (q, x) ∷ es

abbrev pub entries_behind : {X : Type 0} → Path → List (Path × X) → List (Path × X)
entries_behind p [] = []
entries_behind p (e ∷ es) = cons_behind (behind p e.0) e.1 (entries_behind p es)

-- the entries with p before their paths
abbrev pub entries_under : {X : Type 0} → Path → List (Path × X) → List (Path × X)
entries_under p [] = []
entries_under p (e ∷ es) = (p ++ e.0, e.1) ∷ entries_under p es

-- the entries that p doesn't cover
abbrev pub entries_outside : {X : Type 0} → Path → List (Path × X) → List (Path × X)
entries_outside p es = filter (λ e. not (covers p e.0)) es

-- what p covers in t, with p taken off
unfoldable pub at : {X : Type 0} → FinMap path_cmp X → Path → FinMap path_cmp X
at t p = from_entries (entries_behind p (entries t))

-- s below p
unfoldable pub under : {X : Type 0} → Path → FinMap path_cmp X → FinMap path_cmp X
under p s = from_entries (entries_under p (entries s))

-- what t has outside p, together with the entries of s
unfoldable pub outside_with : {X : Type 0} → FinMap path_cmp X → Path → FinMap path_cmp X → FinMap path_cmp X
outside_with t p s = from_entries (entries_outside p (entries t) ++ entries s)

-- t without what p covers, and s set there
abbrev pub put : {X : Type 0} → FinMap path_cmp X → Path → FinMap path_cmp X → FinMap path_cmp X
put t p s = outside_with t p (under p s)
