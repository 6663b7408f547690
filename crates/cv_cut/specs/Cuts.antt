-- The cuts of a tree, and the regions between them.
use Rattle.std.specs.Prelude.{Bool, true, false, not, ◌&&◌, List, [], ◌∷◌, ◌++◌, map}
use Rattle.std.specs.List.{filter, list_all}
use Rattle.std.specs.FinMap.{get, entries, keys}
use Rattle.cv_base.specs.Path.{Path}
use Rattle.cv_base.specs.Marker.{marker}
use Rattle.cv_tree.specs.Tree.{Nodes, is_directory, is_file}
use Rattle.cv_tree.specs.declared.node.Node.{Node}

-- a directory that holds a regular file of the marker's name
abbrev pub is_marked : Nodes → Path → Bool
is_marked t p = is_directory (get t p) && is_file (get t (p ++ marker ∷ []))

-- a cut is the root, or a marked directory
abbrev pub is_cut : Nodes → Path → Bool
is_cut t [] = true
is_cut t (name ∷ names) = is_marked t (name ∷ names)

-- the cuts of a tree, in the order of their paths
abbrev pub cuts_of : Nodes → List Path
cuts_of t = filter (is_cut t) (keys t)

-- the paths properly between the root and a path, from above
abbrev pub between : Path → List Path
between [] = []
between (a ∷ []) = []
between (a ∷ b ∷ path) = (a ∷ []) ∷ map (λ q. a ∷ q) (between (b ∷ path))

-- In what follows u is what stands at a cut, and its paths begin there.

-- no marked directory is properly between the cut and the path
abbrev pub is_near : Nodes → Path → Bool
is_near u q = list_all (λ r. not (is_marked u r)) (between q)

-- the region of the cut: the paths of u that are so, with their nodes
abbrev pub region : Nodes → List (Path × Node)
region u = filter (λ e. is_near u e.0) (entries u)

-- another cut: a marked directory below the cut
abbrev pub is_inner : Nodes → Path → Bool
is_inner u [] = false
is_inner u (name ∷ names) = is_marked u (name ∷ names)

-- the other cuts of the region
abbrev pub inner : Nodes → List Path
inner u = filter (is_inner u) (map (λ e. e.0) (region u))
