-- The names by which a folder of changes removes entries, and those that are bad.
use Rattle.std.specs.Prelude.{◌≡◌, ◌≢◌, ◌==◌, ℕ, Bool, true, not, ◌||◌, ◌&&◌, List, [], ◌∷◌, ◌++◌, Option, is_some, drop, codes, bytes_eq}
use Rattle.std.specs.declared.cmp.Ordering.TheVariants.{Greater}
use Rattle.std.specs.List.{starts_with}
use Rattle.std.specs.FinMap.{get}
use Rattle.cv_base.specs.Path.{Path, parent, last_name_of, text_of, is_dots}
use Rattle.cv_base.specs.BytesOrder.{bytes_cmp}
use Rattle.cv_tree.specs.declared.node.Node.{Node}
use Rattle.cv_tree.specs.Tree.{Nodes, is_file}

-- what the names of whiteouts begin with
abbrev pub whiteout : List ℕ
whiteout = codes ".wh."

-- the name of the file that makes its directory opaque
abbrev pub opaque : List ℕ
opaque = codes ".wh..wh..opq"

abbrev pub is_whiteout : List ℕ → Bool
is_whiteout name = starts_with (λ a b. a == b) name whiteout

-- the name that a whiteout removes
abbrev pub removed : List ℕ → List ℕ
removed name = drop 4 name

-- no entry has this name
abbrev pub is_no_name : List ℕ → Bool
is_no_name [] = true
is_no_name (a ∷ name) = is_dots (a ∷ name)

-- a whiteout that is no regular file, or that removes no name, or one that stands beside it
abbrev pub is_bad : Nodes → Path → List ℕ → Option Node → Bool
is_bad c p name node = is_whiteout name && (not (is_file node)
    || (not (bytes_eq name opaque) && (is_no_name (removed name) || is_some (get c (p ++ removed name ∷ [])))))

-- a bad whiteout stands at the path
abbrev pub is_bad_at : Nodes → Path → Bool
is_bad_at c q = is_some (get c q) && is_bad c (parent q) (last_name_of q) (get c q)

-- the least of the bad whiteouts, by the bytes of their paths' texts
pub record IsLeastBad (c : Nodes) (q : Path) : Type 0 where
  pub bad : is_bad_at c q ≡ true
  pub least : (r : Path) → is_bad_at c r ≡ true → bytes_cmp (text_of q) (text_of r) ≢ Greater
