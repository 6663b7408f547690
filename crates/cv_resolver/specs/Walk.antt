-- A walk through a tree: which places it visits, and where it ends.
use Rattle.std.specs.Prelude.{ℕ, zero, suc, Bool, true, false, not, ◌&&◌, ◌||◌, bytes_eq, List, [], ◌∷◌, ◌++◌, codes, Option, Some, None, if◌then◌else◌}
use Rattle.std.specs.FinMap.{get}
use Rattle.cv_base.specs.Path.{Path, parent}
use Rattle.cv_base.specs.PathText.{parts_of}
use Rattle.cv_tree.specs.Tree.{Nodes, is_directory}
use Rattle.cv_tree.specs.declared.node.Node.{Node}
use Rattle.cv_tree.specs.declared.node.Node.TheVariants.{Dir, File, Link}

-- what stands between two slashes of a text
abbrev pub Name : Type 0
Name = List ℕ

-- ---- where a walk ends

pub data End : Type 0 where
  Arrives : Path → End
  NotFound : End
  NotDirectory : End
  TooManyLinks : End

-- the places at which a walk stands, and its end
pub record Trail : Type 0 where
  pub visits : List Path
  pub end : End

-- a walk that ends, and where it stands then
abbrev pub ends : Path → End → Trail
ends p end = record { visits = p ∷ []; end = end }

abbrev pub arrives : Path → Trail
arrives p = ends p (Arrives p)

-- a walk that stands at p, and goes on so
abbrev pub from : Path → Trail → Trail
from p trail = record { visits = p ∷ trail.visits; end = trail.end }

-- ---- names

-- an empty name and `.` are passed over
abbrev pub is_idle : Name → Bool
is_idle name = bytes_eq name [] || bytes_eq name (codes ".")

abbrev pub is_up : Name → Bool
is_up name = bytes_eq name (codes "..")

abbrev pub is_last : List Name → Bool
is_last [] = true
is_last (name ∷ names) = false

-- ---- targets of links

-- the text of these parts begins with a slash
abbrev pub is_absolute : List Name → Bool
is_absolute ([] ∷ names) = true
is_absolute names = false

-- Where the target of a link leads from the link's directory, by the names between its slashes: a relative one on from
-- there; /cvmfs/, the repository's name and what follows, on from the root; another absolute one nowhere.
abbrev pub lead_of : (repository : List ℕ) → Path → List Name → Option (Path × List Name)
lead_of repository p ([] ∷ folder ∷ name ∷ names) = if bytes_eq folder (codes "cvmfs") && bytes_eq name repository then Some ([], names) else None
lead_of repository p ([] ∷ names) = None
lead_of repository p names = Some (p, names)

-- ---- walks

-- What the entry of a name means to a walk that stands in the directory p: nothing stands there; the walk goes on from
-- it; or it is a link, which is followed, or at which the walk ends.
abbrev pub entry_trail : Option Node → Path → Name → (goes : Trail) → (follows : List ℕ → Trail) → (stays : Bool) → Trail
entry_trail None p name goes follows stays = ends p NotFound
entry_trail (Some (Dir attr)) p name goes follows stays = from p goes
entry_trail (Some (File attr file)) p name goes follows stays = from p goes
entry_trail (Some (Link attr target)) p name goes follows stays = if stays then from p (arrives (p ++ name ∷ [])) else from p (follows target)

module _ (repository : List ℕ) (t : Nodes) (stays_at_last : Bool) where
  -- the walk from a place by names, where links are followed so
  unfoldable pub walk_by : (follow : Path → List ℕ → List Name → Trail) → List Name → Path → Trail
  walk_by follow [] p = arrives p
  walk_by follow (name ∷ names) p =
      if is_idle name then walk_by follow names p
      else if not (is_directory (get t p)) then ends p NotDirectory
      else if is_up name then from p (walk_by follow names (parent p))
      else entry_trail (get t (p ++ name ∷ [])) p name (walk_by follow names (p ++ name ∷ [])) (λ target. follow p target names) (is_last names && stays_at_last)

  -- the walk that goes on where a link leads
  abbrev pub trail_along : (List Name → Path → Trail) → Path → List Name → Option (Path × List Name) → Trail
  trail_along walk p names None = ends p NotFound
  trail_along walk p names (Some start) = walk (start.1 ++ names) start.0

  -- the walk from a place by names, on which at most so many links are followed
  unfoldable pub walk : (links : ℕ) → List Name → Path → Trail
  walk zero = walk_by (λ p target names. ends p TooManyLinks)
  walk (suc links) = walk_by (λ p target names. trail_along (walk links) p names (lead_of repository p (parts_of target)))
