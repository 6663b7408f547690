-- How far a checkout has come.
use Rattle.std.specs.Prelude.{◌≡◌, ℕ, true, List, [], ◌∷◌, Option, Some, None, IsSome}
use Rattle.std.specs.FinMap.{get}
use Rattle.cv_base.specs.Path.{Path, overlap}
use Rattle.cv_base.specs.declared.object.Object.{Object}
use Rattle.cv_tree.specs.Tree.{Nodes}
use Rattle.cv_rows.specs.Catalogue.{Contents}
use Rattle.cv_rows.specs.Places.{StandsAt}
use Rattle.cv_rows.specs.declared.row.Row.{Row}
use Rattle.cv_load.specs.Growth.{GrowsBy, IsRootOf}
use Rattle.cv_checkout.specs.Wanting.{root_wanted}
use Rattle.cv_checkout.specs.declared.wanted.Wanted.{Wanted}

-- what is seen of a checkout: the path; the catalogues that are wanted, the next one first; those that were given; and, once
-- the root's was, the nodes that these have on the way to the path and at and below it
pub record Progress : Type 0 where
  pub path : Path
  pub wanted : List Wanted
  pub objects : List Object
  pub tree : Option Nodes

-- where it begins
abbrev pub begun : List ℕ → Path → Progress
begun root p = record { path = p; wanted = root_wanted root ∷ []; objects = []; tree = None }

-- the nodes to which those of a catalogue come: at first the root's row alone
abbrev pub StartsFrom : Contents → Option Nodes → Nodes → Type 0
StartsFrom c None u = IsRootOf c u
StartsFrom c (Some t) u = u ≡ t

-- nodes of its rows came, those on the way to the path and at and below it among them; none was lost or changed
pub record ComesTo (p : Path) (c : Contents) (old new : Option Nodes) : Type 0 where
  pub before : Nodes
  pub starts : StartsFrom c old before
  pub after : Nodes
  pub is : new ≡ Some after
  pub grows : GrowsBy c.at c.rows before after
  pub there : (r : Row) (q : Path) → StandsAt c.at c.rows r q → overlap p q ≡ true → IsSome (get after q)
