-- The cuts that cover a path.
use Rattle.std.specs.Prelude.{◌≡◌, ◌≢◌, true, false, List, [], ◌∷◌, ◌++◌, map}
use Rattle.std.specs.List.{filter}
use Rattle.cv_base.specs.Path.{Path}
use Rattle.cv_tree.specs.Tree.{Nodes, at}
use Rattle.cv_cut.specs.Cuts.{is_cut, is_marked, is_near}

-- the paths that cover a path, from the root on
abbrev pub beginnings : Path → List Path
beginnings [] = [] ∷ []
beginnings (a ∷ p) = [] ∷ map (λ q. a ∷ q) (beginnings p)

-- the cuts among them
abbrev pub cuts_over : Nodes → Path → List Path
cuts_over t p = filter (is_cut t) (beginnings p)

-- p stands in the region of the cut, or is the cut, and no other cut covers what stands below p
pub record IsNearest (t : Nodes) (c p : Path) : Type 0 where
  pub cut : is_cut t c ≡ true
  pub rest : Path
  pub is : p ≡ c ++ rest
  pub near : is_near (at t c) rest ≡ true
  pub free : rest ≢ [] → is_marked (at t c) rest ≡ false
