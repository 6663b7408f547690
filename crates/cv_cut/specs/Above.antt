-- The paths above a path, the cuts among them, and their catalogues.
use Rattle.std.specs.Prelude.{◌≡◌, ◌≢◌, true, List, [], ◌∷◌, ◌++◌, filter, map, reverse}
use Rattle.cv_base.specs.Path.{Path}
use Rattle.cv_tree.specs.Tree.{Nodes, at, put}
use Rattle.cv_cut.specs.Cuts.{is_cut, is_near, between}
use Rattle.cv_base.specs.declared.object.Object.{Object}
use Rattle.cv_cut.specs.Cut.{catalogue_object}

-- the paths properly above a path, from the root on
abbrev pub above : Path → List Path
above [] = []
above (a ∷ p) = [] ∷ between (a ∷ p)

-- the cuts among them
abbrev pub cuts_above : Nodes → Path → List Path
cuts_above t p = filter (is_cut t) (above p)

-- the cut at c is above the path p, which is r behind it
pub record OnWay (t : Nodes) (p c r : Path) : Type 0 where
  pub is : p ≡ c ++ r
  pub some : r ≢ []
  pub cut : is_cut t c ≡ true

-- and no other cut stands between
pub record Holds (t : Nodes) (p c r : Path) : Type 0 where
  pub is : p ≡ c ++ r
  pub some : r ≢ []
  pub cut : is_cut t c ≡ true
  pub near : is_near (at t c) r ≡ true

-- the subtree at p of the one tree replaced by that of the other
abbrev pub replaced : Nodes → Nodes → Path → Nodes
replaced t n p = put t p (at n p)

-- the catalogues of the cuts from c on, above the path that is r behind it, those nested in another before it
abbrev pub made_from : Nodes → Path → Path → List Object
made_from t c r = map (catalogue_object t) (reverse (map (λ q. c ++ q) (cuts_above (at t c) r)))
