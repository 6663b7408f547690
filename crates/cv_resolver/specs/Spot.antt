-- Where a walk may stand.
use Rattle.std.specs.Prelude.{◌≡◌, Bool, true, List, [], ◌∷◌, ◌++◌, map, IsSome, Contains}
use Rattle.std.specs.FinMap.{get}
use Rattle.sha1.specs.Sha1.{sha1}
use Rattle.cv_base.specs.Path.{Path}
use Rattle.cv_tree.specs.Tree.{Nodes, is_directory}
use Rattle.cv_rows.specs.Catalogue.{Contents}
use Rattle.cv_cut.specs.Cuts.{is_cut}
use Rattle.cv_cut.specs.Catalogues.{cat, contents_of}
use Rattle.cv_cut.specs.Over.{cuts_over}
use Rattle.cv_cut.specs.Reached.{Place, Decodes}
use Rattle.cv_resolver.specs.declared.spot.Level.{Level}
use Rattle.cv_resolver.specs.declared.spot.Spot.{Spot}

-- the place of the catalogue of a level
abbrev pub place_of : Level → Place
place_of l = record { path = l.path; row = l.row }

-- the level is that of a cut, of whose catalogue it knows the hash and the place
pub record IsLevel (t : Nodes) (l : Level) : Type 0 where
  pub cut : is_cut t l.path ≡ true
  pub hash : l.hash ≡ sha1 (cat t l.path)
  pub decodes : Decodes (place_of l) (cat t l.path) (contents_of t l.path)

-- a walk may stand there: something does, and the levels are those of the cuts that cover it, from the root on
pub record StandsIn (t : Nodes) (p : Path) (directory : Bool) (levels : List Level) : Type 0 where
  pub there : IsSome (get t p)
  pub is_dir : directory ≡ is_directory (get t p)
  pub paths : map (λ l. l.path) levels ≡ cuts_over t p
  pub each : (l : Level) → Contains levels l → IsLevel t l

-- the levels of a spot, from the root on
abbrev pub levels_of : Spot → List Level
levels_of s = s.outer.items ++ s.level ∷ []

-- a walk may stand at the spot
abbrev pub IsSpot : Nodes → Spot → Type 0
IsSpot t s = StandsIn t s.at s.is_directory (levels_of s)

-- the catalogue is that of the nearest cut
abbrev pub IsOwn : Nodes → Spot → Contents → Type 0
IsOwn t s c = c ≡ contents_of t s.level.path
