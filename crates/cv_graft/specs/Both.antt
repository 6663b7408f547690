-- What a graft answers by the catalogues on the way to a path in both trees, whether or not the roots mean trees.
use Rattle.std.specs.Prelude.{◌≡◌, ℕ, List, [], length, Result, Ok, Err, IsSomeAnd}
use Rattle.sha1.specs.Sha1.{sha1}
use Rattle.cv_base.specs.Path.{Path}
use Rattle.cv_base.specs.ObjectId.{object_id}
use Rattle.cv_base.specs.declared.id.ObjectId.{ObjectId}
use Rattle.cv_base.specs.declared.id.Kind.TheVariants.{Catalogue}
use Rattle.cv_ports.specs.Shelf.{Shelf}
use Rattle.cv_rows.specs.Catalogue.{Contents, catalogue_bytes}
use Rattle.cv_cut.specs.Reached.{HasCatalogue, root_place}
use Rattle.cv_graft.specs.Directories.{IsHolder}
use Rattle.cv_graft.specs.Joins.{IsJoined, CollidesAt, IsFullAt}
use Rattle.cv_graft.specs.Makes.{Makes}
use Rattle.cv_graft.specs.declared.grafted.Grafted.{Grafted}
use Rattle.cv_graft.specs.declared.graft_fault.GraftFault.{GraftFault}
use Rattle.cv_graft.specs.declared.graft_fault.GraftFault.TheVariants as fault

-- The root's catalogue is there, and so is the one that holds the path in the offered tree; this comes of them.
pub record IsGrafted (shelf : Shelf) (newest offered : List ℕ) (p : Path) (g : Grafted) : Type 0 where
  pub top : Contents
  pub there : HasCatalogue shelf newest root_place top
  pub other : Contents
  pub held : IsHolder shelf offered p other
  pub made : Contents
  pub makes : Makes shelf (λ c k. IsJoined c other p k) p top made g.added
  pub root : g.root ≡ object_id (sha1 (catalogue_bytes made)) Catalogue
  pub size : g.size ≡ length (catalogue_bytes made)

-- both ways were gone whole: these directly hold the path in the newest tree and in the offered one
pub record HasBoth (shelf : Shelf) (newest offered : List ℕ) (p : Path) (c o : Contents) : Type 0 where
  pub holds : IsHolder shelf newest p c
  pub held : IsHolder shelf offered p o

-- what is answered below the root; what isn't by the catalogues on both ways is a fault of the shelf, damage or want of memory
abbrev pub GraftsBoth : Shelf → List ℕ → List ℕ → Path → Result Grafted GraftFault → Type 0
GraftsBoth shelf newest offered p (Ok g) = IsGrafted shelf newest offered p g
GraftsBoth shelf newest offered p (Err (fault.PathCollision a b)) = (c : Contents) × (o : Contents) × HasBoth shelf newest offered p c o × CollidesAt c o p a b
GraftsBoth shelf newest offered p (Err (fault.CatalogueFull d)) = (c : Contents) × (o : Contents) × HasBoth shelf newest offered p c o × IsFullAt c o p d
GraftsBoth shelf newest offered p (Err fault.Failed) = Unit {0}
GraftsBoth shelf newest offered p (Err (fault.Damaged id found)) = Unit {0}
GraftsBoth shelf newest offered p (Err fault.NoMemory) = Unit {0}

-- what is answered at the root: the offered root as it is, with the length of what stands there
abbrev pub GivesOffered : Shelf → ObjectId → Result Grafted GraftFault → Type 0
GivesOffered shelf offered (Ok g) = IsSomeAnd (shelf offered) (λ bytes. g ≡ record { root = offered; size = length bytes; added = [] })
GivesOffered shelf offered (Err (fault.PathCollision a b)) = ⊥
GivesOffered shelf offered (Err (fault.CatalogueFull c)) = ⊥
GivesOffered shelf offered (Err fault.Failed) = Unit {0}
GivesOffered shelf offered (Err (fault.Damaged id found)) = ⊥
GivesOffered shelf offered (Err fault.NoMemory) = Unit {0}

-- nothing is made, and no paths are named
abbrev pub MakesNothing : Result Grafted GraftFault → Type 0
MakesNothing (Ok g) = ⊥
MakesNothing (Err (fault.PathCollision a b)) = ⊥
MakesNothing (Err (fault.CatalogueFull c)) = ⊥
MakesNothing (Err fault.Failed) = Unit {0}
MakesNothing (Err (fault.Damaged id found)) = Unit {0}
MakesNothing (Err fault.NoMemory) = Unit {0}
