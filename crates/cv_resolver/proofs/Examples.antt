-- Where targets of links lead.
use Rattle.std.proofs.Common.{◌≡◌, [], ◌∷◌, codes, refl}
use Rattle.std.specs.declared.option.Option.TheVariants.{None, Some}
use Rattle.cv_base.specs.Path.{Path}
use Rattle.cv_base.specs.PathText.{parts_of}
use Rattle.cv_resolver.specs.Walk.{lead_of}

pub relative : (p : Path) → lead_of (codes "r") p (parts_of (codes "../d/./f")) ≡ Some (p, codes ".." ∷ codes "d" ∷ codes "." ∷ codes "f" ∷ [])
relative p = refl

pub own : (p : Path) → lead_of (codes "r") p (parts_of (codes "/cvmfs/r")) ≡ Some ([], [])
own p = refl

pub below_own : (p : Path) → lead_of (codes "r") p (parts_of (codes "/cvmfs/r/d/")) ≡ Some ([], codes "d" ∷ [] ∷ [])
below_own p = refl

pub other : (p : Path) → lead_of (codes "r") p (parts_of (codes "/cvmfs/rr/d")) ≡ None
other p = refl

pub doubled : (p : Path) → lead_of (codes "r") p (parts_of (codes "//cvmfs/r")) ≡ None
doubled p = refl

pub top : (p : Path) → lead_of (codes "r") p (parts_of (codes "/")) ≡ None
top p = refl
