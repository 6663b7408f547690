-- Where targets of links lead, as the code tells it.
use Rattle.std.specs.Prelude.{◌≡◌, ◌≤◌, ℕ, Bool, false, true, ◌&&◌, bytes_eq, List, [], ◌∷◌, length, codes, Option, Some, None}
use Rattle.cv_base.specs.Path.{Path}
use Rattle.cv_resolver.specs.Walk.{Name, is_absolute}
use Rattle.cv_resolver.specs.declared.target.Lead.{Lead}
use Rattle.cv_resolver.specs.declared.target.Lead.TheVariants.{Nowhere, Root, Here}

-- the text of these parts begins with a slash, and goes on with the repository
abbrev pub is_own : List ℕ → List Name → Bool
is_own repository ([] ∷ folder ∷ name ∷ names) = bytes_eq folder (codes "cvmfs") && bytes_eq name repository
is_own repository names = false

-- where it begins, and by which names it goes on
abbrev pub start_of : Path → Lead → Option (Path × List Name)
start_of p Nowhere = None
start_of p (Root names) = Some ([], names.items)
start_of p (Here names) = Some (p, names.items)

-- it has no more names than this
abbrev pub HasNames : ℕ → Lead → Type 0
HasNames n Nowhere = Unit {0}
HasNames n (Root names) = length names.items ≤ n
HasNames n (Here names) = length names.items ≤ n

-- it leads on from the root where the text of these parts begins with a slash, else from the link's directory
abbrev pub IsFrom : List Name → Lead → Type 0
IsFrom parts Nowhere = Unit {0}
IsFrom parts (Root names) = is_absolute parts ≡ true
IsFrom parts (Here names) = is_absolute parts ≡ false
