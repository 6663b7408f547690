-- What becomes of a checkout by what is given for the catalogue that is wanted next.
use Rattle.std.specs.Prelude.{◌≡◌, ◌≢◌, ℕ, List, [], ◌∷◌, ◌++◌, Option, Some, None, Result, Ok, Err}
use Rattle.std.specs.List.{AllZip}
use Rattle.sha1.specs.Sha1.{sha1}
use Rattle.cv_base.specs.declared.id.ObjectId.{ObjectId}
use Rattle.cv_rows.specs.Catalogue.{Contents}
use Rattle.cv_checkout.specs.Wanting.{Suits, IsNamed, id_of, next_of, toward}
use Rattle.cv_checkout.specs.Progress.{Progress, ComesTo}
use Rattle.cv_checkout.specs.declared.wanted.Wanted.{Wanted}
use Rattle.cv_checkout.specs.declared.fault.CheckoutFault.{CheckoutFault}
use Rattle.cv_checkout.specs.declared.fault.CheckoutFault.TheVariants.{NotServed, BadObject, BadCatalogue, NoMemory}

-- Bytes were taken as the catalogue that was wanted next. It is kept. Those that it names on the way to the path, and then at
-- and below it, are wanted before what was wanted behind it.
pub record Takes (s : Progress) (bytes : List ℕ) (new : Progress) : Type 0 where
  pub first : Wanted
  pub rest : List Wanted
  pub is : s.wanted ≡ first ∷ rest
  pub digest : sha1 bytes ≡ first.hash
  pub contents : Contents
  pub suits : Suits first bytes contents
  pub named : List Wanted
  pub names : AllZip (IsNamed contents) (toward s.path contents) named
  pub wanted_is : new.wanted ≡ named ++ rest
  pub path_is : new.path ≡ s.path
  pub objects_are : new.objects ≡ s.objects ++ record { id = id_of first; bytes = bytes } ∷ []
  pub comes : ComesTo s.path contents s.tree new.tree

-- bytes of another digest were given for the id, and this is theirs
pub record IsOther (id : ObjectId) (given : Option (List ℕ)) (found : List ℕ) : Type 0 where
  pub bytes : List ℕ
  pub is : given ≡ Some bytes
  pub digest : found ≡ sha1 bytes
  pub differs : found ≢ id.hash

-- bytes of its digest were given
pub record HasDigest (id : ObjectId) (given : Option (List ℕ)) : Type 0 where
  pub bytes : List ℕ
  pub is : given ≡ Some bytes
  pub digest : sha1 bytes ≡ id.hash

-- bytes of the digest of the catalogue that is wanted next were given, which suit no catalogue there
pub record IsUnsuited (s : Progress) (given : Option (List ℕ)) : Type 0 where
  pub first : Wanted
  pub rest : List Wanted
  pub is : s.wanted ≡ first ∷ rest
  pub bytes : List ℕ
  pub gives : given ≡ Some bytes
  pub digest : sha1 bytes ≡ first.hash
  pub none : (c : Contents) → Suits first bytes c → ⊥

-- What a gift answers: NotServed where nothing was given, BadObject where bytes of another digest were, BadCatalogue where bytes
-- of the digest suit no catalogue there, and else Ok. Such a refusal changes nothing. Memory may be wanting only where bytes of the
-- digest were given, and then nothing is said of the checkout.
abbrev pub Gives : Progress → Option (List ℕ) → Progress → Result (Unit {0}) CheckoutFault → Type 0
Gives s given new (Ok done) = (bytes : List ℕ) × (given ≡ Some bytes) × Takes s bytes new
Gives s given new (Err (NotServed id)) = (next_of s.wanted ≡ Some id) × (given ≡ None) × (new ≡ s)
Gives s given new (Err (BadObject id found)) = (next_of s.wanted ≡ Some id) × IsOther id given found × (new ≡ s)
Gives s given new (Err (BadCatalogue id)) = (next_of s.wanted ≡ Some id) × IsUnsuited s given × (new ≡ s)
Gives s given new (Err NoMemory) = (id : ObjectId) × (next_of s.wanted ≡ Some id) × HasDigest id given
