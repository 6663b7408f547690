-- What single steps of a gift answer.
use Rattle.std.specs.Prelude.{◌≡◌, ℕ, List, ◌∷◌, Option, Some, None, Result, Ok, Err}
use Rattle.sha1.specs.Sha1.{sha1}
use Rattle.cv_base.specs.declared.id.ObjectId.{ObjectId}
use Rattle.cv_rows.specs.Catalogue.{Contents}
use Rattle.cv_checkout.specs.Wanting.{Suits, id_of}
use Rattle.cv_checkout.specs.Giving.{Gives, IsOther}
use Rattle.cv_checkout.specs.Progress.{Progress}
use Rattle.cv_checkout.specs.declared.wanted.Wanted.{Wanted}
use Rattle.cv_checkout.specs.declared.fault.CheckoutFault.{CheckoutFault}
use Rattle.cv_checkout.specs.declared.fault.CheckoutFault.TheVariants.{NotServed, BadObject, BadCatalogue, NoMemory}

-- the bytes that were given for an id, of its digest, or why not
abbrev pub IsServed : ObjectId → Option (List ℕ) → Result (List ℕ) CheckoutFault → Type 0
IsServed id given (Ok bytes) = (given ≡ Some bytes) × (sha1 bytes ≡ id.hash)
IsServed id given (Err (NotServed x)) = (x ≡ id) × (given ≡ None)
IsServed id given (Err (BadObject x found)) = (x ≡ id) × IsOther id given found
IsServed id given (Err (BadCatalogue x)) = ⊥
IsServed id given (Err NoMemory) = ⊥

-- the catalogue that bytes suit, or that they suit none
abbrev pub Opens : Wanted → List ℕ → Result Contents CheckoutFault → Type 0
Opens w bytes (Ok c) = Suits w bytes c
Opens w bytes (Err (NotServed x)) = ⊥
Opens w bytes (Err (BadObject x found)) = ⊥
Opens w bytes (Err (BadCatalogue x)) = (x ≡ id_of w) × ((c : Contents) → Suits w bytes c → ⊥)
Opens w bytes (Err NoMemory) = Unit {0}

-- bytes were given of the catalogue that is wanted next
pub record IsGiven (s : Progress) (given : Option (List ℕ)) (bytes : List ℕ) (c : Contents) : Type 0 where
  pub first : Wanted
  pub rest : List Wanted
  pub is : s.wanted ≡ first ∷ rest
  pub gives : given ≡ Some bytes
  pub digest : sha1 bytes ≡ first.hash
  pub suits : Suits first bytes c

-- what was given is the catalogue that is wanted next, or why not: nothing was changed so far
abbrev pub Judges : Progress → Option (List ℕ) → Result (List ℕ × Contents) CheckoutFault → Type 0
Judges s given (Ok taken) = IsGiven s given taken.0 taken.1
Judges s given (Err f) = Gives s given s (Err f)
