-- In which order catalogues are fetched.
use Rattle.std.specs.Prelude.{◌≡◌, ◌++◌, ◌∷◌, ℕ, List}
use Rattle.std.specs.List.{AllZip}
use Rattle.sha1.specs.Sha1.{sha1}
use Rattle.cv_base.specs.Path.{Path}
use Rattle.cv_base.specs.declared.id.ObjectId.{ObjectId}
use Rattle.cv_rows.specs.Catalogue.{Contents}
use Rattle.cv_checkout.specs.Wanting.{IsNamed, Suits, id_of, toward}
use Rattle.cv_checkout.specs.declared.wanted.Wanted.{Wanted}

-- bytes have the digest of the first of the catalogues that are wanted, and this is its id
pub record IsOfFirst (wanted : List Wanted) (id : ObjectId) (bytes : List ℕ) : Type 0 where
  pub first : Wanted
  pub others : List Wanted
  pub is : wanted ≡ first ∷ others
  pub id_is : id ≡ id_of first
  pub digest : sha1 bytes ≡ first.hash

-- The first was given: the bytes are a catalogue at its place. Those that it names on the way to the path, and at and below it, are
-- left before the others.
pub record IsGiven (p : Path) (wanted : List Wanted) (id : ObjectId) (bytes : List ℕ) (left : List Wanted) : Type 0 where
  pub answers : IsOfFirst wanted id bytes
  pub contents : Contents
  pub suits : Suits answers.first bytes contents
  pub named : List Wanted
  pub names : AllZip (IsNamed contents) (toward p contents) named
  pub left_are : left ≡ named ++ answers.others

-- the bytes are no catalogue at its place
pub record IsBadThere (wanted : List Wanted) (id : ObjectId) (bytes : List ℕ) : Type 0 where
  pub answers : IsOfFirst wanted id bytes
  pub none : (c : Contents) → Suits answers.first bytes c → ⊥
