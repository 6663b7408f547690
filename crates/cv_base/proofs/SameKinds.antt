-- Which kinds are the same.
use Rattle.std.proofs.Common.{◌≡◌, true, refl}
use Rattle.cv_base.specs.declared.id.Kind.{Kind}
use Rattle.cv_base.specs.declared.id.Kind.TheVariants.{Plain, Catalogue, History}
use Rattle.cv_base.specs.ObjectId.{same_kind}

pub same_kind-eq : (a b : Kind) → same_kind a b ≡ true → a ≡ b
same_kind-eq Plain Plain h = refl
same_kind-eq Plain Catalogue h = cc
same_kind-eq Plain History h = cc
same_kind-eq Catalogue Plain h = cc
same_kind-eq Catalogue Catalogue h = refl
same_kind-eq Catalogue History h = cc
same_kind-eq History Plain h = cc
same_kind-eq History Catalogue h = cc
same_kind-eq History History h = refl

pub same_kind-own : (kind : Kind) → same_kind kind kind ≡ true
same_kind-own Plain = refl
same_kind-own Catalogue = refl
same_kind-own History = refl
