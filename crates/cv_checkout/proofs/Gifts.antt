-- What a gift answers, by its steps.
use Rattle.std.proofs.Common.{◌≡◌, ◌↔◌, inl, inr, ℕ, List, ◌∷◌, refl, sym, ap, subst, ◌∙◌}
use Rattle.std.specs.Prelude.{Contains, IsErrOf, OnOk, option_to_list}
use Rattle.std.specs.declared.option.Option.{Option}
use Rattle.std.specs.declared.option.Option.TheVariants.{None, Some}
use Rattle.std.specs.declared.result.Result.{Result}
use Rattle.std.specs.declared.result.Result.TheVariants.{Ok, Err}
use Rattle.sha1.specs.Sha1.{sha1}
use Rattle.cv_base.specs.Unless.{IsUnless}
use Rattle.cv_base.specs.declared.id.ObjectId.{ObjectId}
use Rattle.cv_base.proofs.Laws.{some_same, not_both}
use Rattle.cv_tree.specs.Tree.{Nodes}
use Rattle.cv_cut.specs.Catalogues.{contents_of}
use Rattle.cv_cut.specs.Own.{AreOwn}
use Rattle.cv_cut.proofs.Lemmas.{first_there}
use Rattle.cv_checkout.specs.Wanting.{Suits, id_of, next_of}
use Rattle.cv_checkout.specs.Progress.{Progress}
use Rattle.cv_checkout.specs.Giving.{Gives, IsOther, IsUnsuited}
use Rattle.cv_checkout.specs.InTree.{IsOn}
use Rattle.cv_checkout.specs.declared.wanted.Wanted.{Wanted}
use Rattle.cv_checkout.specs.declared.fault.CheckoutFault.{CheckoutFault}
use Rattle.cv_checkout.specs.declared.fault.CheckoutFault.TheVariants as fault
use Rattle.cv_checkout.proofs.Coming.{comes_on, own_bytes, suited}

-- ---- in a tree

pub gives_on : (t : Nodes) (s new : Progress) (given : Option (List ℕ)) (r : Result (Unit {0}) CheckoutFault) → Gives s given new r → IsOn t s → AreOwn t (option_to_list given) → OnOk r (IsOn t new)
gives_on t s new given (Ok done) g on own = comes_on t s new g.0 on (subst (λ (x : Option (List ℕ)). AreOwn t (option_to_list x)) g.1 own) g.2
gives_on t s new given (Err f) g on own = tt

pub gives_good : (t : Nodes) (s new : Progress) (given : Option (List ℕ)) (id : ObjectId) (r : Result (Unit {0}) CheckoutFault) → Gives s given new r → IsOn t s → AreOwn t (option_to_list given) → IsErrOf r (fault.BadCatalogue id) → ⊥
gives_good t s new given id r g on own bad =
    let u = (subst (Gives s given new) bad g).1 in
    let wanted = on.wants u.first (subst (λ (ws : List Wanted). Contains ws u.first) (sym u.is) (first_there u.first u.rest)) in
    let same = own_bytes t s.path u.first u.bytes wanted (subst (λ (x : Option (List ℕ)). AreOwn t (option_to_list x)) u.gives own) u.digest in
    u.none (contents_of t u.first.path) (suited t s.path u.first u.bytes wanted same)

-- ---- what each fault tells

-- bytes of the digest aren't bytes of another
not_other : (given : Option (List ℕ)) (id : ObjectId) (found bytes : List ℕ) → given ≡ Some bytes → sha1 bytes ≡ id.hash → IsOther id given found → ⊥
not_other given id found bytes gives digest o = o.differs (o.digest ∙ ap sha1 (some_same given o.bytes bytes o.is gives) ∙ digest)

one_first : (ws : List Wanted) (a b : Wanted) (as_ bs : List Wanted) → ws ≡ a ∷ as_ → ws ≡ b ∷ bs → a ≡ b
one_first ws a b as_ bs is was = let same : a ∷ as_ ≡ b ∷ bs = sym is ∙ was in cc

module _ (s new : Progress) (given : Option (List ℕ)) (id : ObjectId) (next : next_of s.wanted ≡ Some id) where
  hash_of_next : (first : Wanted) (rest : List Wanted) → s.wanted ≡ first ∷ rest → first.hash ≡ id.hash
  hash_of_next first rest is = ap (λ (x : ObjectId). x.hash) (some_same (next_of s.wanted) (id_of first) id (ap next_of is) next)

  none_served : (r : Result (Unit {0}) CheckoutFault) → Gives s given new r → given ≡ None → r ≡ Err (fault.NotServed id)
  none_served (Ok done) g none = absurd (not_both given g.0 g.1 none)
  none_served (Err (fault.NotServed x)) g none = ap (λ (y : ObjectId). Err (fault.NotServed y)) (some_same (next_of s.wanted) x id g.0 next)
  none_served (Err (fault.BadObject x found)) g none = absurd (not_both given g.1.bytes g.1.is none)
  none_served (Err (fault.BadCatalogue x)) g none = absurd (not_both given g.1.bytes g.1.gives none)
  none_served (Err fault.NoMemory) g none = absurd (not_both given g.2.bytes g.2.is none)

  other_found : (found : List ℕ) (r : Result (Unit {0}) CheckoutFault) → Gives s given new r → IsOther id given found → r ≡ Err (fault.BadObject id found)
  other_found found (Ok done) g o = absurd (not_other given id found g.0 g.1 (g.2.digest ∙ hash_of_next g.2.first g.2.rest g.2.is) o)
  other_found found (Err (fault.NotServed x)) g o = absurd (not_both given o.bytes o.is g.1)
  other_found found (Err (fault.BadObject x f)) g o =
      let same : f ≡ found = g.1.digest ∙ ap sha1 (some_same given g.1.bytes o.bytes g.1.is o.is) ∙ sym o.digest in
      λ i. Err (fault.BadObject (some_same (next_of s.wanted) x id g.0 next i) (same i))
  other_found found (Err (fault.BadCatalogue x)) g o = absurd (not_other given id found g.1.bytes g.1.gives (g.1.digest ∙ hash_of_next g.1.first g.1.rest g.1.is) o)
  other_found found (Err fault.NoMemory) g o =
      absurd (not_other given id found g.2.bytes g.2.is (g.2.digest ∙ ap (λ (x : ObjectId). x.hash) (some_same (next_of s.wanted) g.0 id g.1 next)) o)

  pub served_not : (r : Result (Unit {0}) CheckoutFault) → Gives s given new r → IsErrOf r (fault.NotServed id) ↔ (given ≡ None)
  served_not r g = (λ h. (subst (Gives s given new) h g).1, none_served r g)

  pub object_bad : (found : List ℕ) (r : Result (Unit {0}) CheckoutFault) → Gives s given new r → IsErrOf r (fault.BadObject id found) ↔ IsOther id given found
  object_bad found r g = (λ h. (subst (Gives s given new) h g).1, other_found found r g)

  -- where bytes suit no catalogue, that or want of memory is answered
  pub unsuited_told : (r : Result (Unit {0}) CheckoutFault) → Gives s given new r → IsUnsuited s given → IsUnless fault.NoMemory r (Err (fault.BadCatalogue id))
  unsuited_told (Ok done) g u = absurd (u.none g.2.contents (subst (λ (w : Wanted). Suits w u.bytes g.2.contents) (one_first s.wanted g.2.first u.first g.2.rest u.rest g.2.is u.is)
      (subst (λ (b : List ℕ). Suits g.2.first b g.2.contents) (some_same given g.0 u.bytes g.1 u.gives) g.2.suits)))
  unsuited_told (Err (fault.NotServed x)) g u = absurd (not_both given u.bytes u.gives g.1)
  unsuited_told (Err (fault.BadObject x found)) g u =
      let same = some_same (next_of s.wanted) x id g.0 next in
      absurd (not_other given id found u.bytes u.gives (u.digest ∙ hash_of_next u.first u.rest u.is) (subst (λ (y : ObjectId). IsOther y given found) same g.1))
  unsuited_told (Err (fault.BadCatalogue x)) g u = inr (ap (λ (y : ObjectId). Err (fault.BadCatalogue y)) (some_same (next_of s.wanted) x id g.0 next))
  unsuited_told (Err fault.NoMemory) g u = inl refl

pub catalogue_bad : (s new : Progress) (given : Option (List ℕ)) (id : ObjectId) (r : Result (Unit {0}) CheckoutFault) → Gives s given new r → IsErrOf r (fault.BadCatalogue id) → IsUnsuited s given
catalogue_bad s new given id r g h = (subst (Gives s given new) h g).1
