-- Which faults tell of what was given.
use Rattle.std.proofs.Common.{◌≡◌, ◌≢◌, ◌⊎◌, ◌↔◌, ℕ, List, Option, refl, sym, ap, subst, ◌∙◌, inl, inr}
use Rattle.std.specs.declared.option.Option.TheVariants.{None, Some}
use Rattle.std.specs.declared.result.Result.TheVariants.{Ok, Err}
use Rattle.sha1.specs.Sha1.{sha1}
use Rattle.cv_base.specs.ObjectId.{object_id}
use Rattle.cv_base.specs.declared.id.ObjectId.{ObjectId}
use Rattle.cv_base.specs.declared.id.Kind.TheVariants as id_kind
use Rattle.cv_base.proofs.Laws.{some_same, not_both}
use Rattle.cv_cut.specs.Reached.{Decodes}
use Rattle.cv_resolver.specs.Spot.{place_of}
use Rattle.cv_resolver.specs.Kept.{Kept}
use Rattle.cv_resolver.specs.Stage.{IsOfPeer, IsBlameless, wanted_by}
use Rattle.cv_resolver.specs.Giving.{TakesCatalogue, opened, bad, no_memory, Takes, nothing, other, content, catalogue, Blames, EndsBy, IsOther, IsUndecoded}
use Rattle.cv_resolver.specs.declared.question.Question.{Question}
use Rattle.cv_resolver.specs.declared.walk.Walk.{Walk}
use Rattle.cv_resolver.specs.declared.found.Found.TheVariants.{Bytes}
use Rattle.cv_resolver.specs.declared.found.ClientFault.{ClientFault}
use Rattle.cv_resolver.specs.declared.found.ClientFault.TheVariants.{BadObject, BadCatalogue, NotServed, NoMemory}
use Rattle.cv_resolver.specs.declared.stage.Stage.{Stage}
use Rattle.cv_resolver.specs.declared.stage.Stage.TheVariants.{Walks, Reads, Ends}
use Rattle.cv_resolver.proofs.Progressing.{blameless}
use Rattle.cv_resolver.proofs.Taking.{file_hash, walk_hash}

-- ---- what differs

abbrev by : ClientFault → Stage
by f = Ends (Err f)

clash : {X : Type 0} (s t u : Stage) → s ≡ t → s ≡ u → (t ≡ u → X) → X
clash s t u a b no_way = no_way (sym a ∙ b)

blameless_not : (s : Stage) (f : ClientFault) → IsOfPeer f → IsBlameless s → EndsBy s f → ⊥
blameless_not s f peer blameless ends = (subst IsBlameless ends blameless) peer

-- a catalogue of the right digest: no fault of the peer but that it doesn't decode
taken_not : (repository : List ℕ) (q : Question) (k after : Kept) (w : Walk) (bytes : List ℕ) (s : Stage) (f : ClientFault) → IsOfPeer f → by (BadCatalogue (object_id w.spot.level.hash id_kind.Catalogue)) ≢ by f → by NoMemory ≢ by f → TakesCatalogue repository q k w bytes after s → EndsBy s f → ⊥
taken_not repository q k after w bytes s f peer catalogue_not memory_not (opened c decodes goes) h = blameless_not s f peer (blameless goes) h
taken_not repository q k after w bytes s f peer catalogue_not memory_not (bad none same ends) h = catalogue_not (sym ends ∙ h)
taken_not repository q k after w bytes s f peer catalogue_not memory_not (no_memory same ends) h = memory_not (sym ends ∙ h)

module _ (repository : List ℕ) (q : Question) (k after : Kept) (was s : Stage) (given : Option (List ℕ)) (id : ObjectId) (wants : wanted_by was ≡ Some id) where
  -- ---- nothing was given

  only_unserved : Takes repository q k was given after s → EndsBy s (NotServed id) → given ≡ None
  only_unserved (nothing x wanted none same ends) h = none
  only_unserved (other x bytes wanted is differs same ends) h = clash s _ _ ends h (λ (e : by (BadObject x (sha1 bytes)) ≡ by (NotServed id)). cc)
  only_unserved (content hash bytes reads is digest same ends) h = clash s _ _ ends h (λ (e : Ends (Ok (Bytes bytes)) ≡ by (NotServed id)). cc)
  only_unserved (catalogue w bytes walks is digest takes) h = absurd (taken_not repository q k after w bytes s (NotServed id) tt (λ e. cc) (λ e. cc) takes h)

  unserved : Takes repository q k was given after s → given ≡ None → EndsBy s (NotServed id)
  unserved (nothing x wanted none same ends) h = ends ∙ ap (λ (y : ObjectId). by (NotServed y)) (some_same (wanted_by was) x id wanted wants)
  unserved (other x bytes wanted is differs same ends) h = absurd (not_both given bytes is h)
  unserved (content hash bytes reads is digest same ends) h = absurd (not_both given bytes is h)
  unserved (catalogue w bytes walks is digest takes) h = absurd (not_both given bytes is h)

  pub not_served : Takes repository q k was given after s → EndsBy s (NotServed id) ↔ (given ≡ None)
  not_served takes = (only_unserved takes, unserved takes)

  -- ---- bytes of another digest

  only_other : (found : List ℕ) → Takes repository q k was given after s → EndsBy s (BadObject id found) → IsOther given id found
  only_other found (nothing x wanted none same ends) h = clash s _ _ ends h (λ (e : by (NotServed x) ≡ by (BadObject id found)). cc)
  only_other found (other x bytes wanted is differs same ends) h =
      let e : by (BadObject x (sha1 bytes)) ≡ by (BadObject id found) = sym ends ∙ h in
      let digest : sha1 bytes ≡ found = cc in
      let one : x ≡ id = cc in
      record { bytes = bytes; is = is; digest = sym digest; differs = λ wrong. differs (digest ∙ wrong ∙ ap (λ (y : ObjectId). y.hash) (sym one)) }
  only_other found (content hash bytes reads is digest same ends) h = clash s _ _ ends h (λ (e : Ends (Ok (Bytes bytes)) ≡ by (BadObject id found)). cc)
  only_other found (catalogue w bytes walks is digest takes) h = absurd (taken_not repository q k after w bytes s (BadObject id found) tt (λ e. cc) (λ e. cc) takes h)

  differing : (found : List ℕ) → Takes repository q k was given after s → IsOther given id found → EndsBy s (BadObject id found)
  differing found (nothing x wanted none same ends) o = absurd (not_both given o.bytes o.is none)
  differing found (other x bytes wanted is differs same ends) o =
      ends ∙ (λ i. by (BadObject (some_same (wanted_by was) x id wanted wants i) ((ap sha1 (some_same given bytes o.bytes is o.is) ∙ sym o.digest) i)))
  differing found (content hash bytes reads is digest same ends) o =
      absurd (o.differs (o.digest ∙ ap sha1 (some_same given o.bytes bytes o.is is) ∙ digest ∙ file_hash hash was id reads wants))
  differing found (catalogue w bytes walks is digest takes) o =
      absurd (o.differs (o.digest ∙ ap sha1 (some_same given o.bytes bytes o.is is) ∙ digest ∙ walk_hash w was id walks wants))

  pub bad_object : (found : List ℕ) → Takes repository q k was given after s → EndsBy s (BadObject id found) ↔ IsOther given id found
  bad_object found takes = (only_other found takes, differing found takes)

  -- ---- bytes that don't decode

  undecoded : (w : Walk) (bytes : List ℕ) → was ≡ Walks w → given ≡ Some bytes → sha1 bytes ≡ w.spot.level.hash → TakesCatalogue repository q k w bytes after s → EndsBy s (BadCatalogue id) → IsUndecoded was given
  undecoded w bytes walks is digest (opened c decodes goes) h = absurd (blameless_not s (BadCatalogue id) tt (blameless goes) h)
  undecoded w bytes walks is digest (bad none same ends) h = record { walk = w; walks = walks; bytes = bytes; is = is; digest = digest; none = none }
  undecoded w bytes walks is digest (no_memory same ends) h = clash s _ _ ends h (λ (e : by NoMemory ≡ by (BadCatalogue id)). cc)

  pub only_undecoded : Takes repository q k was given after s → EndsBy s (BadCatalogue id) → IsUndecoded was given
  only_undecoded (nothing x wanted none same ends) h = clash s _ _ ends h (λ (e : by (NotServed x) ≡ by (BadCatalogue id)). cc)
  only_undecoded (other x bytes wanted is differs same ends) h = clash s _ _ ends h (λ (e : by (BadObject x (sha1 bytes)) ≡ by (BadCatalogue id)). cc)
  only_undecoded (content hash bytes reads is digest same ends) h = clash s _ _ ends h (λ (e : Ends (Ok (Bytes bytes)) ≡ by (BadCatalogue id)). cc)
  only_undecoded (catalogue w bytes walks is digest takes) h = undecoded w bytes walks is digest takes h

  judged : (w : Walk) (bytes : List ℕ) (u : IsUndecoded was given) → w ≡ u.walk → bytes ≡ u.bytes → object_id w.spot.level.hash id_kind.Catalogue ≡ id → TakesCatalogue repository q k w bytes after s → EndsBy s (BadCatalogue id) ⊎ EndsBy s NoMemory
  judged w bytes u walks is named (opened c decodes goes) =
      absurd (u.none c (subst (λ (x : Walk). Decodes (place_of x.spot.level) u.bytes c) walks (subst (λ (b : List ℕ). Decodes (place_of w.spot.level) b c) is decodes)))
  judged w bytes u walks is named (bad none same ends) = inl (ends ∙ ap (λ (y : ObjectId). by (BadCatalogue y)) named)
  judged w bytes u walks is named (no_memory same ends) = inr ends

  pub bad_catalogue : Takes repository q k was given after s → IsUndecoded was given → EndsBy s (BadCatalogue id) ⊎ EndsBy s NoMemory
  bad_catalogue (nothing x wanted none same ends) u = absurd (not_both given u.bytes u.is none)
  bad_catalogue (other x bytes wanted is differs same ends) u =
      absurd (differs (ap sha1 (some_same given bytes u.bytes is u.is) ∙ u.digest ∙ walk_hash u.walk was x u.walks wanted))
  bad_catalogue (content hash bytes reads is digest same ends) u = absurd (let e : Reads hash ≡ Walks u.walk = sym reads ∙ u.walks in cc)
  bad_catalogue (catalogue w bytes walks is digest takes) u =
      let e : Walks w ≡ Walks u.walk = sym walks ∙ u.walks in
      let one : w ≡ u.walk = cc in
      let named : Some (object_id w.spot.level.hash id_kind.Catalogue) ≡ Some id = ap wanted_by (sym walks) ∙ wants in
      judged w bytes u one (some_same given bytes u.bytes is u.is) (let n : object_id w.spot.level.hash id_kind.Catalogue ≡ id = cc in n) takes

-- ---- which object is named

ends_so : (f g : ClientFault) (s : Stage) → s ≡ by g → EndsBy s f → g ≡ f
ends_so f g s a b = let e : by g ≡ by f = sym a ∙ b in cc

pub fault_names : (repository : List ℕ) (q : Question) (k after : Kept) (was s : Stage) (given : Option (List ℕ)) (f : ClientFault) (id : ObjectId)
    → Takes repository q k was given after s → EndsBy s f → Blames f id → wanted_by was ≡ Some id
fault_names repository q k after was s given f id (nothing x wanted none same ends) h b =
    let named : x ≡ id = subst (λ (g : ClientFault). Blames g id) (sym (ends_so f (NotServed x) s ends h)) b in
    wanted ∙ ap Some named
fault_names repository q k after was s given f id (other x bytes wanted is differs same ends) h b =
    let named : x ≡ id = subst (λ (g : ClientFault). Blames g id) (sym (ends_so f (BadObject x (sha1 bytes)) s ends h)) b in
    wanted ∙ ap Some named
fault_names repository q k after was s given f id (content hash bytes reads is digest same ends) h b = clash s _ _ ends h (λ (e : Ends (Ok (Bytes bytes)) ≡ by f). cc)
fault_names repository q k after was s given f id (catalogue w bytes walks is digest takes) h b = from_catalogue takes
  where
    named : (x : ObjectId) → x ≡ object_id w.spot.level.hash id_kind.Catalogue → x ≡ id → wanted_by was ≡ Some id
    named x at same = ap wanted_by walks ∙ ap Some (sym at ∙ same)

    blamed : (g : ClientFault) → IsBlameless (by g) → Blames g id → ⊥
    blamed (BadObject x found) no_blame c = no_blame tt
    blamed (BadCatalogue x) no_blame c = no_blame tt
    blamed (NotServed x) no_blame c = no_blame tt
    blamed other_ no_blame c = absurd c

    from_catalogue : TakesCatalogue repository q k w bytes after s → wanted_by was ≡ Some id
    from_catalogue (opened c decodes goes) = absurd (blamed f (subst IsBlameless h (blameless goes)) b)
    from_catalogue (bad none same ends) = named _ refl (subst (λ (g : ClientFault). Blames g id) (sym (ends_so f (BadCatalogue (object_id w.spot.level.hash id_kind.Catalogue)) s ends h)) b)
    from_catalogue (no_memory same ends) = absurd (subst (λ (g : ClientFault). Blames g id) (sym (ends_so f NoMemory s ends h)) b)
