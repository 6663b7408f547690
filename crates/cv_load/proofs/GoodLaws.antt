-- What is good stays good, and nothing is in its way.
use Rattle.std.proofs.Common.{◌≡◌, ℕ, zero, suc, ◌+◌, ◌≤◌, true, List, length, None, Some, refl, sym, ap, subst, ◌∙◌, arith, inl, inr}
use Rattle.std.specs.Prelude.{Contains, IsSomeAnd}
use Rattle.std.specs.declared.option.Option.{Option}
use Rattle.sha1.specs.Sha1.{sha1}
use Rattle.cv_base.specs.Path.{Path}
use Rattle.cv_base.specs.ObjectId.{object_id}
use Rattle.cv_base.specs.declared.id.ObjectId.{ObjectId}
use Rattle.cv_base.specs.declared.id.Kind.TheVariants as id_kind
use Rattle.cv_base.proofs.Laws.{not_both}
use Rattle.cv_ports.specs.Shelf.{Shelf, HasMore, HasOtherDigest}
use Rattle.cv_tree.specs.Tree.{Nodes}
use Rattle.cv_rows.specs.Catalogue.{Contents}
use Rattle.cv_rows.specs.Places.{StandsAt}
use Rattle.cv_rows.specs.declared.row.Row.{Row}
use Rattle.cv_rows.specs.declared.nested.Nested.{Nested}
use Rattle.cv_rows.specs.declared.row_kind.RowKind.TheVariants as kind
use Rattle.cv_cut.specs.Reached.{Place, Decodes, HasCatalogue, Reaches, ReachedFrom, BadFrom, Misstates, root_place, Lacking, Bad}
use Rattle.cv_cut.specs.Cuts.{is_cut}
use Rattle.cv_cut.specs.Catalogues.{cat}
use Rattle.cv_cut.specs.Means.{Means}
use Rattle.cv_cut.specs.Catalogues.{contents_of}
use Rattle.cv_load.proofs.OneTree.{cut_there}
use Rattle.cv_load.proofs.Standing.{same_contents}
use Rattle.cv_load.proofs.ReachedCuts.{IsCanonical, there_is, decodes_at, own_entry, canonical_entry, content_there, canonical_reached}
use Rattle.cv_cut.specs.Good.{HasFile, HasSize, IsGood, good, IsWholeAt}
use Rattle.cv_cut.specs.Opening.{IsDamaged}
use Rattle.cv_cut.proofs.Lemmas.{transition_long, one_decoding}

-- ---- what is good, opened

pub record IsOpened (shelf : Shelf) (hash : List ℕ) (place : Place) (c : Contents) : Type 0 where
  pub has : HasCatalogue shelf hash place c
  pub files : (r : Row) → Contains c.rows r → HasFile shelf r
  pub sizes : (n : Nested) → Contains c.nested n → HasSize shelf (object_id n.hash id_kind.Catalogue) n.size
  pub deeper : (n : Nested) (r : Row) → Contains c.nested n → r.kind ≡ kind.Transition → StandsAt c.at c.rows r n.path → IsGood shelf n.hash (record { path = n.path; row = Some r })

pub opened_good : {shelf : Shelf} {hash : List ℕ} {place : Place} → IsGood shelf hash place → (c : Contents) × IsOpened shelf hash place c
opened_good (good {c = c} has files sizes deeper) = (c, record { has = has; files = files; sizes = sizes; deeper = deeper })

-- the same of any catalogue that stands there
pub opened_as : {shelf : Shelf} {hash : List ℕ} {place : Place} (c : Contents) → IsGood shelf hash place → HasCatalogue shelf hash place c → IsOpened shelf hash place c
opened_as {shelf} {hash} {place} c is has =
    let o = opened_good is in
    subst (IsOpened shelf hash place) (same_contents shelf hash hash place place o.0 c refl refl o.1.has has) o.1

-- ---- what it reaches is good

pub good_below : {shelf : Shelf} {from : List ℕ} {start : Place} {hash : List ℕ} {place : Place} → IsGood shelf from start → Reaches shelf from start hash place → IsGood shelf hash place
good_below is Reaches.itself = is
good_below is (Reaches.nested {c = c} {n = n} {r = r} reached has there kind s) = (opened_as c (good_below is reached) has).deeper n r there kind s

-- ---- more objects keep it good

size_more : (old new : Shelf) (id : ObjectId) (size : ℕ) → HasMore old new → HasSize old id size → HasSize new id size
size_more old new id size more is = go (old id) refl is
  where
    go : (o : Option (List ℕ)) → old id ≡ o → IsSomeAnd o (λ bytes. length bytes ≡ size) → HasSize new id size
    go None e h = absurd h
    go (Some bytes) e h = subst (λ (o : Option (List ℕ)). IsSomeAnd o (λ b. length b ≡ size)) (sym (more id bytes e)) h

pub good_more : {old : Shelf} {hash : List ℕ} {place : Place} (new : Shelf) → HasMore old new → IsGood old hash place → IsGood new hash place
good_more {old} {hash} new more (good has files sizes deeper) =
    good (record { bytes = has.bytes; there = more (object_id hash id_kind.Catalogue) has.bytes has.there; decodes = has.decodes; digest = has.digest })
    (λ r there content is_file is. size_more old new (object_id content id_kind.Plain) r.size more (files r there content is_file is))
    (λ n there. size_more old new (object_id n.hash id_kind.Catalogue) n.size more (sizes n there))
    (λ n r there is_transition s. good_more new more (deeper n r there is_transition s))

-- ---- whatever row names it

at_path : (shelf : Shelf) (hash : List ℕ) (c : Contents) (place : Place) → HasCatalogue shelf hash place c → HasCatalogue shelf hash (record { path = place.path; row = None }) c
at_path shelf hash c place has = record {
  bytes = has.bytes;
  there = has.there;
  decodes = record { at = has.decodes.at; is = has.decodes.is; spelled = has.decodes.spelled; row = tt };
  digest = has.digest;
}

pub whole_good : {shelf : Shelf} {hash : List ℕ} (place : Place) → IsGood shelf hash place → IsWholeAt shelf hash place.path
whole_good {shelf} {hash} place (good {c = c} has files sizes deeper) = good {c = c} (at_path shelf hash c place has) files sizes deeper

-- a whole pair is good at each place of its path that it fits
pub good_whole : {shelf : Shelf} {hash : List ℕ} (place : Place) (c : Contents) → IsWholeAt shelf hash place.path → HasCatalogue shelf hash place c → IsGood shelf hash place
good_whole {shelf} {hash} place c is has =
    let o = opened_as c is (at_path shelf hash c place has) in
    good {c = c} has o.files o.sizes o.deeper

-- ---- nothing is lacking or bad

some_sized : (o : Option (List ℕ)) (size : ℕ) → IsSomeAnd o (λ bytes. length bytes ≡ size) → (bytes : List ℕ) × (o ≡ Some bytes) × (length bytes ≡ size)
some_sized None size h = absurd h
some_sized (Some bytes) size h = (bytes, refl, h)

pub good_lacks_nothing : {shelf : Shelf} {from : List ℕ} {start : Place} {x : ObjectId} → IsGood shelf from start → ReachedFrom shelf from start x → shelf x ≡ None → ⊥
good_lacks_nothing is (ReachedFrom.catalogue_ reached) none = let o = opened_good (good_below is reached) in not_both _ _ o.1.has.there none
good_lacks_nothing {shelf} is (ReachedFrom.file {content = content} {c = c} {r = r} reached has there is_file e) none =
    let o = opened_as c (good_below is reached) has in
    let s = some_sized (shelf (object_id content id_kind.Plain)) r.size (o.files r there content is_file e) in
    not_both _ _ s.1 none

same_length : (o : Option (List ℕ)) (size : ℕ) (bytes : List ℕ) → IsSomeAnd o (λ b. length b ≡ size) → o ≡ Some bytes → length bytes ≡ size
same_length o size bytes sized there = let h : IsSomeAnd (Some bytes) (λ b. length b ≡ size) = subst (λ (x : Option (List ℕ)). IsSomeAnd x (λ b. length b ≡ size)) there sized in h

states_rightly : {shelf : Shelf} {hash : List ℕ} {place : Place} {c : Contents} → IsOpened shelf hash place c → Misstates shelf c → ⊥
states_rightly {shelf} o (Misstates.nested {n = n} {bytes = bytes} has there differs) = differs (same_length (shelf (object_id n.hash id_kind.Catalogue)) n.size bytes (o.sizes n has) there)
states_rightly {shelf} o (Misstates.file {r = r} {hash = content} {bytes = bytes} has is_file e there differs) = differs (same_length (shelf (object_id content id_kind.Plain)) r.size bytes (o.files r has content is_file e) there)

pub good_is_not_bad : {shelf : Shelf} {from : List ℕ} {start : Place} (x : ObjectId) → IsGood shelf from start → BadFrom shelf from start x → ⊥
good_is_not_bad {shelf} x is bad =
    let o = opened_good (good_below is bad.reached) in
    let one : Some bad.bytes ≡ Some o.1.has.bytes = sym (ap shelf (sym bad.is) ∙ bad.there) ∙ o.1.has.there in
    let bytes : o.1.has.bytes ≡ bad.bytes = cc in
    let decodes : Decodes bad.place bad.bytes o.0 = subst (λ (b : List ℕ). Decodes bad.place b o.0) bytes o.1.has.decodes in
    elim bad.wrong [
      | inl none ↦ none o.0 decodes
      | inr some ↦ states_rightly o.1 (subst (Misstates shelf) (one_decoding bad.place bad.bytes some.0 o.0 some.1 decodes) some.2)
    ]

-- the bytes of a catalogue that is reached have its hash
pub good_is_not_damaged : {shelf : Shelf} {from : List ℕ} {start : Place} {id : ObjectId} {found : List ℕ} → IsGood shelf from start → id.kind ≡ id_kind.Catalogue → ReachedFrom shelf from start id → HasOtherDigest shelf id found → ⊥
good_is_not_damaged is kind (ReachedFrom.catalogue_ reached) damage =
    let o = opened_good (good_below is reached) in
    let one : Some damage.bytes ≡ Some o.1.has.bytes = sym damage.there ∙ o.1.has.there in
    let same : damage.bytes ≡ o.1.has.bytes = cc in
    damage.other (damage.digest ∙ ap sha1 same ∙ o.1.has.digest)
good_is_not_damaged is kind (ReachedFrom.file reached has own is_file content) damage = absurd cc

-- ---- what a meant tree has is good

module _ {shelf : Shelf} {top : List ℕ} {t : Nodes} (is : Means shelf top t) where
  canonical_has : {hash : List ℕ} {place : Place} → IsCanonical is hash place → HasCatalogue shelf hash place (contents_of t place.path)
  canonical_has {place = place} known = record { bytes = cat t place.path; there = there_is is known; decodes = known.decodes; digest = sym known.named }

  good_by : (k : ℕ) {hash : List ℕ} {place : Place} → IsCanonical is hash place → 65 ≤ length place.path + k → IsGood shelf hash place
  good_by zero {place = place} known enough = absurd (let limit = (is.tree.part.paths place.path (cut_there t place.path is.tree known.cut)).depth in omega (arith, enough, limit))
  good_by (suc k) {hash} {place} known enough =
      let p = place.path in
      good {c = contents_of t p} (canonical_has known)
      (λ r there content is_file e. content_there is known (contents_of t p) known.decodes r there content e)
      (λ n there.
      let own = own_entry is p n known.cut there in
      let stands = ap (λ (h : List ℕ). shelf (object_id h id_kind.Catalogue)) own.hash ∙ is.catalogues n.path own.cut in
      subst (λ (o : Option (List ℕ)). IsSomeAnd o (λ bytes. length bytes ≡ n.size)) (sym stands) (sym own.size))
      (λ n r there is_transition s. let long = transition_long s is_transition in good_by k (canonical_entry is p n r known.cut there s) (omega (arith, enough, long)))

  pub good_root : IsGood shelf top root_place
  good_root = good_by 65 (canonical_reached is Reaches.itself) (omega arith)

  -- and so is the catalogue of each cut
  pub good_cut : (p : Path) → is_cut t p ≡ true → IsWholeAt shelf (sha1 (cat t p)) p
  good_cut p cut = good_by 65 (record { cut = cut; named = refl; decodes = decodes_at is p None cut tt }) (omega arith)

  -- ---- so nothing is in the way

  pub none_lacking : (x : ObjectId) → Lacking shelf top x → ⊥
  none_lacking x h = good_lacks_nothing good_root h.0 h.1

  pub none_bad : (x : ObjectId) → Bad shelf top x → ⊥
  none_bad x h = good_is_not_bad x good_root h

  pub none_damaged : (id : ObjectId) (found : List ℕ) → IsDamaged shelf top id found → ⊥
  none_damaged id found h = good_is_not_damaged good_root h.kind h.reached h.damage
