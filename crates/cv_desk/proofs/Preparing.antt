-- A revision is made ready in two batches: its objects are brought, and then its record, which stands among them, is prepared.
use Rattle.std.proofs.Common.{◌≡◌, ℕ, Bool, List, [], ◌∷◌, ◌++◌, sym, ap, subst, ◌∙◌, inl}
use Rattle.std.proofs.lemmas.List.Elements.{Contains-append_right}
use Rattle.std.proofs.lemmas.Option.{none-some, same_Some}
use Rattle.std.specs.List.{Contains}
use Rattle.std.specs.Prelude.{IfOk, OnErr}
use Rattle.std.specs.declared.option.Option.{Option}
use Rattle.std.specs.declared.option.Option.TheVariants.{Some}
use Rattle.std.specs.declared.result.Result.{Result}
use Rattle.std.specs.declared.result.Result.TheVariants.{Ok, Err}
use Rattle.sha1.specs.Sha1.{sha1}
use Rattle.cv_base.specs.ObjectId.{file_name}
use Rattle.cv_base.specs.Told.{WhereTold}
use Rattle.cv_base.specs.declared.object.Object.{Object}
use Rattle.cv_vault.specs.Names.{Name, on_way}
use Rattle.cv_vault.specs.Disk.{Disk, File, Files}
use Rattle.cv_vault.specs.Walks.{Gains, Walks, Nothing}
use Rattle.cv_vault.proofs.Laws.{bind, looser}
use Rattle.cv_base.specs.Objects.{AreNamed}
use Rattle.cv_objects.specs.Batches.{Brings, Has, IsOne, IsOutside, ShownIn, by_one, by_two, by_itself}
use Rattle.cv_objects.specs.declared.store_fault.StoreFault.{StoreFault}
use Rattle.cv_objects.specs.declared.store_fault.StoreFault.TheVariants.{Collision, Failed, Damaged, NoMemory}
use Rattle.cv_objects.proofs.Lemmas.{data_off_way, kept}
use Rattle.cv_history.specs.declared.record.Record.{Record}
use Rattle.cv_manifest.specs.declared.head.Head.{Head}
use Rattle.cv_swap.specs.Line.{LineView, published, AreKept, IsReady, IsDropped}
use Rattle.cv_swap.specs.Publishing.{Prepared, Shelved}
use Rattle.cv_swap.specs.Stands.{Publishes}

-- ---- a batch that stands, and a part of it

module _ (batch part : List Object) (among : (o : Object) → Contains part o → Contains batch o) (d : Disk) (has : Has d batch) where
  -- it is refused by nothing
  unrefused : AreNamed batch → IsOne batch → (e : StoreFault) → ShownIn d part e → IsOutside e
  unrefused named one (Collision id) (by_one s) = absurd (s.shows.1.other (same_Some _ _ (sym s.shows.1.present ∙ has.each s.object (among s.object s.among))))
  unrefused named one (Collision id) (by_two c) = absurd (c.differ (one.each c.a c.b (among c.a c.has_a) (among c.b c.has_b) (c.is_a ∙ sym c.is_b)))
  unrefused named one (Collision id) (by_itself h) = absurd h
  unrefused named one Failed s = tt
  unrefused named one (Damaged id found) (by_one s) =
      absurd (s.shows.1.other (s.shows.1.digest ∙ ap sha1 (same_Some _ _ (sym s.shows.1.present ∙ has.each s.object (among s.object s.among))) ∙ sym (named.each s.object (among s.object s.among))))
  unrefused named one (Damaged id found) (by_itself h) = absurd h
  unrefused named one NoMemory s = tt

  -- nothing of it comes
  none_comes : (n : Name) (f : File) → Brings d part n f → Nothing n f
  none_comes n f b = let e = sym b.one.absent ∙ ap (λ (x : Name). (d x).now) b.one.name ∙ has.each b.object (among b.object b.among) in none-some _ e

  -- where a part is prepared, all of it is
  prepared_whole : {X : Type 0} (d0 : Disk) (manifest : List ℕ) → AreNamed batch → IsOne batch → (r : Result X StoreFault) (d' : Disk) → Gains on_way Nothing d d' → Prepared d part manifest r d' → Prepared d0 batch manifest r d'
  prepared_whole d0 manifest named one (Ok x) d' g p = record { sure = p.sure; has = record { each = λ o c. kept g (file_name o.id) (data_off_way o.id) ∙ has.each o c } }
  prepared_whole d0 manifest named one (Err (Collision id)) d' g p = absurd (unrefused named one (Collision id) p.shown)
  prepared_whole d0 manifest named one (Err Failed) d' g p = one
  prepared_whole d0 manifest named one (Err (Damaged id found)) d' g p = absurd (unrefused named one (Damaged id found) p.shown)
  prepared_whole d0 manifest named one (Err NoMemory) d' g p = inl one

-- ---- both, call by call

module _ {V : Type 0} {disk : V → Option Disk} {count : V → ℕ} {left : V → ℕ → Files → Type 0} {X : Type 0} (r : Result X StoreFault) {d : Disk} {v0 v : V} where
  -- it isn't brought
  pub then_unbrought : (batch : List Object) (manifest : List ℕ) (e : StoreFault) → r ≡ Err e → Walks disk count left on_way (Brings d batch) (Shelved d batch {X = Unit {0}} (Err e)) d v0 v
      → Walks disk count left on_way (Brings d batch) (Prepared d batch manifest r) d v0 v
  then_unbrought batch manifest e is w = looser w (λ n f b. b) (λ d1 g s. rw is s)

  -- its record is prepared
  pub then_prepared : {v' : V} {u : Unit {0}} (others : List Object) (o : Object) (manifest : List ℕ) → AreNamed (others ++ o ∷ []) → Walks disk count left on_way (Brings d (others ++ o ∷ [])) (Shelved d (others ++ o ∷ []) {X = Unit {0}} (Ok u)) d v0 v
      → WhereTold (disk v) (λ d1. Walks disk count left on_way (Brings d1 (o ∷ [])) (Prepared d1 (o ∷ []) manifest r) d1 v v') → Walks disk count left on_way (Brings d (others ++ o ∷ [])) (Prepared d (others ++ o ∷ []) manifest r) d v0 v'
  then_prepared others o manifest named w h = bind w (λ n f b. b) (λ d1 told g s.
      let quiet = looser {B = Nothing} (h d1 told) (none_comes (others ++ o ∷ []) (o ∷ []) (Contains-append_right others (o ∷ [])) d1 s.1) (λ d2 g2 p. p) in
      looser quiet (λ n f b. absurd b) (λ d2 g2 p. prepared_whole (others ++ o ∷ []) (o ∷ []) (Contains-append_right others (o ∷ [])) d1 s.1 d manifest named s.0 r d2 g2 p))

-- ---- the line

module _ {V S : Type 0} {old mid : LineView V S} (dropped : IsDropped old mid) (new : LineView V S) where
  kept_then : AreKept mid new → AreKept old new
  kept_then k = record {
    name_ = k.name_ ∙ dropped.others.name_;
    signer_ = k.signer_ ∙ dropped.others.signer_;
    made_ = k.made_ ∙ dropped.others.made_;
    head_ = k.head_ ∙ dropped.others.head_;
    epoch_ = k.epoch_ ∙ dropped.others.epoch_;
    taken_ = k.taken_ ∙ dropped.others.taken_;
  }

  pub ready_then : (next : Record) (r : Result Head StoreFault) → IfOk r (λ head. IsReady mid next head new) → IfOk r (λ head. IsReady old next head new)
  ready_then next (Ok head) k = record { all = k.all ∙ ap (λ records. records ++ next ∷ []) dropped.published_; stage = k.stage; next_head = k.next_head; others = kept_then k.others }
  ready_then next (Err e) k = tt

  pub published_then : (r : Result Head StoreFault) → IfOk r (λ head. published new ≡ published mid) → IfOk r (λ head. published new ≡ published old)
  published_then (Ok head) k = k ∙ dropped.published_
  published_then (Err e) k = tt

  pub says_then : (is_seal : S → List ℕ → List ℕ → Bool) (r : Result Head StoreFault) → IfOk r (λ head. Publishes mid.name (is_seal mid.signer) (Some new.manifest) head) → IfOk r (λ head. Publishes old.name (is_seal old.signer) (Some new.manifest) head)
  says_then is_seal (Ok head) k =
      let named = subst (λ (name : List ℕ). Publishes name (is_seal mid.signer) (Some new.manifest) head) dropped.others.name_ k in
      subst (λ (signer : S). Publishes old.name (is_seal signer) (Some new.manifest) head) dropped.others.signer_ named
  says_then is_seal (Err e) k = tt

  pub dropped_then : (r : Result Head StoreFault) → OnErr r (IsDropped mid new) → OnErr r (IsDropped old new)
  dropped_then (Ok head) k = tt
  dropped_then (Err e) k = record { published_ = k.published_ ∙ dropped.published_; stage = k.stage; others = kept_then k.others }
