-- Batches, object by object.
use Rattle.std.proofs.Common.{◌≡◌, ◌≢◌, ℕ, false, List, [], ◌∷◌, ◌++◌, take, length, ◌<◌, ◌+◌, get_or, refl, sym, ap, subst, ◌∙◌, inl, inr, arith}
use Rattle.std.specs.List.{Contains}
use Rattle.sha1.specs.Sha1.{sha1}
use Rattle.std.proofs.lemmas.List.Elements.{Contains-push_cases}
use Rattle.std.specs.declared.option.Option.TheVariants.{None, Some}
use Rattle.cv_base.specs.Digest.{IsDigest}
use Rattle.cv_base.specs.ObjectId.{file_name}
use Rattle.cv_base.specs.declared.object.Object.{Object}
use Rattle.cv_base.proofs.Laws.{digest_sha1, one_file_name, item_there}
use Rattle.cv_vault.specs.Names.{Name, on_way}
use Rattle.cv_vault.specs.Disk.{Disk, Slot, File, Settled, IsCalm, slot}
use Rattle.cv_vault.specs.Walks.{Nothing, Gains, Change, Stays, Comes}
use Rattle.cv_vault.proofs.Laws.{same_or_not}
use Rattle.cv_objects.specs.Names.{way_name}
use Rattle.cv_base.specs.Objects.{AreNamed}
use Rattle.cv_objects.specs.Batches.{IsReady, is_there, is_coming, IsApart, BringsOne, Brings, IsOne, AreReady, Has, SparesOthers, Shows, ShownIn, by_one, by_two, by_itself}
use Rattle.cv_objects.specs.BatchesInner.{Waits, IsWritten, IsPlaced, IsApartFrom, AllWait, stands, can}
use Rattle.cv_objects.specs.declared.store_fault.StoreFault.{StoreFault}
use Rattle.cv_objects.specs.declared.store_fault.StoreFault.TheVariants.{Collision, Failed, Damaged, NoMemory}
use Rattle.cv_objects.proofs.Naming.{way_is, data_not_way, data_off_way}
use Rattle.cv_objects.proofs.Lists.{earlier, last_or_earlier}

-- nothing came
pub kept : {d d' : Disk} → Gains on_way Nothing d d' → (n : Name) → on_way n ≡ false → (d' n).now ≡ (d n).now
kept {d} {d'} g n w = by (g.each n w)
  where
    by : Change (Nothing n) (d n) (d' n) → (d' n).now ≡ (d n).now
    by (Stays s l) = s
    by (Comes b l) = absurd b

pub is_digest_of : (batch : List Object) (o : Object) → AreNamed batch → Contains batch o → IsDigest o.id.hash
is_digest_of batch o named h = subst IsDigest (sym (named.each o h)) (digest_sha1 o.bytes)

same_stands : (d : Disk) (o a : Object) → o.id ≡ a.id → o.bytes ≡ a.bytes → (d (file_name o.id)).now ≡ Some o.bytes → (d (file_name a.id)).now ≡ Some a.bytes
same_stands d o a n b t = rw (← n, ← b) t

same_ready : (d : Disk) (o a : Object) → o.id ≡ a.id → o.bytes ≡ a.bytes → IsReady d o → IsReady d a
same_ready d o a n b (is_there t) = is_there (same_stands d o a n b t)
same_ready d o a n b (is_coming s t) = is_coming (rw (← n) s) (rw (← n, ← b) t)

ready_on : (d d' : Disk) (o a : Object) → (way_name a.id ≢ way_name o.id) → ((n : Name) → n ≢ way_name o.id → d' n ≡ d n) → IsReady d a → IsReady d' a
ready_on d d' o a apart others (is_there t) = is_there (ap (λ (s : Slot). s.now) (others (file_name a.id) (data_not_way a.id o.id)) ∙ t)
ready_on d d' o a apart others (is_coming s t) = is_coming (ap (λ (s : Slot). s.now) (others (file_name a.id) (data_not_way a.id o.id)) ∙ s) (ap (λ (s : Slot). s.now) (others (way_name a.id) apart) ∙ t)

pub ready_more : (batch : List Object) (i : ℕ) (o : Object) (d d' : Disk) → AreNamed batch → IsOne batch → i < length batch → o ≡ get_or batch i o → AreReady d (take i batch) → IsWritten d o d' → AreReady d' (take (i + 1) batch)
ready_more batch i o d d' named one lt is r w = record {
  each = λ a h. elim (last_or_earlier batch i o a lt is h) [
    | inl old ↦ elim (same_or_not (way_name a.id) (way_name o.id)) [
      | inl e ↦ let n : o.id ≡ a.id = sym (way_is a.id o.id (is_digest_of batch a named (earlier batch i a old)) (is_digest_of batch o named (item_there batch i o lt is)) e) in same_ready d' o a n (one.each o a (item_there batch i o lt is) (earlier batch i a old) n) w.ready
      | inr ne ↦ ready_on d d' o a ne w.others (r.each a old)
    ]
    | inr e ↦ subst (IsReady d') e w.ready
  ];
}

pub ready_none : (batch : List Object) (d : Disk) → AreReady d (take 0 batch)
ready_none batch d = record { each = λ o h. absurd (let lt = h.1 in omega arith) }

-- those under way can be brought, once all is settled
pub all_wait : (batch : List Object) (d : Disk) → IsCalm d → AreReady d batch → AllWait d batch
all_wait batch d calm r = record { each = λ o h. by o (r.each o h) }
  where
    settled : (n : Name) (f : File) → (d n).now ≡ f → d n ≡ slot f Settled
    settled n f e = λ i. record { now = e i; mark = calm n i }

    by : (o : Object) → IsReady d o → Waits d o
    by o (is_there t) = stands t
    by o (is_coming s t) = can (settled _ _ s) (settled _ _ t)

-- where a batch is, while it is brought
pub record Half (d : Disk) (batch done : List Object) : Type 0 where
  pub wait : AllWait d batch
  pub has : Has d done

waits_on : (d d' : Disk) (o a : Object) → (file_name a.id ≢ file_name o.id) → (way_name a.id ≢ way_name o.id) → ((n : Name) → n ≢ way_name o.id → n ≢ file_name o.id → d' n ≡ d n) → Waits d a → Waits d' a
waits_on d d' o a apart ways others (stands t) = stands (ap (λ (s : Slot). s.now) (others (file_name a.id) (data_not_way a.id o.id) apart) ∙ t)
waits_on d d' o a apart ways others (can s t) = can (others (file_name a.id) (data_not_way a.id o.id) apart ∙ s) (others (way_name a.id) ways (λ e. data_not_way o.id a.id (sym e)) ∙ t)

pub half_more : (batch : List Object) (i : ℕ) (o : Object) (d d' : Disk) → AreNamed batch → IsOne batch → i < length batch → o ≡ get_or batch i o → Half d batch (take i batch) → IsPlaced d o d' → Half d' batch (take (i + 1) batch)
half_more batch i o d d' named one lt is half p = record {
  wait = record {
    each = λ a h. elim (same_or_not (file_name a.id) (file_name o.id)) [
      | inl e ↦ let n : o.id ≡ a.id = same a h e in stands (same_stands d' o a n (one.each o a has h n) p.there)
      | inr ne ↦ waits_on d d' o a ne (λ e. ne (ap file_name (way_is a.id o.id (is_digest_of batch a named h) (is_digest_of batch o named has) e))) p.others (half.wait.each a h)
    ];
  };
  has = record {
    each = λ a h. elim (last_or_earlier batch i o a lt is h) [
      | inl old ↦ elim (same_or_not (file_name a.id) (file_name o.id)) [
        | inl e ↦ let n : o.id ≡ a.id = same a (earlier batch i a old) e in same_stands d' o a n (one.each o a has (earlier batch i a old) n) p.there
        | inr ne ↦ ap (λ (s : Slot). s.now) (p.others (file_name a.id) (data_not_way a.id o.id) ne) ∙ half.has.each a old
      ]
      | inr e ↦ subst (λ (x : Object). (d' (file_name x.id)).now ≡ Some x.bytes) e p.there
    ];
  };
}
  where
    has : Contains batch o
    has = item_there batch i o lt is

    same : (a : Object) → Contains batch a → file_name a.id ≡ file_name o.id → o.id ≡ a.id
    same a h e = sym (one_file_name a.id o.id (is_digest_of batch a named h) (is_digest_of batch o named has) e)

pub half_none : (batch : List Object) (d : Disk) → AllWait d batch → Half d batch (take 0 batch)
half_none batch d w = record { wait = w; has = record { each = λ o h. absurd (let lt = h.1 in omega arith) } }

-- what is absent on the way was absent at the start
pub absent_first : {batch : List Object} {d d' : Disk} → Gains on_way (Brings d batch) d d' → (n : Name) → on_way n ≡ false → (d' n).now ≡ None → (d n).now ≡ None
absent_first {batch} {d} {d'} g n w e = by (g.each n w)
  where
    by : Change (Brings d batch n) (d n) (d' n) → (d n).now ≡ None
    by (Stays s l) = sym s ∙ e
    by (Comes b l) = let x = b.one.file in absurd (cc)

pub brings_on : {batch : List Object} {d d' : Disk} (o : Object) → Contains batch o → Gains on_way (Brings d batch) d d' → (n : Name) (f : File) → BringsOne d' o n f → Brings d batch n f
brings_on o h g n f b = record { object = o; among = h; one = record { name = b.name; file = b.file; absent = absent_first g n (rw b.name (data_off_way o.id)) b.absent } }

pub brings_nothing : {batch : List Object} {d : Disk} (n : Name) (f : File) → Nothing n f → Brings d batch n f
brings_nothing n f b = absurd b

pub brings_later : {batch : List Object} {d d' : Disk} → Gains on_way Nothing d d' → (n : Name) (f : File) → Brings d' batch n f → Brings d batch n f
brings_later g n f b = record { object = b.object; among = b.among; one = record { name = b.one.name; file = b.one.file; absent = sym (kept g n (rw b.one.name (data_off_way b.object.id))) ∙ b.one.absent } }

-- what is shown later was shown before, where nothing came
shows_first : {d d' : Disk} (o : Object) (e : StoreFault) → Gains on_way Nothing d d' → Shows d' o e → Shows d o e
shows_first o (Collision id) g h = (h.0, record { bytes = h.1.bytes; present = sym (kept g (file_name o.id) (data_off_way o.id)) ∙ h.1.present; other = h.1.other; hash = h.1.hash })
shows_first o Failed g h = tt
shows_first o (Damaged id found) g h = (h.0, record { bytes = h.1.bytes; present = sym (kept g (file_name o.id) (data_off_way o.id)) ∙ h.1.present; digest = h.1.digest; other = h.1.other })
shows_first o NoMemory g h = tt

pub shown_first : {batch : List Object} {d d' : Disk} (e : StoreFault) → Gains on_way Nothing d d' → ShownIn d' batch e → ShownIn d batch e
shown_first e g (by_one s) = by_one (record { object = s.object; among = s.among; shows = shows_first s.object e g s.shows })
shown_first e g (by_two c) = by_two c
shown_first e g (by_itself h) = by_itself h

-- an object is put on its way behind others
pub wrote_then : {d d1 : Disk} (batch : List Object) (o : Object) (e : StoreFault) → Contains batch o → Gains on_way Nothing d d1 → Shows d1 o e → ShownIn d batch e
wrote_then batch o e h g w = shown_first e g (by_one (record { object = o; among = h; shows = w }))

-- ---- the names apart from a batch

pub placed_others : {batch : List Object} {d d1 d2 : Disk} (o : Object) → Contains batch o → SparesOthers d batch d1 → IsPlaced d1 o d2 → SparesOthers d batch d2
placed_others o h k p = record { each = λ n apart. p.others n (apart.way o h) (apart.name o h) ∙ k.each n apart }

-- the names apart from a batch are so from each object of it
pub apart_from : {batch : List Object} (o : Object) → Contains batch o → (n : Name) → IsApart batch n → IsApartFrom o n
apart_from o h n apart = record { way = apart.way o h; name = apart.name o h }

pub spares_all : {batch : List Object} {d : Disk} → SparesOthers d batch d
spares_all = record { each = λ n apart. refl }

-- ---- batches that are built

pub named_none : AreNamed []
named_none = record { each = λ o h. absurd (let lt = h.1 in omega arith) }

-- an object more that has its id
pub named_more : (batch : List Object) (o : Object) → AreNamed batch → o.id.hash ≡ sha1 o.bytes → AreNamed (batch ++ o ∷ [])
named_more batch o named is = record { each = λ a h. elim (Contains-push_cases batch o a h) [ inl old ↦ named.each a old | inr e ↦ subst (λ (x : Object). x.id.hash ≡ sha1 x.bytes) e is ] }
