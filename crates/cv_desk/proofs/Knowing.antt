-- Known catalogues stay whole while objects come to the disk.
use Rattle.std.proofs.Common.{◌≡◌, ℕ, Bool, true, false, List, refl, sym, ap, subst, ◌∙◌, inl, inr}
use Rattle.std.specs.Prelude.{◌⊎◌, OnOk, IfErr}
use Rattle.std.specs.declared.option.Option.{Option}
use Rattle.std.specs.declared.option.Option.TheVariants.{None, Some}
use Rattle.std.specs.declared.result.Result.{Result}
use Rattle.std.specs.declared.result.Result.TheVariants.{Ok, Err}
use Rattle.cv_base.specs.Path.{Path}
use Rattle.cv_base.specs.Told.{WhereTold}
use Rattle.cv_base.specs.declared.id.ObjectId.{ObjectId}
use Rattle.cv_base.specs.declared.object.Object.{Object}
use Rattle.cv_base.specs.ObjectId.{file_name, object_id}
use Rattle.cv_base.specs.declared.id.Kind.TheVariants.{Catalogue}
use Rattle.cv_ports.specs.Shelf.{Shelf, HasMore}
use Rattle.cv_vault.specs.Names.{Name, on_way}
use Rattle.cv_vault.specs.Disk.{Disk, File, Files, files_now}
use Rattle.cv_vault.specs.Moments.{OnlyReads}
use Rattle.cv_vault.specs.Walks.{Stays, Comes, Gains, Walks, Nothing, ComesTo}
use Rattle.cv_vault.proofs.Laws.{quiet_same}
use Rattle.cv_load.specs.Known.{is_known, HasPair, AreKnown, IsWholePair, AreWhole}
use Rattle.cv_load.specs.NewFetches.{ReachesNew, HasNew}
use Rattle.cv_load.specs.declared.known_set.KnownSet.{KnownSet}
use Rattle.cv_load.proofs.Lemmas.{known_more, each_all}
use Rattle.cv_cut.specs.Good.{IsGood, IsWholeAt}
use Rattle.cv_cut.specs.Reached.{Place, root_place}
use Rattle.cv_cut.specs.declared.load_fault.LoadFault.{LoadFault}
use Rattle.cv_cut.specs.declared.load_fault.LoadFault.TheVariants as load
use Rattle.cv_objects.specs.Names.{is_digest, standing_on}
use Rattle.cv_objects.specs.Batches.{Brings}
use Rattle.cv_objects.proofs.Lemmas.{digest_back}
use Rattle.cv_swap.specs.Line.{LineView, LineReads}
use Rattle.cv_swap.specs.Stands.{head_name}
use Rattle.cv_swap.proofs.Lemmas.{head_not_data}
use Rattle.cv_gate.specs.declared.reply.Reply.{Reply}
use Rattle.cv_gate.specs.declared.reply.Reply.TheVariants as reply
use Rattle.cv_desk.specs.Committing.{reply_at}
use Rattle.cv_desk.specs.CommittingInner.{Offers}
use Rattle.cv_desk.specs.Known.{Remembers, Learns, LearnsWhole, refuses_new, KnowsOn}
use Rattle.cv_desk.specs.KnownInner.{KnowsWhole}
use Rattle.cv_desk.specs.Refusals.{is_unmade}
use Rattle.cv_desk.proofs.Names.{at_digest}

-- where what comes to the name of an object comes to no file, no object is lost or changed
grown : (B : Name → File → Type 0) (d d' : Disk) → ((id : ObjectId) (f : File) → B (file_name id) f → (d (file_name id)).now ≡ None) → Gains on_way B d d' → HasMore (standing_on d) (standing_on d')
grown B d d' absent g id bytes told = by (is_digest id.hash) refl
  where
    stays : (d (file_name id)).now ≡ Some bytes → (d' (file_name id)).now ≡ Some bytes
    stays there = elim (g.each (file_name id) refl) [
      | Stays same less ↦ same ∙ there
      | Comes came less ↦ absurd (let e : None ≡ Some bytes = sym (absent id (d' (file_name id)).now came) ∙ there in cc)
    ]

    by : (b : Bool) → is_digest id.hash ≡ b → standing_on d' id ≡ Some bytes
    by true is = at_digest (files_now d') id (digest_back id.hash is) ∙ stays (sym (at_digest (files_now d) id (digest_back id.hash is)) ∙ told)
    by false other =
        let unseen : standing_on d id ≡ None = rw other refl in
        absurd (let e : None ≡ Some bytes = sym unseen ∙ told in cc)

-- nothing is known of an empty set
pub none_known : {V : Type 0} (disk : V → Option Disk) (v : V) (known : KnownSet) → ((hash : List ℕ) (path : Path) → is_known known hash path ≡ false) → KnowsWhole disk v known
none_known disk v known none = λ d told hash path is. absurd (let no = none hash path in cc)

module _ {V : Type 0} (disk : V → Option Disk) (count : V → ℕ) (left : V → ℕ → Files → Type 0) (known : KnownSet) (v v' : V) where
  pub known_read : OnlyReads disk count left v v' → KnowsWhole disk v known → KnowsWhole disk v' known
  known_read reads all = λ d told. all d (sym (quiet_same reads) ∙ told)

  module _ (silent : disk v ≡ None → disk v' ≡ None) (E : Disk → Disk → Type 0) where
    known_walked : (B : Disk → Name → File → Type 0) → ((d : Disk) (id : ObjectId) (f : File) → B d (file_name id) f → (d (file_name id)).now ≡ None)
        → WhereTold (disk v) (λ d. Walks disk count left on_way (B d) (E d) d v v') → KnowsWhole disk v known → KnowsWhole disk v' known
    known_walked B absent walks all = λ d' told. by (disk v) refl d' told
      where
        by : (o : Option Disk) → disk v ≡ o → (d' : Disk) → disk v' ≡ Some d' → AreKnown (standing_on d') known
        by None e d' told = absurd (let x : None ≡ Some d' = sym (silent e) ∙ told in cc)
        by (Some d) e d' told =
            let w = walks d e in
            let more : AreKnown (standing_on w.end) known = known_more (standing_on d) (standing_on w.end) known (grown (B d) d w.end (absent d) w.gains) (all d e) in
            let same : w.end ≡ d' = (let x : Some w.end ≡ Some d' = sym w.told ∙ told in cc) in
            subst (λ (x : Disk). AreKnown (standing_on x) known) same more

    pub known_brought : (batch : List Object) → WhereTold (disk v) (λ d. Walks disk count left on_way (Brings d batch) (E d) d v v') → KnowsWhole disk v known → KnowsWhole disk v' known
    known_brought batch = known_walked (λ d. Brings d batch) (λ d id f b. b.one.absent)

    pub known_swapped : (manifest : List ℕ) → WhereTold (disk v) (λ d. Walks disk count left on_way (ComesTo head_name (Some manifest)) (E d) d v v') → KnowsWhole disk v known → KnowsWhole disk v' known
    known_swapped manifest = known_walked (λ d. ComesTo head_name (Some manifest)) (λ d id f came. absurd (head_not_data id (sym came.0)))

    pub known_settled : WhereTold (disk v) (λ d. Walks disk count left on_way Nothing (E d) d v v') → KnowsWhole disk v known → KnowsWhole disk v' known
    known_settled = known_walked (λ d. Nothing) (λ d id f never. absurd never)

-- where only pairs are added that are whole, no other comes to be known
pub learned_whole : (shelf : Shelf) (known more : KnownSet) (pairs : List (ObjectId × Path)) → AreWhole shelf pairs → ((h : List ℕ) (p : Path) → is_known more h p ≡ true → (is_known known h p ≡ true) ⊎ HasPair pairs h p) → LearnsWhole shelf known more
learned_whole shelf known more pairs whole only = λ h p is. elim (only h p is) [
  | inl was ↦ inl was
  | inr has ↦ inr (subst (λ (x : List ℕ). IsWholeAt shelf x p) has.hash_ (subst (λ (x : Path). IsWholeAt shelf has.pair.0.hash x) has.path_ (each_all (IsWholePair shelf) pairs whole has.pair has.among).whole))
]

-- then all that is known is whole, if it was
pub known_judged : {V S : Type 0} (disk : V → Option Disk) (count : V → ℕ) (left : V → ℕ → Files → Type 0) (line judged : LineView V S) → LineReads disk count left line judged → (known more : KnownSet)
    → KnowsWhole disk line.vault known → WhereTold (disk line.vault) (λ d. LearnsWhole (standing_on d) known more) → KnowsWhole disk judged.vault more
known_judged disk count left line judged reads known more all only = λ d told h p is.
    let there : disk line.vault ≡ Some d = sym (quiet_same reads.0) ∙ told in
    elim (only d there h p is) [ inl was ↦ all d there h p was | inr whole ↦ whole ]

pub learned : (shelf : Shelf) (known more : KnownSet) (offered : List ℕ) (pairs : List (ObjectId × Path)) → HasNew shelf known offered pairs → Remembers known more → (r : Result (Unit {0}) Reply)
    → OnOk r ((h : List ℕ) (p : Path) → HasPair pairs h p → is_known more h p ≡ true) → OnOk r (Learns shelf known offered more)
learned shelf known more offered pairs new kept (Err o) added = tt
learned shelf known more offered pairs new kept (Ok done) added = λ hash place reached. by hash place reached (is_known known hash place.path) refl
  where
    by : (hash : List ℕ) (place : Place) → ReachesNew shelf known offered hash place → (b : Bool) → is_known known hash place.path ≡ b → is_known more hash place.path ≡ true
    by hash place reached true was = kept hash place.path was
    by hash place reached false unknown = added hash place.path (record { pair = (object_id hash Catalogue, place.path); among = new hash place reached unknown; hash_ = refl; path_ = refl })

-- where there was no memory for it, that is what is answered
pub offers_learnt : (shelf : Shelf) (offered : List ℕ) (r : Result (Unit {0}) Reply) → IfErr r (λ o. o ≡ reply.NoMemory) → IsGood shelf offered root_place → Offers shelf offered r
offers_learnt shelf offered (Ok done) memory is = is
offers_learnt shelf offered (Err o) memory is = (load.NoMemory, tt, memory)

pub unmade_learnt : (r : Result (Unit {0}) Reply) → IfErr r (λ o. o ≡ reply.NoMemory) → IfErr r (λ o. is_unmade o ≡ true)
unmade_learnt (Ok done) memory = tt
unmade_learnt (Err o) memory = ap is_unmade memory

-- ---- what is known behind an answer

-- no answer to a fault of the offered root refuses what is looked at behind it
not_new_at : (x : LoadFault) → refuses_new (reply_at x) ≡ false
not_new_at (load.Missing id) = refl
not_new_at (load.Bad id) = refl
not_new_at load.Failed = refl
not_new_at (load.Damaged id found) = refl
not_new_at load.NoMemory = refl

module _ {V : Type 0} (disk : V → Option Disk) (v : V) (known : KnownSet) (offered : List ℕ) (more : KnownSet) where
  -- the offered root wasn't found whole
  pub knows_unjudged : {X : Type 0} → Remembers known more → WhereTold (disk v) (λ d. LearnsWhole (standing_on d) known more) → (r : Reply) → WhereTold (disk v) (λ d. Offers (standing_on d) offered (Err r)) → KnowsOn {X = X} disk v known offered (Err r) more
  knows_unjudged remembers only r why = record {
    remembers = remembers;
    only = only;
    learns = λ was d told.
        let f = why d told in
        absurd (let e : true ≡ false = sym was ∙ ap refuses_new f.2 ∙ not_new_at f.0 in cc);
  }

  -- it was
  pub knows_judged : {X : Type 0} (r : Result X Reply) → Remembers known more → WhereTold (disk v) (λ d. Learns (standing_on d) known offered more) → WhereTold (disk v) (λ d. LearnsWhole (standing_on d) known more) → KnowsOn disk v known offered r more
  knows_judged r remembers learns only = record { remembers = remembers; learns = λ was. learns; only = only }

  -- the same answer, or any where it was found whole
  pub knows_same : {X Y : Type 0} (r : Reply) → KnowsOn {X = X} disk v known offered (Err r) more → KnowsOn {X = Y} disk v known offered (Err r) more
  knows_same r k = record { remembers = k.remembers; learns = k.learns; only = k.only }

  pub knows_behind : {X Y : Type 0} (x : X) (r : Result Y Reply) → KnowsOn disk v known offered (Ok x) more → KnowsOn disk v known offered r more
  knows_behind x r k = knows_judged r k.remembers (k.learns tt) k.only
