-- A client that is given what a server has of a tree.
use Rattle.std.proofs.Common.{◌≡◌, ◌↔◌, ℕ, List, [], ◌∷◌, refl, sym, ap, subst, ◌∙◌}
use Rattle.std.specs.Prelude.{Option, Some, None, option_to_list, Result, Ok, Err}
use Rattle.sha1.specs.Sha1.{sha1}
use Rattle.cv_base.specs.declared.id.ObjectId.{ObjectId}
use Rattle.cv_tree.specs.Tree.{Nodes}
use Rattle.cv_manifest.specs.declared.manifest.Manifest.{Manifest}
use Rattle.cv_manifest.specs.declared.manifest_fault.ManifestFault.{ManifestFault}
use Rattle.cv_manifest.specs.declared.manifest_fault.ManifestFault.TheVariants as manifest_fault
use Rattle.cv_resolver.specs.Giving.{Blames, EndsBy, IsOther, Takes}
use Rattle.cv_resolver.specs.Kept.{Kept, AreOwn}
use Rattle.cv_resolver.specs.Look.{Finding, IsAnswer}
use Rattle.cv_resolver.specs.Progress.{Begins}
use Rattle.cv_resolver.specs.Resolver.{Client, IsOn, IsAskedOn, Asks, Gives, question_of, wanted_in, answer_by, answer_in}
use Rattle.cv_resolver.specs.Stage.{IsStage, IsOfPeer, IsBlameless, wanted_by}
use Rattle.cv_resolver.specs.declared.question.Question.{Question}
use Rattle.cv_resolver.specs.declared.resolver.Asked.{Asked}
use Rattle.cv_resolver.specs.declared.found.Found.{Found}
use Rattle.cv_resolver.specs.declared.found.ClientFault.{ClientFault}
use Rattle.cv_resolver.specs.declared.found.ClientFault.TheVariants as fault
use Rattle.cv_resolver.specs.declared.stage.Stage.{Stage}
use Rattle.cv_resolver.specs.declared.stage.Stage.TheVariants.{Walks, Reads, Ends}
use Rattle.cv_client.specs.Answer.{told_by}
use Rattle.cv_client.specs.Exchange.{Links}
use Rattle.cv_client.specs.Faults.{lost_by, bad_by}
use Rattle.cv_client.specs.GivingInner.{GivesAll, all}
use Rattle.cv_client.specs.Served.{Files, HasObject, IsFetched, IsManifestOr, IsWholeOr}
use Rattle.cv_client.specs.ServedInner.{IsUnblamed, IsSupplied}
use Rattle.cv_client.specs.declared.exchanging.ExchangeFault.{ExchangeFault}
use Rattle.cv_client.specs.declared.exchanging.ExchangeFault.TheVariants as exchange_fault
use Rattle.cv_client.specs.declared.url.Url.{Url}
use Rattle.cv_client.proofs.Coming.{asked_of, asked_still, named_still}

-- one object is wanted
one_object : {o : Option ObjectId} {id other : ObjectId} → o ≡ Some id → o ≡ Some other → other ≡ id
one_object {o} {id} {other} wants is = let e : Some other ≡ Some id = sym is ∙ wants in cc

-- what the faults of a client tell
module _ (named : (r : List ℕ) (q : Question) (k after : Kept) (was s : Stage) (given : Option (List ℕ)) (f : ClientFault) (id : ObjectId) → Takes r q k was given after s → EndsBy s f → Blames f id → wanted_by was ≡ Some id)
    (not_served : (r : List ℕ) (q : Question) (k after : Kept) (was s : Stage) (given : Option (List ℕ)) (id : ObjectId) → wanted_by was ≡ Some id → Takes r q k was given after s → EndsBy s (fault.NotServed id) ↔ (given ≡ None))
    (bad_object : (r : List ℕ) (q : Question) (k after : Kept) (was s : Stage) (given : Option (List ℕ)) (id : ObjectId) → wanted_by was ≡ Some id → (found : List ℕ) → Takes r q k was given after s
    → EndsBy s (fault.BadObject id found) ↔ IsOther given id found) where
  module _ {name bytes : List ℕ} {q : Question} {k after : Kept} {was : Stage} {id : ObjectId} (t : Nodes) (wants : wanted_by was ≡ Some id) (digest : sha1 bytes ≡ id.hash) where
    unblamed_by : (f : ClientFault) → Takes name q k was (Some bytes) after (Ends (Err f)) → IsStage name t q (Ends (Err f)) → IsOfPeer f → ⊥
    unblamed_by (fault.BadObject other found) takes stage peer =
        let same = one_object wants (named name q k after was _ _ _ other takes refl refl) in
        let o = (bad_object name q k after was _ _ id wants found takes).0 (ap (λ (i : ObjectId). Ends (Err (fault.BadObject i found))) same) in
        let given = o.is in
        let e : bytes ≡ o.bytes = cc in
        o.differs (o.digest ∙ ap sha1 (sym e) ∙ digest)
    unblamed_by (fault.NotServed other) takes stage peer =
        let same = one_object wants (named name q k after was _ _ _ other takes refl refl) in
        let e = (not_served name q k after was _ _ id wants takes).0 (ap (λ (i : ObjectId). Ends (Err (fault.NotServed i))) same) in
        absurd cc
    unblamed_by (fault.BadCatalogue other) takes stage peer = stage
    unblamed_by fault.NotFound takes stage peer = peer
    unblamed_by fault.NotDirectory takes stage peer = peer
    unblamed_by fault.NotFile takes stage peer = peer
    unblamed_by fault.TooManyLinks takes stage peer = peer
    unblamed_by fault.NoMemory takes stage peer = peer

    blameless : (s : Stage) → Takes name q k was (Some bytes) after s → IsStage name t q s → IsBlameless s
    blameless (Walks w) takes stage = tt
    blameless (Reads hash) takes stage = tt
    blameless (Ends (Ok found)) takes stage = tt
    blameless (Ends (Err f)) takes stage = unblamed_by f takes stage

  -- an object of the tree was given
  pub one_supplied : {r next : Client} (t : Nodes) (id : ObjectId) (files : Files) (x : Option (List ℕ)) (h : HasObject files t id) → IsFetched h.content (Ok x) → wanted_in r.asked ≡ Some id
      → ((a : Asked) → r.asked ≡ Some a → Gives r a x next) → (AreOwn t (option_to_list x) → IsOn t next) → IsOn t next × IsUnblamed next.asked
  one_supplied t id files None h got wants gives on = absurd got
  one_supplied {r} {next} t id files (Some bytes) h got wants gives on =
      let a = asked_of r.asked id wants in
      let g = gives a.0 a.1 in
      let there : IsOn t next = on (subst (λ (b : List ℕ). AreOwn t (b ∷ [])) (sym got) h.own) in
      let asked : next.asked ≡ Some (record a.0 { stage = g.stage }) = ap (λ (c : Client). c.asked) g.is in
      let name : next.name ≡ r.name = ap (λ (c : Client). c.name) g.is in
      let stage : IsStage r.name t a.0.question g.stage = subst (λ (n : List ℕ). IsAskedOn n t (Some (record a.0 { stage = g.stage }))) name (subst (IsAskedOn next.name t) asked there.asked) in
      let wanted : wanted_by a.0.stage ≡ Some id = ap wanted_in (sym a.1) ∙ wants in
      (there, subst IsUnblamed (sym asked) (blameless t wanted (ap sha1 got ∙ h.digest) g.stage g.takes stage))

-- ---- the answer

-- a question that was asked is on its way
pub asks_well : {r start : Client} {q : Question} → ((r root : List ℕ) (q : Question) (k after : Kept) (s : Stage) → Begins r root q k after s → IsBlameless s) → Asks r q start → IsUnblamed start.asked
asks_well {r} {start} {q} begun asks =
    subst IsUnblamed (sym (ap (λ (c : Client). c.asked) asks.is)) (begun r.name r.root q r.cache start.cache asks.stage asks.begins)

pub asks_for : {r start : Client} {q : Question} → Asks r q start → question_of start ≡ Some q
asks_for asks = ap question_of asks.is

pub asks_as : {r start : Client} {q : Question} → Asks r q start → start.name ≡ r.name
asks_as asks = ap (λ (c : Client). c.name) asks.is

-- and ends under its name
pub ends_as : {u : Url} {l l' : Links} {start end : Client} → GivesAll u l l' start end (Ok tt) → end.name ≡ start.name
ends_as (all gone none) = named_still gone.comes

pub ends_for : {u : Url} {l l' : Links} {start end : Client} {q : Question} → question_of start ≡ Some q → GivesAll u l l' start end (Ok tt) → question_of end ≡ Some q
ends_for {q = q} asked (all gone none) = asked_still q gone.comes asked

whole_by : (finding : Result Finding ClientFault) (f : ClientFault) → IsAnswer finding (Err f) → (IsOfPeer f → ⊥) → IsWholeOr finding (told_by (Err f))
whole_by finding (fault.BadObject id found) is unblamed = absurd (unblamed tt)
whole_by finding (fault.BadCatalogue id) is unblamed = absurd is
whole_by finding (fault.NotServed id) is unblamed = absurd (unblamed tt)
whole_by finding fault.NotFound is unblamed = is
whole_by finding fault.NotDirectory is unblamed = is
whole_by finding fault.NotFile is unblamed = is
whole_by finding fault.TooManyLinks is unblamed = is
whole_by finding fault.NoMemory is unblamed = tt

by_stage : (finding : Result Finding ClientFault) (s : Stage) (a : Result Found ClientFault) → s ≡ Ends a → IsBlameless s → IsAnswer finding a → IsWholeOr finding (told_by a)
by_stage finding s (Ok found) is unblamed answer = answer
by_stage finding s (Err f) is unblamed answer = whole_by finding f answer (subst IsBlameless is unblamed)

pub ended_at : (s : Stage) (a : Result Found ClientFault) → answer_by s ≡ Some a → s ≡ Ends a
ended_at (Walks w) a is = absurd cc
ended_at (Reads hash) a is = absurd cc
ended_at (Ends b) a is = cc

pub whole : (finding : Result Finding ClientFault) (o : Option Asked) (a : Result Found ClientFault) → answer_in o ≡ Some a → IsUnblamed o → IsAnswer finding a → IsWholeOr finding (told_by a)
whole finding None a is unblamed answer = absurd cc
whole finding (Some asked) a is unblamed answer = by_stage finding asked.stage a (ended_at asked.stage a is) unblamed answer

-- or an object wasn't fetched
pub not_whole : (finding : Result Finding ClientFault) (t : Nodes) (r : Client) (f : ExchangeFault) → IsSupplied t r (Err f) → IsWholeOr finding (Err (lost_by f))
not_whole finding t r exchange_fault.LinkFailed is = tt
not_whole finding t r exchange_fault.BadReply is = absurd is
not_whole finding t r exchange_fault.NoMemory is = tt

pub unfetched : (m : Manifest) (content : List ℕ) (f : ExchangeFault) → IsFetched content (Err f) → IsManifestOr m (Err (lost_by f))
unfetched m content exchange_fault.LinkFailed is = tt
unfetched m content exchange_fault.BadReply is = absurd is
unfetched m content exchange_fault.NoMemory is = tt

pub no_memory_for : (m : Manifest) (f : ManifestFault) → f ≡ manifest_fault.NoMemory → IsManifestOr m (Err (bad_by f))
no_memory_for m f is = subst (λ (x : ManifestFault). IsManifestOr m (Err (bad_by x))) (sym is) tt

pub unsupplied : (t : Nodes) (r : Client) (content : List ℕ) (f : ExchangeFault) → IsFetched content (Err f) → IsSupplied t r (Err f)
unsupplied t r content exchange_fault.LinkFailed is = tt
unsupplied t r content exchange_fault.BadReply is = absurd is
unsupplied t r content exchange_fault.NoMemory is = tt
