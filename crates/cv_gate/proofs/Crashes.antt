-- What a crash leaves.
use Rattle.std.proofs.Common.{◌≡◌, ◌⊎◌, ◌<◌, true, false, cond, ℕ, List, [], ◌∷◌, ◌++◌, refl, sym, ap, subst, ◌∙◌, inl, inr, arith}
use Rattle.std.proofs.lemmas.Option.{same_Some}
use Rattle.std.specs.declared.option.Option.{Option}
use Rattle.std.specs.declared.option.Option.TheVariants.{None, Some}
use Rattle.sha1.specs.Sha1.{sha1}
use Rattle.cv_base.specs.Path.{Path}
use Rattle.cv_base.specs.declared.id.ObjectId.{ObjectId}
use Rattle.cv_base.specs.declared.object.Object.{Object}
use Rattle.cv_base.specs.declared.token.Token.{Token}
use Rattle.cv_base.specs.Token.{last_number}
use Rattle.cv_base.specs.Moment.{IsMoment}
use Rattle.cv_ports.specs.Shelf.{Shelf, IsShelf, HasMore}
use Rattle.cv_cut.proofs.Lemmas.{none_there}
use Rattle.cv_base.specs.Objects.{AreNamed}
use Rattle.cv_objects.specs.Batches.{IsGained}
use Rattle.cv_swap.specs.Kept.{AreSound, Kept, IsKept}
use Rattle.cv_gate.specs.State.{State, aged, Settled, certain, unmade, published}
use Rattle.cv_gate.specs.Objects.{GainsSome, GainsAll}
use Rattle.cv_gate.specs.Commits.{made}
use Rattle.cv_gate.specs.Step.{IsFault, StoreStep, IsValid, Step}
use Rattle.cv_gate.specs.Sound.{sure, Sound}
use Rattle.cv_gate.specs.Kept.{kept, reopened, Pending, WouldCommit, BringsObjects, nothing as brings_nothing, Left, stays, goes, comes, Crash}
use Rattle.cv_gate.specs.Laws.{is_committed, Numbers}
use Rattle.cv_gate.specs.declared.op.Op.{Op}
use Rattle.cv_gate.specs.declared.op.Op.TheVariants as op
use Rattle.cv_gate.specs.declared.reply.Reply.{Reply}
use Rattle.cv_gate.specs.declared.reply.Reply.TheVariants as reply
use Rattle.cv_gate.specs.declared.entry.Entry.{Entry}
use Rattle.cv_gate.proofs.Effects.{IsPublished, IsWanted, AreSent, Effect, nothing, gains, stores, grants, cancels, publishes, wavers, of_act}
use Rattle.cv_swap.proofs.Lemmas.{line_more}
use Rattle.cv_gate.proofs.Shelves.{some_of_all, keeps_all_sure}
use Rattle.cv_gate.proofs.Growth.{as_before, none_left, as_it_was, made as made_too, by_settling, history_of, doubt_of}
use Rattle.cv_gate.proofs.Keeping.{IsSettled}
use Rattle.cv_gate.proofs.Keeping as keeping
use Rattle.cv_gate.proofs.Tokens as tokens

-- ---- opening

-- what is kept of a sound state is sound, and so is the state that is opened on it
pub kept_of : (st : State) → Sound st → IsKept (kept st)
kept_of st h = record { sound = h.kept; epoch = h.epoch }

pub opened : (k : Kept) → IsKept k → k.epoch < last_number → Sound (reopened k)
opened k h room = record {
  kept = h.sound;
  sure_line = line_more k.shelf (sure (reopened k)) k.history (keeps_all_sure (reopened k) (λ id. refl)) h.sound.line;
  loose = λ id is. absurd cc;
  moment = omega arith;
  epoch = omega (arith, room);
  next = omega arith;
  leases = record {
    table = record {
      apart = λ i j d below within. absurd (omega (arith, within));
      tokens = λ i j d below within. absurd (omega (arith, within));
      deadlines = λ i j d below within. absurd (omega (arith, within));
      paths = tt;
      count = omega arith;
    };
    granted = tt;
  };
  held = tt;
  undisturbed = tt;
  doubt = tt;
}

-- ---- the shelf

-- settling changes no shelf
pub record IsSameShelf (st settled : State) : Type 0 where
  pub shelf : settled.shelf ≡ st.shelf
  pub loose : settled.loose ≡ st.loose

pub same_shelf : (st settled : State) → Settled st settled → IsSameShelf st settled
same_shelf st settled s = by s
  where
    is : {x : State} → settled ≡ x → x.shelf ≡ st.shelf → x.loose ≡ st.loose → IsSameShelf st settled
    is e a b = record { shelf = ap (λ (y : State). y.shelf) e ∙ a; loose = ap (λ (y : State). y.loose) e ∙ b }

    by : Settled st settled → IsSameShelf st settled
    by (certain calm e) = is e refl refl
    by (unmade new some e) = is e refl refl
    by (published new some e) = is e refl refl

-- what is left of a shelf has all that was sure
left_keeps : (st : State) (objects : List Object) (s : Shelf) → ((id : ObjectId) → Left st objects id (s id)) → HasMore (sure st) s
left_keeps st objects s left = λ id bytes is.
    elim (st.loose id) as (λ l. st.loose id ≡ l → cond l None (st.shelf id) ≡ Some bytes → s id ≡ Some bytes) [
      | true ↦ λ _ none. absurd cc
      | false ↦ λ tight there. elim (left id) [
        | stays same ↦ same ∙ there
        | goes lo gone ↦ absurd cc
        | comes gained ↦ (let absent = gained.absent in absurd cc)
      ]
    ] refl is

left_hashes : (st : State) (objects : List Object) (s : Shelf) → AreNamed objects → IsShelf st.shelf → ((id : ObjectId) → Left st objects id (s id)) → IsShelf s
left_hashes st objects s hashed h left = record {
  hash = λ id bytes is. elim (left id) [
    | stays same ↦ h.hash id bytes (sym same ∙ is)
    | goes lo gone ↦ absurd cc
    | comes gained ↦ (
        let own = hashed.each gained.object gained.among in
        let bytes_are : gained.object.bytes ≡ bytes = same_Some _ _ (sym gained.file ∙ is) in
        ap (λ (x : ObjectId). x.hash) gained.is ∙ own ∙ ap sha1 bytes_are)
  ];
}

-- so the revisions of a settled state stand on what is left
pub left_sound : (st settled : State) (objects : List Object) (s : Shelf) → Sound st → Settled st settled → AreNamed objects → ((id : ObjectId) → Left st objects id (s id)) → AreSound s settled.history
left_sound st settled objects s h settles hashed left =
    let x : IsSettled st settled = keeping.by_settling st settled h settles in
    let same = same_shelf st settled settles in
    let sure_is : sure settled ≡ sure st = λ i id. cond (same.loose i id) None (same.shelf i id) in
    record {
      hashes = left_hashes st objects s hashed h.hashes left;
      line = line_more (sure settled) s settled.history (subst (λ (f : Shelf). HasMore f s) (sym sure_is) (left_keeps st objects s left)) x.sound.sure_line;
      revisions = x.sound.revisions;
      tags = x.sound.tags;
    }

-- ---- a crash after a step

-- what is left of a shelf that gained is left of it with the objects that came
pub left_gain : (objects : List Object) (st st' : State) (id : ObjectId) (now : Option (List ℕ)) → GainsSome objects st st' → Left st' [] id now → Left st objects id now
left_gain objects st st' id now g (stays is) = elim (g.shelf.each id) [
  | inl same ↦ stays (is ∙ same)
  | inr gained ↦ comes (subst (IsGained objects st.shelf id) (sym is) gained)
]
left_gain objects st st' id now g (goes lo gone) = elim (g.loose id lo) [
  | inl was ↦ goes was gone
  | inr gained ↦ stays (gone ∙ sym gained.absent)
]
left_gain objects st st' id now g (comes gained) = absurd (none_there gained.object gained.among)

pub left_same : (objects : List Object) (st st' : State) (id : ObjectId) (now : Option (List ℕ)) → st'.shelf ≡ st.shelf → st'.loose ≡ st.loose → Left st' objects id now → Left st objects id now
left_same objects st st' id now shelf loose (stays is) = stays (is ∙ ap (λ (f : Shelf). f id) shelf)
left_same objects st st' id now shelf loose (goes lo gone) = goes (sym (ap (λ (f : ObjectId → _). f id) loose) ∙ lo) gone
left_same objects st st' id now shelf loose (comes gained) = comes (subst (λ (f : Shelf). IsGained objects f id now) shelf gained)

-- what a crash leaves of the history and the shelf, counted from the settled state before the op
record LeavesOf (settled : State) (p : Pending) (k : Kept) : Type 0 where
  history : (k.history ≡ settled.history) ⊎ WouldCommit settled p k.history
  objects : List Object
  brings : BringsObjects (aged settled p.now) p.op objects
  shelf : (id : ObjectId) → Left settled objects id (k.shelf id)

module _ (settled : State) (o : Op) (e : Entry) (st' : State) (k : Kept) where
  abbrev pending : Pending
  pending = record { op = o; now = e.now }

  abbrev before : State
  before = aged settled e.now

  abbrev Ends : State → Type 0
  Ends end = Settled st' end × (k.history ≡ end.history) × ((id : ObjectId) → Left st' [] id (k.shelf id))

  unchanged : st'.history ≡ settled.history → st'.doubt ≡ None → st'.shelf ≡ settled.shelf → st'.loose ≡ settled.loose → (end : State) → Ends end → LeavesOf settled pending k
  unchanged same none shelf loose end ends = record {
    history = inl (ends.1 ∙ as_before st' end none ends.0 ∙ same);
    objects = [];
    brings = brings_nothing;
    shelf = λ id. left_same [] settled st' id (k.shelf id) shelf loose (ends.2 id);
  }

  gained_some : (objects : List Object) → BringsObjects before o objects → GainsSome objects before st' → settled.doubt ≡ None → (end : State) → Ends end → LeavesOf settled pending k
  gained_some objects brings g none end ends = record {
    history = inl (ends.1 ∙ as_before st' end (ap doubt_of g.others ∙ none) ends.0 ∙ ap history_of g.others);
    objects = objects;
    brings = brings;
    shelf = λ id. left_same objects settled before id (k.shelf id) refl refl (left_gain objects before st' id (k.shelf id) g (ends.2 id));
  }

  stored_all : (objects : List Object) (stored : State) → GainsAll objects before stored → st'.shelf ≡ stored.shelf → st'.loose ≡ stored.loose → ((id : ObjectId) → Left st' [] id (k.shelf id)) → (id : ObjectId) → Left settled objects id (k.shelf id)
  stored_all objects stored g shelf loose left id =
      left_same objects settled before id (k.shelf id) refl refl
      (left_gain objects before stored id (k.shelf id) (some_of_all objects before stored g) (left_same [] stored st' id (k.shelf id) shelf loose (left id)))

  leaves : IsValid o → IsMoment e.now → settled.doubt ≡ None → (end : State) → Ends end → Effect (IsPublished before o e) (IsWanted e) (AreSent before o) before e.reply st' → LeavesOf settled pending k
  leaves valid limit none end ends (nothing q s) =
      unchanged (ap history_of s) (ap doubt_of s ∙ none) (ap (λ (x : State). x.shelf) s) (ap (λ (x : State). x.loose) s) end ends
  leaves valid limit none end ends (gains objects sent q g) = gained_some objects sent.brings g none end ends
  leaves valid limit none end ends (stores objects sent q g) = gained_some objects sent.brings (some_of_all objects before st' g) none end ends
  leaves valid limit none end ends (grants key path head w g held r s) =
      unchanged (ap history_of s) (ap doubt_of s ∙ none) (ap (λ (x : State). x.shelf) s) (ap (λ (x : State). x.loose) s) end ends
  leaves valid limit none end ends (cancels token r s) =
      unchanged (ap history_of s) (ap doubt_of s ∙ none) (ap (λ (x : State). x.shelf) s) (ap (λ (x : State). x.loose) s) end ends
  leaves valid limit none end ends (publishes new own sent r stored g s) = record {
    history = inr (record {
      op = valid;
      limit = limit;
      new = new;
      makes = own.makes_new;
      is = ends.1 ∙ as_before st' end (ap doubt_of s ∙ ap doubt_of g.others ∙ none) ends.0 ∙ ap history_of s ∙ ap (λ (x : State). x.history ++ new ∷ []) g.others;
    });
    objects = made new;
    brings = sent.brings;
    shelf = stored_all (made new) stored g (ap (λ (x : State). x.shelf) s) (ap (λ (x : State). x.loose) s) ends.2;
  }
  leaves valid limit none end ends (wavers new own sent r stored g s) = record {
    history = elim (by_settling st' end ends.0) [
      | as_it_was same left ↦ inl (ends.1 ∙ same ∙ ap history_of s ∙ ap history_of g.others)
      | made_too x is more left ↦ (
          let some : st'.doubt ≡ Some new = ap doubt_of s in
          let same : x ≡ new = cc in
          inr (record {
            op = valid;
            limit = limit;
            new = new;
            makes = own.makes_new;
            is = ends.1 ∙ more ∙ (λ i. (ap history_of s ∙ ap history_of g.others) i ++ same i ∷ []);
          }))
    ];
    objects = made new;
    brings = sent.brings;
    shelf = stored_all (made new) stored g (ap (λ (x : State). x.shelf) s) (ap (λ (x : State). x.loose) s) ends.2;
  }

-- what a crash leaves after a step it may leave within it
pub crash_after : (st : State) (o : Op) (e : Entry) (st' : State) (k : Kept) → Step st o e st' → Crash st' None k → Crash st (Some (record { op = o; now = e.now })) k
crash_after st o e st' k s c = elim s.does [
  | inl w ↦ record {
    sound = c.sound;
    epoch = c.epoch ∙ ap (λ (x : State). x.epoch) w.same;
    settled = c.settled;
    settles = subst (λ (x : State). Settled x c.settled) w.same c.settles;
    history = inl history;
    objects = [];
    brings = brings_nothing;
    shelf = λ id. left_same [] st st' id (k.shelf id) (ap (λ (x : State). x.shelf) w.same) (ap (λ (x : State). x.loose) w.same) (left id);
  }
  | inr g ↦
      let x : IsSameShelf st g.settled = same_shelf st g.settled g.settles in
      let n : Numbers st (e ∷ []) st' = tokens.by_run st (e ∷ []) st' (o, st', s, refl) in
      let l : LeavesOf g.settled (record { op = o; now = e.now }) k =
      leaves g.settled o e st' k s.op s.now (none_left st g.settled g.settles) c.settled (c.settles, history, left) (of_act (aged g.settled e.now) o e st' s.op s.records g.acts) in
      record {
        sound = c.sound;
        epoch = c.epoch ∙ n.epoch;
        settled = g.settled;
        settles = g.settles;
        history = l.history;
        objects = l.objects;
        brings = l.brings;
        shelf = λ id. left_same l.objects st g.settled id (k.shelf id) x.shelf x.loose (l.shelf id);
      }
]
  where
    history : k.history ≡ c.settled.history
    history = elim c.history [ inl is ↦ is | inr may ↦ absurd may ]

    left : (id : ObjectId) → Left st' [] id (k.shelf id)
    left = subst (λ (os : List Object). (id : ObjectId) → Left st' os id (k.shelf id)) c.brings c.shelf

-- ---- what is sure

-- where nothing is in doubt and nothing loose a crash leaves just what is kept
sure_kept : (st : State) (k : Kept) → st.doubt ≡ None → ((id : ObjectId) → st.loose id ≡ false) → Crash st None k → k ≡ kept st
sure_kept st k none tight c =
    let history : k.history ≡ st.history = elim c.history [ inl is ↦ is ∙ as_before st c.settled none c.settles | inr may ↦ absurd may ] in
    let left : (id : ObjectId) → Left st [] id (k.shelf id) = subst (λ (os : List Object). (id : ObjectId) → Left st os id (k.shelf id)) c.brings c.shelf in
    λ i. record { history = history i; shelf = λ id. stays_so st k id (tight id) (left id) i; epoch = c.epoch i }
  where
    stays_so : (st : State) (k : Kept) (id : ObjectId) → st.loose id ≡ false → Left st [] id (k.shelf id) → k.shelf id ≡ st.shelf id
    stays_so st k id tight (stays same) = same
    stays_so st k id tight (goes lo gone) = absurd cc
    stays_so st k id tight (comes gained) = absurd (none_there gained.object gained.among)

-- nothing is in doubt and nothing loose
record IsSure (st : State) : Type 0 where
  none : st.doubt ≡ None
  tight : (id : ObjectId) → st.loose id ≡ false

stored_sure : (st : State) (batch : List Object) (st' : State) → st.doubt ≡ None → GainsAll batch st st' → IsSure st'
stored_sure st batch st' none g = record { none = ap doubt_of g.others ∙ none; tight = g.loose }

by_stores : (st : State) (key : List ℕ) (token : Token) (batch : List Object) (r : Reply) (st' : State) → r ≡ reply.Stored → st.doubt ≡ None → StoreStep st key token batch r st' → IsSure st'
by_stores st key token batch r st' is none (inl unknown) = (let other = unknown.1 in absurd cc)
by_stores st key token batch r st' is none (inr found) = elim found.1.2 [
  | inl foreign ↦ (let other = foreign.1 in absurd cc)
  | inr own ↦ elim own.1 [
    | inl fault ↦ absurd (not_fault fault.0)
    | inr rest ↦ elim rest [
      | inl collision ↦ (let other = collision.2 in absurd cc)
      | inr stored ↦ stored_sure st batch st' none stored.1.1
    ]
  ]
]
  where
    not_fault : IsFault r → ⊥
    not_fault (inl e) = cc
    not_fault (inr e) = cc

pub after_stored : (st : State) (key : List ℕ) (token : Token) (digest : List ℕ) (batch : List Object) (e : Entry) (st' : State) (k : Kept) → Step st (op.Store key token digest batch) e st' → e.reply ≡ reply.Stored → Crash st' None k → k ≡ kept st'
after_stored st key token digest batch e st' k s is c = elim s.does [
  | inl w ↦ elim w.fault [ inl other ↦ absurd cc | inr other ↦ absurd cc ]
  | inr g ↦ elim g.acts.2 [
    | inl lacks ↦ (let other = lacks.0 in absurd cc)
    | inr step ↦ (let sure : IsSure st' = by_stores (aged g.settled e.now) key token batch e.reply st' is (none_left st g.settled g.settles) step.1 in sure_kept st' k sure.none sure.tight c)
  ]
]

by_commits : {Wants : List ℕ → Path → Type 0} {Sends : List Object → Type 0} (st : State) (o : Op) (e : Entry) (st' : State) → is_committed e.reply ≡ true → st.doubt ≡ None → Effect (IsPublished st o e) Wants Sends st e.reply st' → IsSure st'
by_commits st o e st' told none (nothing q s) = (let other = q.no_revision in absurd cc)
by_commits st o e st' told none (gains objects sent q g) = (let other = q.no_revision in absurd cc)
by_commits st o e st' told none (stores objects sent q g) = (let other = q.no_revision in absurd cc)
by_commits st o e st' told none (grants key p head w g held r s) = (let other : is_committed e.reply ≡ false = ap is_committed r in absurd cc)
by_commits st o e st' told none (cancels token r s) = (let other : is_committed e.reply ≡ false = ap is_committed r in absurd cc)
by_commits st o e st' told none (publishes new p sent r stored g s) = record {
  none = ap doubt_of s ∙ ap doubt_of g.others ∙ none;
  tight = λ id. ap (λ (x : State). x.loose id) s ∙ g.loose id;
}
by_commits st o e st' told none (wavers new p sent r stored g s) = (let other : is_committed e.reply ≡ false = ap is_committed r in absurd cc)

pub after_committed : (st : State) (o : Op) (e : Entry) (st' : State) (k : Kept) → Step st o e st' → is_committed e.reply ≡ true → Crash st' None k → k ≡ kept st'
after_committed st o e st' k s told c = elim s.does [
  | inl w ↦ elim w.fault [
    | inl f ↦ (let other : is_committed e.reply ≡ false = ap is_committed f in absurd cc)
    | inr f ↦ (let other : is_committed e.reply ≡ false = ap is_committed f in absurd cc)
  ]
  | inr g ↦ (
      let sure : IsSure st' = by_commits (aged g.settled e.now) o e st' told (none_left st g.settled g.settles) (of_act (aged g.settled e.now) o e st' s.op s.records g.acts) in
      sure_kept st' k sure.none sure.tight c)
]

-- ---- settling

pub settled_twice : (st settled end : State) → Settled st settled → Settled settled end → end ≡ settled
settled_twice st settled end s t = by (none_left st settled s) t
  where
    by : settled.doubt ≡ None → Settled settled end → end ≡ settled
    by none (certain same e) = e
    by none (unmade new is e) = cc
    by none (published new is e) = cc

-- what a crash leaves once a doubt is settled it may leave before
pub crash_before : (st settled : State) (o : Option Pending) (k : Kept) → Settled st settled → Crash settled o k → Crash st o k
crash_before st settled o k s c =
    let x : IsSameShelf st settled = same_shelf st settled s in
    let same : c.settled ≡ settled = settled_twice st settled c.settled s c.settles in
    record {
      sound = c.sound;
      epoch = c.epoch ∙ (tokens.by_settling st settled s).epoch;
      settled = c.settled;
      settles = subst (λ (y : State). Settled st y) (sym same) s;
      history = c.history;
      objects = c.objects;
      brings = c.brings;
      shelf = λ id. left_same c.objects st settled id (k.shelf id) x.shelf x.loose (c.shelf id);
    }
