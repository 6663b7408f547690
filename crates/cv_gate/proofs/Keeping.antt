-- Each step keeps what holds of a state at any time.
use Rattle.std.proofs.Common.{◌≡◌, ◌≤◌, ◌<◌, ◌+◌, max, ℕ, Bool, true, false, List, [], ◌∷◌, ◌++◌, length-append, refl, sym, ap, subst, ◌∙◌, inl, inr, arith}
use Rattle.std.specs.Prelude.{IfSome}
use Rattle.std.specs.declared.option.Option.{Option}
use Rattle.std.specs.declared.option.Option.TheVariants.{None, Some}
use Rattle.std.specs.List.{filter, AllByRecursion, Contains}
use Rattle.std.proofs.lemmas.List.Elements.{Contains-append_left, Contains-push_cases}
use Rattle.cv_base.specs.Path.{Path, overlap}
use Rattle.cv_base.specs.declared.id.ObjectId.{ObjectId}
use Rattle.cv_base.specs.declared.object.Object.{Object}
use Rattle.cv_base.specs.declared.token.Token.{Token}
use Rattle.cv_base.specs.Token.{last_number}
use Rattle.cv_base.proofs.Laws.{all_push}
use Rattle.cv_base.specs.Moment.{IsMoment}
use Rattle.cv_ports.specs.Shelf.{Shelf}
use Rattle.cv_tree.specs.Tree.{Nodes, at, put}
use Rattle.cv_tree.specs.Changes.{has_place}
use Rattle.cv_tree.proofs.Laws.{at-put_apart, has_place-put_apart}
use Rattle.cv_cut.proofs.Lemmas.{none_there, first_or_later}
use Rattle.cv_leases.specs.Leases.{without}
use Rattle.cv_leases.specs.declared.lease.Lease.{Lease}
use Rattle.cv_leases.proofs.Laws.{all_filter, found_all, apart}
use Rattle.cv_base.specs.Objects.{AreNamed}
use Rattle.cv_objects.specs.Coming.{HasAll}
use Rattle.cv_gate.specs.State.{State, aged, with_revision, Settled, certain, unmade, published}
use Rattle.cv_swap.specs.Kept.{Revision, newest, IsLine}
use Rattle.cv_gate.specs.Objects.{GainsSome, GainsAll}
use Rattle.cv_gate.specs.Commits.{made}
use Rattle.cv_gate.specs.Passing.{granted, IsFree, Passes}
use Rattle.cv_gate.specs.Step.{is_tag, IsValid, Step, Run}
use Rattle.cv_gate.specs.Sound.{sure, AreLeases, IsHeld, IsUndisturbed, IsDoubt, IsGranted, Sound}
use Rattle.cv_gate.specs.declared.op.Op.{Op}
use Rattle.cv_gate.specs.declared.op.Op.TheVariants as op
use Rattle.cv_gate.specs.declared.entry.Entry.{Entry}
use Rattle.cv_gate.proofs.Effects.{IsPublished, IsWanted, AreSent, Effect, nothing, gains, stores, grants, cancels, publishes, wavers, of_act, IsItsOwn, own}
use Rattle.cv_gate.proofs.Leases.{filtered, unchanged}
use Rattle.cv_gate.proofs.Leases as leases
use Rattle.cv_gate.proofs.Tokens as tokens
use Rattle.cv_swap.proofs.Lemmas.{line_more}
use Rattle.cv_gate.proofs.Histories.{line_push, newest_push, newest_is_head, tags_push, IsHead}
use Rattle.cv_gate.proofs.Shelves.{some_of_all, keeps, keeps_sure, keeps_all_sure, loose_more, shelf_more}
use Rattle.cv_gate.proofs.Making.{IsWritten, commit_follows, commit_tag}
use Rattle.cv_gate.proofs.Passing.{none_clashes, passes_more}

-- ---- what is in doubt

none_in_doubt : (st x : State) → st.doubt ≡ None → IfSome st.doubt (IsDoubt x)
none_in_doubt st x none = subst (λ (o : Option Revision). IfSome o (IsDoubt x)) (sym none) tt

pub with_doubt : (st : State) (doubt : Option Revision) → Sound st → IfSome doubt (IsDoubt (record st { doubt = doubt })) → Sound (record st { doubt = doubt })
with_doubt st doubt h d = record {
  kept = h.kept;
  sure_line = h.sure_line;
  loose = h.loose;
  moment = h.moment;
  epoch = h.epoch;
  next = h.next;
  leases = unchanged st doubt st.shelf st.loose h.leases;
  held = h.held;
  undisturbed = h.undisturbed;
  doubt = d;
}

-- ---- a shelf that gains

abbrev after_gain : State → State → State
after_gain st st' = record st { shelf = st'.shelf; loose = st'.loose }

sound_gain : (objects : List Object) (st st' : State) → AreNamed objects → GainsSome objects st st' → st.doubt ≡ None → Sound st → Sound (after_gain st st')
sound_gain objects st st' hashed g none h = record {
  kept = record {
    hashes = shelf_more objects st st' hashed g h.hashes;
    line = line_more st.shelf st'.shelf st.history (keeps objects st st' g) h.line;
    revisions = h.revisions;
    tags = h.tags;
  };
  sure_line = line_more (sure st) (sure st') st.history (keeps_sure objects st st' g) h.sure_line;
  loose = loose_more objects st st' g h.loose;
  moment = h.moment;
  epoch = h.epoch;
  next = h.next;
  leases = unchanged st st.doubt st'.shelf st'.loose h.leases;
  held = h.held;
  undisturbed = h.undisturbed;
  doubt = none_in_doubt st (after_gain st st') none;
}

-- ---- leases that end

sound_filter : (test : Lease → Bool) (st : State) (moment : ℕ) → st.moment ≤ moment → IsMoment moment → st.doubt ≡ None → Sound st → Sound (record st { leases = filter test st.leases; moment = moment })
sound_filter test st moment goes limit none h = record {
  kept = h.kept;
  sure_line = h.sure_line;
  loose = h.loose;
  moment = limit;
  epoch = h.epoch;
  next = h.next;
  leases = filtered test st (record st { leases = filter test st.leases; moment = moment }) (record { epoch = refl; next = omega arith; moment = goes }) refl h.leases;
  held = all_filter _ test st.leases h.held;
  undisturbed = all_filter _ test st.leases h.undisturbed;
  doubt = none_in_doubt st _ none;
}

-- ---- a lease that is granted

new_undisturbed : (st : State) (key : List ℕ) (p : Path) (head : Revision) → IsFree st p head → IsLine st.shelf st.history → IsUndisturbed st.history (granted st key p head)
new_undisturbed st key p head g line =
    let hd : IsHead st.shelf st.history head = newest_is_head st.shelf st.history head line g.is_newest in
    record {
      place = subst (λ (o : Option Revision). IfSome o (λ x. has_place x.tree p ≡ true)) (sym g.is_newest) g.place;
      from_revision = (head, hd.among, refl);
      alike = λ r s hr hs lr ls. ap (λ (x : Revision). at x.tree p) (hd.only r hr lr ∙ sym (hd.only s hs ls));
    }

sound_grant : (st : State) (key : List ℕ) (p : Path) (head : Revision) → IsFree st p head → IsHeld (granted st key p head) → st.next < last_number → st.doubt ≡ None → Sound st
    → AreLeases (record st { leases = st.leases ++ granted st key p head ∷ []; next = st.next + 1 }) → Sound (record st { leases = st.leases ++ granted st key p head ∷ []; next = st.next + 1 })
sound_grant st key p head g held room none h are = record {
  kept = h.kept;
  sure_line = h.sure_line;
  loose = h.loose;
  moment = h.moment;
  epoch = h.epoch;
  next = omega (arith, room);
  leases = are;
  held = all_push _ st.leases (granted st key p head) h.held held;
  undisturbed = all_push _ st.leases (granted st key p head) h.undisturbed (new_undisturbed st key p head g h.line);
  doubt = none_in_doubt st _ none;
}

-- ---- a revision more

-- the other leases are as undisturbed as before
still : (s : Shelf) (history : List Revision) (path : Path) (new head : Revision) (part : Nodes) (l : Lease) → IsHead s history head → newest history ≡ Some head → new.tree ≡ put head.tree path part
    → overlap path l.path ≡ false → IsUndisturbed history l → IsUndisturbed (history ++ new ∷ []) l
still s history path new head part l hd is_newest is clear u = record {
  place = subst (λ (o : Option Revision). IfSome o (λ x. has_place x.tree l.path ≡ true)) (sym (newest_push history new))
      (ap (λ (t : Nodes). has_place t l.path) is ∙ has_place-put_apart head.tree path l.path part clear (subst (λ (o : Option Revision). IfSome o (λ x. has_place x.tree l.path ≡ true)) is_newest u.place));
  from_revision = (u.from_revision.0, Contains-append_left history (new ∷ []) u.from_revision.0 u.from_revision.1, u.from_revision.2);
  alike = λ r t hr ht lr lt. one r hr lr ∙ sym (one t ht lt);
}
  where
    one : (r : Revision) → Contains (history ++ new ∷ []) r → l.from_revision ≤ r.record_.revision → at r.tree l.path ≡ at head.tree l.path
    one r has low = elim (Contains-push_cases history new r has) [
      | inl old ↦
          let high = hd.highest u.from_revision.0 u.from_revision.1 in
          let from = u.from_revision.2 in
          u.alike r head old hd.among low (omega (arith, high, from))
      | inr same ↦ ap (λ (x : Revision). at x.tree l.path) (sym same) ∙ ap (λ (t : Nodes). at t l.path) is ∙ at-put_apart head.tree path l.path part clear
    ]

all_both : {X : Type 0} (P Q R : X → Type 0) (xs : List X) → ((x : X) → P x → Q x → R x) → AllByRecursion P xs → AllByRecursion Q xs → AllByRecursion R xs
all_both P Q R [] f p q = tt
all_both P Q R (x ∷ xs) f p q = (f x p.0 q.0, all_both P Q R xs f p.1 q.1)

-- nothing is in doubt or loose, and a commit that passes has its objects on the shelf
record CanCome (st : State) (old_root : List ℕ) (new : Revision) : Type 0 where
  none : st.doubt ≡ None
  tag : is_tag new.record_.tag ≡ true
  passes : Passes st new.record_.key new.record_.token old_root new.record_.offered new.record_.tag new
  has : HasAll (made new) st.shelf
  tight : (id : ObjectId) → st.loose id ≡ false

sound_with : (st : State) (old_root : List ℕ) (new : Revision) → Sound st → CanCome st old_root new → Sound (with_revision st new)
sound_with st old_root new h come =
    let c = come.passes in
    let token : Token = new.record_.token in
    let history : List Revision = st.history ++ new ∷ [] in
    let lease : Lease = c.lease in
    let hd : IsHead st.shelf st.history c.head = newest_is_head st.shelf st.history c.head h.line c.is_newest in
    let own : IsUndisturbed st.history lease = found_all (IsUndisturbed st.history) token st.leases lease h.undisturbed c.live in
    let place : has_place c.head.tree lease.path ≡ true = subst (λ (o : Option Revision). IfSome o (λ x. has_place x.tree lease.path ≡ true)) c.is_newest own.place in
    let given : IsGranted st lease = found_all (IsGranted st) token st.leases lease h.leases.granted c.live in
    let epoch = h.epoch in
    let same_epoch = given.epoch in
    let next = h.next in
    let number = given.number in
    let written : IsWritten st.moment lease =
    record { now_ = h.moment; epoch = omega (arith, epoch, same_epoch); number = omega (arith, next, number); held = found_all IsHeld token st.leases lease h.held c.live } in
    let line : IsLine st.shelf history =
    line_push st.shelf st.history c.head new h.line c.is_newest (commit_follows st new.record_.key token old_root new.record_.offered new.record_.tag new c hd.is place written come.tag come.has) in
    let tree : new.tree ≡ put c.head.tree lease.path (at c.offered lease.path) = ap (λ (r : Revision). r.tree) c.is in
    let room = c.room in
    let last = hd.number in
    let longer = length-append st.history (new ∷ []) in
    record {
      kept = record {
        hashes = h.hashes;
        line = line;
        revisions = omega (arith, room, last, longer);
        tags = tags_push st.history new h.tags (commit_tag st new.record_.key token old_root new.record_.offered new c);
      };
      sure_line = line_more st.shelf (sure st) history (keeps_all_sure st come.tight) line;
      loose = h.loose;
      moment = h.moment;
      epoch = h.epoch;
      next = h.next;
      leases = filtered _ st (with_revision st new) (record { epoch = refl; next = omega arith; moment = omega arith }) refl h.leases;
      held = all_filter _ _ st.leases h.held;
      undisturbed = all_both (IsUndisturbed st.history) (λ l. overlap lease.path l.path ≡ false) (IsUndisturbed history) (without token st.leases)
          (λ l u clear. still st.shelf st.history lease.path new c.head _ l hd c.is_newest tree clear u)
          (all_filter _ _ st.leases h.undisturbed) (apart token st.leases lease h.leases.table.apart c.live);
      doubt = none_in_doubt st _ come.none;
    }

-- what is stored of a commit that passes
record IsStored (st stored : State) (new : Revision) : Type 0 where
  old_root : List ℕ
  op_ : IsValid (op.Commit new.record_.key new.record_.token old_root new.record_.offered new.record_.tag)
  sound : Sound (after_gain st stored)
  come : CanCome (after_gain st stored) old_root new

is_stored : (st : State) (o : Op) (e : Entry) (new : Revision) (stored : State) → st.doubt ≡ None → Sound st → IsPublished st o e new → AreNamed (made new) → GainsAll (made new) st stored → IsStored st stored new
is_stored st o e new stored none h x named g =
    let some : GainsSome (made new) st stored = some_of_all (made new) st stored g in
    let its : IsItsOwn st o new = own st o new x.makes_new in
    let valid : IsValid (op.Commit new.record_.key new.record_.token its.old_root new.record_.offered new.record_.tag) = subst IsValid its.is x.valid in
    record {
      old_root = its.old_root;
      op_ = valid;
      sound = sound_gain (made new) st stored named some none h;
      come = record {
        none = none;
        tag = valid.0.1;
        passes = passes_more st stored.shelf stored.loose st.doubt new.record_.key new.record_.token its.old_root new.record_.offered new.record_.tag new (keeps (made new) st stored some)
            (λ id c. none_clashes stored.shelf (made new) id g.has c) its.passes;
        has = g.has;
        tight = g.loose;
      };
    }

-- ---- what an op does

by_effect : (st : State) (o : Op) (e : Entry) (st' : State) → st.next < last_number → st.doubt ≡ None → Sound st → Effect (IsPublished st o e) (IsWanted e) (AreSent st o) st e.reply st' → Sound st'
by_effect st o e st' room none h (nothing q s) = subst Sound (sym s) h
by_effect st o e st' room none h (gains objects sent q g) = subst Sound (sym g.others) (sound_gain objects st st' sent.hashed g none h)
by_effect st o e st' room none h (stores objects sent q g) = subst Sound (sym g.others) (sound_gain objects st st' sent.hashed (some_of_all objects st st' g) none h)
by_effect st o e st' room none h (grants key p head w g held r s) =
    let after : State = record st { leases = st.leases ++ granted st key p head ∷ []; next = st.next + 1 } in
    subst Sound (sym s) (sound_grant st key p head g held room none h (leases.by_effect {Asked = IsPublished st o e} {Wants = IsWanted e} {Sends = AreSent st o} st e.reply after h.leases (grants key p head w g held r refl)))
by_effect st o e st' room none h (cancels token r s) = subst Sound (sym s) (sound_filter _ st st.moment (omega arith) h.moment none h)
by_effect st o e st' room none h (publishes new p sent r stored g s) =
    let x : IsStored st stored new = is_stored st o e new stored none h p sent.hashed g in
    subst Sound (sym s) (subst (λ (y : State). Sound (with_revision y new)) (sym g.others) (sound_with (after_gain st stored) x.old_root new x.sound x.come))
by_effect st o e st' room none h (wavers new p sent r stored g s) =
    let x : IsStored st stored new = is_stored st o e new stored none h p sent.hashed g in
    let passes = passes_more (after_gain st stored) stored.shelf stored.loose (Some new) new.record_.key new.record_.token x.old_root new.record_.offered new.record_.tag new
    (λ id bytes is. is) x.come.passes.apart x.come.passes in
    let all : Sound (record (after_gain st stored) { doubt = Some new }) =
    with_doubt (after_gain st stored) (Some new) x.sound (record { old_root = x.old_root; op = x.op_; passes = passes; objects = g.has; all_sure = g.loose }) in
    subst Sound (sym s) (subst (λ (y : State). Sound (record y { doubt = Some new })) (sym g.others) all)

-- ---- steps

pub record IsSettled (st settled : State) : Type 0 where
  pub sound : Sound settled
  pub none : settled.doubt ≡ None

pub by_settling : (st settled : State) → Sound st → Settled st settled → IsSettled st settled
by_settling st settled h (certain calm e) = record { sound = subst Sound (sym e) h; none = ap (λ (x : State). x.doubt) e ∙ calm }
by_settling st settled h (unmade new is e) = record { sound = subst Sound (sym e) (with_doubt st None h tt); none = ap (λ (x : State). x.doubt) e }
by_settling st settled h (published new is e) =
    let d : IsDoubt st new = subst (λ (o : Option Revision). IfSome o (IsDoubt st)) is h.doubt in
    let passes = passes_more st st.shelf st.loose None new.record_.key new.record_.token d.old_root new.record_.offered new.record_.tag new (λ id bytes there. there) d.passes.apart d.passes in
    record {
      sound = subst Sound (sym e) (sound_with (record st { doubt = None }) d.old_root new (with_doubt st None h tt)
          (record { none = refl; tag = d.op.0.1; passes = passes; has = d.objects; tight = d.all_sure }));
      none = ap (λ (x : State). x.doubt) e;
    }

pub sound_aged : (st : State) (now : ℕ) → IsMoment now → st.doubt ≡ None → Sound st → Sound (aged st now)
sound_aged st now limit none h = let before = h.moment in sound_filter _ st (max st.moment now) (omega arith) (omega (arith, before, limit)) none h

pub by_step : (st : State) (o : Op) (e : Entry) (st' : State) → Sound st → Step st o e st' → Sound st'
by_step st o e st' h s = elim s.does [
  | inl w ↦ subst Sound (sym w.same) h
  | inr g ↦
      let settled : IsSettled st g.settled = by_settling st g.settled h g.settles in
      let same : g.settled.next ≡ st.next = (tokens.by_settling st g.settled g.settles).next in
      let room = s.next in
      by_effect (aged g.settled e.now) o e st' (omega (arith, same, room)) settled.none (sound_aged g.settled e.now s.now settled.none settled.sound) (of_act (aged g.settled e.now) o e st' s.op s.records g.acts)
]

pub by_run : (st : State) (entries : List Entry) (st' : State) → Sound st → Run st entries st' → Sound st'
by_run st [] st' h r = subst Sound (sym r) h
by_run st (e ∷ entries) st' h r = by_run r.1 entries st' (by_step st r.0 e r.1 h r.2) r.3

-- ---- what a lease keeps

all_of : {X : Type 0} (P : X → Type 0) (xs : List X) (x : X) → AllByRecursion P xs → Contains xs x → P x
all_of P [] x h has = absurd (none_there x has)
all_of P (y ∷ xs) x h has = elim (first_or_later y xs x has) [
  | inl same ↦ subst P same h.0
  | inr later ↦ all_of P xs x h.1 later
]

pub lease_place : (st : State) (lease : Lease) (head : Revision) → Sound st → Contains st.leases lease → newest st.history ≡ Some head → has_place head.tree lease.path ≡ true
lease_place st lease head h has is =
    let u : IsUndisturbed st.history lease = all_of (IsUndisturbed st.history) st.leases lease h.undisturbed has in
    subst (λ (o : Option Revision). IfSome o (λ x. has_place x.tree lease.path ≡ true)) is u.place

pub lease_same : (st : State) (lease : Lease) (head base : Revision) → Sound st → Contains st.leases lease → newest st.history ≡ Some head → Contains st.history base → lease.from_revision ≤ base.record_.revision
    → at base.tree lease.path ≡ at head.tree lease.path
lease_same st lease head base h has is among low =
    let u : IsUndisturbed st.history lease = all_of (IsUndisturbed st.history) st.leases lease h.undisturbed has in
    let hd : IsHead st.shelf st.history head = newest_is_head st.shelf st.history head h.line is in
    let high = hd.highest base among in
    u.alike base head among hd.among low (omega (arith, low, high))
