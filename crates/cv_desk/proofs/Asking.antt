-- What is done inside a step is the gate's step.
use Rattle.std.proofs.Common.{◌≡◌, ◌≢◌, ◌⊎◌, ◌<◌, ◌+◌, ◌-◌, max, Bool, true, false, cond, nat_le, ℕ, List, [], ◌∷◌, ◌++◌, length, refl, sym, ap, subst, ◌∙◌, inl, inr, arith, rules}
use Rattle.std.specs.Prelude.{bytes_eq}
use Rattle.std.specs.Option.{option_map}
use Rattle.std.specs.declared.option.Option.{Option}
use Rattle.std.specs.declared.option.Option.TheVariants.{None, Some}
use Rattle.std.specs.declared.result.Result.{Result}
use Rattle.std.specs.declared.result.Result.TheVariants.{Ok, Err}
use Rattle.cv_base.specs.Path.{Path}
use Rattle.cv_base.specs.Marker.{marker, ends_in}
use Rattle.cv_base.specs.declared.id.ObjectId.{ObjectId}
use Rattle.cv_base.specs.declared.object.Object.{Object}
use Rattle.cv_base.specs.declared.token.Token.{Token}
use Rattle.cv_base.specs.Token.{last_number}
use Rattle.cv_vault.specs.Names.{on_way}
use Rattle.cv_vault.specs.Disk.{Disk, Files, ImageOf}
use Rattle.cv_vault.specs.Walks.{Walks, Nothing}
use Rattle.cv_vault.proofs.Laws.{stand, quiet_walks}
use Rattle.cv_tree.specs.Changes.{has_place}
use Rattle.cv_leases.specs.declared.limits.TheConstants.{LEASE_LIMIT}
use Rattle.cv_leases.specs.Leases.{busy, refusal_beside, refusal, lease_of, without, unexpired}
use Rattle.cv_leases.specs.declared.lease.Lease.{Lease}
use Rattle.cv_leases.specs.declared.lease_fault.LeaseFault.TheVariants as fault
use Rattle.cv_leases.proofs.Laws.{HasRoom, not_refused}
use Rattle.cv_base.specs.Objects.{AreNamed}
use Rattle.cv_swap.specs.Kept.{Revision, newest, head_of}
use Rattle.cv_swap.specs.Line.{LineView}
use Rattle.cv_gate.specs.State.{State, aged}
use Rattle.cv_gate.specs.Passing.{granted as granted_to}
use Rattle.cv_gate.specs.Step.{IsNoted, Acts as ActsAs, LeaseStep, OnLease, Grants as GrantsAs, adds, Cancels, takes, MayFail, StoreStep, Stores, FreshIs}
use Rattle.cv_gate.specs.declared.lease_line.TheConstants.{LEASE_TIME}
use Rattle.cv_gate.specs.declared.op.Op.{Op}
use Rattle.cv_gate.specs.declared.op.Op.TheVariants as op
use Rattle.cv_gate.specs.declared.act.Act.TheVariants as act
use Rattle.cv_gate.specs.declared.entry.Entry.{Entry}
use Rattle.cv_gate.specs.declared.reply.Reply.{Reply}
use Rattle.cv_gate.specs.declared.reply.Reply.TheVariants as reply
use Rattle.cv_gate.proofs.Lemmas.{some_newest}
use Rattle.cv_desk.specs.Gate.{StateView, StandsFor, Does}
use Rattle.cv_desk.specs.ActingInner.{aged_view, Acts, refusal_of, refusal_on, PlaceIs, FindsPlace, OnlyLooks, Grants, granted, unremembered, AsksLease, refused, unread, placeless, placed, AsksEnd, not_ended, ends, AsksStore, not_sent, sends}
use Rattle.cv_desk.specs.Refusals.{reply_then}
use Rattle.cv_desk.proofs.Quietly.{quiet_does}
use Rattle.cv_desk.proofs.Storing.{store_does}
use Rattle.cv_desk.proofs.Places.{head_is, newest_means}

-- ---- a lease is refused or isn't

-- where no refusal is answered there is none
pub unrefused : (leases : List Lease) (moment : ℕ) (path : Path) → refusal_of leases moment path ≡ None → refusal leases path ≡ None
unrefused leases moment path h =
    elim (refusal leases path) as (λ r. refusal leases path ≡ r → option_map (reply_then moment) r ≡ None → refusal leases path ≡ None) [
      | Some why ↦ λ _ some. cc
      | None ↦ λ none _. none
    ] refl h

-- the end of a lease's step, where nothing refuses it before
abbrev Rest : State → List ℕ → Path → Reply → State → Type 0
Rest st key path r st' = MayFail st r st' ((head : Revision) × (newest st.history ≡ Some head) × (
    ((has_place head.tree path ≡ false) × (r ≡ reply.NoParent) × (st' ≡ st)) ⊎ ((has_place head.tree path ≡ false → ⊥) × GrantsAs st key path r st')))

step_on : (st : State) (key : List ℕ) (path : Path) (r : Reply) (st' : State) → HasRoom st.leases path → Rest st key path r st' → LeaseStep st key path r st'
step_on st key path r st' room rest = inr (
  (λ marked. (let u = room.unmarked in cc)),
  inr ((λ lease is. (let c = room.clear in cc)), inr ((λ many. (let f = room.few in omega (arith, many, f))), rest)),
)

refused_step : (st : State) (key : List ℕ) (path : Path) (out : Reply) → refusal_of st.leases st.moment path ≡ Some out → LeaseStep st key path out st
refused_step st key path out h =
    elim (ends_in marker path) as (λ m. ends_in marker path ≡ m → option_map (reply_then st.moment) (cond m (Some fault.BadPath) (refusal_beside (busy st.leases path) st.leases)) ≡ Some out → LeaseStep st key path out st) [
      | true ↦ λ m is. (let same : reply.BadPath ≡ out = cc in inl (m, sym same, refl))
      | false ↦ λ m is. elim (busy st.leases path) as (λ b. busy st.leases path ≡ b → option_map (reply_then st.moment) (refusal_beside b st.leases) ≡ Some out → LeaseStep st key path out st) [
        | Some lease ↦ λ b is2. (let same : reply.PathBusy lease.token (lease.deadline - st.moment) ≡ out = cc in inr ((λ marked. cc), inl (lease, b, sym same, refl)))
        | None ↦ λ b is2. elim (nat_le LEASE_LIMIT (length st.leases)) as (λ many. nat_le LEASE_LIMIT (length st.leases) ≡ many → option_map (reply_then st.moment) (cond many (Some fault.TooManyLeases) None) ≡ Some out → LeaseStep st key path out st) [
          | true ↦ λ many is3. (let same : reply.TooManyLeases ≡ out = cc in inr ((λ marked. cc), inr ((λ lease other. cc), inl (search rules, sym same, refl))))
          | false ↦ λ many is3. absurd cc
        ] refl is2
      ] refl is
    ] refl h

-- ---- something is asked of a lease

pub record IsOwn (leases : List Lease) (key : List ℕ) (token : Token) : Type 0 where
  pub lease : Lease
  pub live : lease_of token leases ≡ Some lease
  pub own : bytes_eq lease.key key ≡ true

pub own_lease : (leases : List Lease) (key : List ℕ) (token : Token) → refusal_on (lease_of token leases) key ≡ None → IsOwn leases key token
own_lease leases key token h =
    elim (lease_of token leases) as (λ o. lease_of token leases ≡ o → refusal_on o key ≡ None → IsOwn leases key token) [
      | None ↦ λ _ not. cc
      | Some lease ↦ λ live none. elim (bytes_eq lease.key key) as (λ b. bytes_eq lease.key key ≡ b → cond b None (Some reply.WrongKey) ≡ None → IsOwn leases key token) [
        | true ↦ λ own _. record { lease = lease; live = live; own = own }
        | false ↦ λ _ not. cc
      ] refl none
    ] refl h

-- the key's own lease is live
pub on_own : (st : State) (key : List ℕ) (token : Token) (r : Reply) (st' : State) (does : Lease → Type 0) → (own : IsOwn st.leases key token) → does own.lease → OnLease st key token r st' does
on_own st key token r st' does own done = inr ((λ not. (let l = own.live in cc)), (own.lease, own.live, inr ((λ not. (let w = own.own in cc)), done)))

-- it isn't: nothing is done, and nothing is said to be stored
pub record IsNotDone (st : State) (key : List ℕ) (token : Token) (r : Reply) : Type 1 where
  pub step : (does : Lease → Type 0) → OnLease st key token r st does
  pub unstored : r ≢ reply.Stored

pub refused_on : (st : State) (key : List ℕ) (token : Token) (out : Reply) → refusal_on (lease_of token st.leases) key ≡ Some out → IsNotDone st key token out
refused_on st key token out h =
    elim (lease_of token st.leases) as (λ o. lease_of token st.leases ≡ o → refusal_on o key ≡ Some out → IsNotDone st key token out) [
      | None ↦ λ absent is. (let same : reply.InvalidToken ≡ out = cc in subst (IsNotDone st key token) same (record { step = λ does. inl (absent, refl, refl); unstored = λ e. cc }))
      | Some lease ↦ λ live is. elim (bytes_eq lease.key key) as (λ b. bytes_eq lease.key key ≡ b → cond b None (Some reply.WrongKey) ≡ Some out → IsNotDone st key token out) [
        | true ↦ λ _ not. cc
        | false ↦ λ other is2. (let same : reply.WrongKey ≡ out = cc in subst (IsNotDone st key token) same
            (record { step = λ does. inr ((λ absent. cc), (lease, live, inl (other, refl, refl))); unstored = λ e. cc }))
      ] refl is
    ] refl h

-- ---- the steps

module _ {V S : Type 0} (disk : V → Option Disk) (count : V → ℕ) (left : V → ℕ → Files → Type 0) (is_seal : S → List ℕ → List ℕ → Bool) (before after : StateView V S)
    (only : (f : Files) → left before.line.vault (count before.line.vault) f → ImageOf (disk before.line.vault) f) (room : before.next < last_number)
    (st : State) (none : st.doubt ≡ None) (stands : StandsFor disk is_seal before st) (e : Entry) where
  abbrev a : State
  a = aged st e.now

  abbrev aged_before : StateView V S
  aged_before = aged_view before e.now

  pub leases_aged : aged_before.leases ≡ a.leases
  leases_aged = λ i. unexpired (max (stands.moment i) e.now) (stands.leases i)

  pub moment_aged : aged_before.moment ≡ a.moment
  moment_aged = ap (λ m. max m e.now) stands.moment

  pub has_room : st.next < last_number
  has_room = subst (λ n. n < last_number) stands.next room

  -- nothing changed but the moment
  module _ (o : Op) (noted : IsNoted o e) (acts : ActsAs a o e a) where
    pub looked : OnlyLooks disk count left aged_before after → Does disk count left is_seal o e before after st
    looked looks = quiet_does disk count left is_seal before after st stands none o e noted has_room a.leases st.next acts
        (ap (λ (s : StateView V S). s.line) looks.others) (ap (λ (s : StateView V S). s.leases) looks.others ∙ leases_aged) (ap (λ (s : StateView V S). s.moment) looks.others)
        (ap (λ (s : StateView V S). s.next) looks.others ∙ stands.next) _ (quiet_walks only stands.told looks.reads)

    pub untouched : after ≡ aged_before → Does disk count left is_seal o e before after st
    untouched same = subst (λ (g : StateView V S). Does disk count left is_seal o e before g st) (sym same)
        (quiet_does disk count left is_seal before aged_before st stands none o e noted has_room a.leases st.next acts refl leases_aged refl stands.next _ (stand {E = λ d'. Unit {0}} only stands.told tt))

  -- a lease is asked
  module _ (key : List ℕ) (path : Path) (out : Reply) (noted : IsNoted (op.Lease key path) e) (replied : e.reply ≡ out) where
    with_reply : (st' : State) → LeaseStep a key path out st' → ActsAs a (op.Lease key path) e st'
    with_reply st' s = subst (λ r. ((r ≡ reply.NoMemory) × (st' ≡ a)) ⊎ LeaseStep a key path r st') (sym replied) (inr s)

    head : (r : Revision) × (newest st.history ≡ Some r)
    head = some_newest st.shelf st.history stands.sound.line

    place_is : (s : Result Bool Reply) → FindsPlace disk aged_before path s → PlaceIs head.0.tree path s
    place_is s found = found stands.end stands.told head.0.tree (newest_means disk is_seal before st stands head.0 head.1)

    refused_as : (r : Option Reply) → refusal_of aged_before.leases aged_before.moment path ≡ r → refusal_of a.leases a.moment path ≡ r
    refused_as r e = (λ i. refusal_of (sym leases_aged i) (sym moment_aged i) path) ∙ e

    room_for : refusal_of aged_before.leases aged_before.moment path ≡ None → HasRoom a.leases path
    room_for e = not_refused a.leases path (unrefused a.leases a.moment path (refused_as None e))

    -- it is granted
    grants : refusal_of aged_before.leases aged_before.moment path ≡ None → (mid : StateView V S) → OnlyLooks disk count left aged_before mid → has_place head.0.tree path ≡ true
        → Grants key path mid out after → Does disk count left is_seal (op.Lease key path) e before after st
    grants free mid looks place (unremembered is same) = looked (op.Lease key path) noted
        (subst (λ r. ((r ≡ reply.NoMemory) × (a ≡ a)) ⊎ LeaseStep a key path r a) (sym replied) (inl (is, refl)))
        (subst (λ (s : StateView V S). OnlyLooks disk count left aged_before s) (sym same) looks)
    grants free mid looks place (granted is same) =
        let r : Revision = head.0 in
        let lease : Lease = granted_to a key path r in
        let is_head : before.line.head ≡ head_of r = head_is disk is_seal before st stands r head.1 in
        let room_ : HasRoom a.leases path = room_for free in
        let line_is : mid.line ≡ record before.line { vault = mid.line.vault; taken = mid.line.taken } = ap (λ (s : StateView V S). s.line) looks.others in
        let next_is : mid.next ≡ st.next = ap (λ (s : StateView V S). s.next) looks.others ∙ stands.next in
        let moment_is : mid.moment ≡ a.moment = ap (λ (s : StateView V S). s.moment) looks.others ∙ moment_aged in
        let leases_is : mid.leases ≡ a.leases = ap (λ (s : StateView V S). s.leases) looks.others ∙ leases_aged in
        let epoch_is : mid.line.epoch ≡ st.epoch = ap (λ (s : StateView V S). s.line.epoch) looks.others ∙ stands.epoch in
        let mid_head : mid.line.head ≡ head_of r = ap (λ (s : StateView V S). s.line.head) looks.others ∙ is_head in
        let after_line : after.line ≡ mid.line = ap (λ (s : StateView V S). s.line) same in
        let after_leases : after.leases ≡ a.leases ++ lease ∷ [] = ap (λ (s : StateView V S). s.leases) same
        ∙ (λ i. leases_is i ++ record { token = record { epoch = epoch_is i; number = next_is i }; key = key; path = path; deadline = moment_is i + LEASE_TIME; from_revision = (mid_head i).revision } ∷ []) in
        quiet_does disk count left is_seal before after st stands none (op.Lease key path) e noted has_room (a.leases ++ lease ∷ []) (st.next + 1)
        (with_reply _ (step_on a key path out _ room_ (inr (
          r,
          head.1,
          inr (
            (λ not. (let p = place in cc)),
            adds r (record { unmarked = room_.unmarked; clear = room_.clear; few = room_.few; is_newest = head.1; place = place })
                (is ∙ (λ i. reply.Granted (record { epoch = epoch_is i; number = next_is i }) (mid_head i).revision (mid_head i).root)) refl,
          ),
        ))))
        (after_line ∙ line_is ∙ ap (λ (l : LineView V S). record before.line { vault = l.vault; taken = l.taken }) (sym after_line))
        after_leases (ap (λ (s : StateView V S). s.moment) same ∙ ap (λ (s : StateView V S). s.moment) looks.others) (ap (λ (s : StateView V S). s.next) same ∙ ap (λ n. n + 1) next_is)
        _ (subst (λ (v : V). Walks disk count left on_way Nothing (λ d'. d' ≡ stands.end) stands.end before.line.vault v) (sym (ap (λ (l : LineView V S). l.vault) after_line)) (quiet_walks only stands.told looks.reads))

    pub lease_does : AsksLease disk count left key path aged_before out after → Does disk count left is_seal (op.Lease key path) e before after st
    lease_does (refused is same) = untouched (op.Lease key path) noted (with_reply a (refused_step a key path out (refused_as (Some out) is))) same
    lease_does (unread free kind blames looks fetches found) = looked (op.Lease key path) noted (with_reply a (step_on a key path out a (room_for free) (inl (place_is (Err out) found, refl)))) looks
    lease_does (placeless free looks fetches found sees is) = looked (op.Lease key path) noted
        (with_reply a (step_on a key path out a (room_for free) (inr (head.0, head.1, inl (place_is (Ok false) found, is, refl))))) looks
    lease_does (placed mid free looks fetches found sees g) = grants free mid looks (place_is (Ok true) found) g

  -- its end is asked
  module _ (key : List ℕ) (token : Token) (out : Reply) (noted : IsNoted (op.Cancel key token) e) (replied : e.reply ≡ out) where
    on_aged : (r : Option Reply) → refusal_on (lease_of token aged_before.leases) key ≡ r → refusal_on (lease_of token a.leases) key ≡ r
    on_aged r e = ap (λ (l : List Lease). refusal_on (lease_of token l) key) (sym leases_aged) ∙ e

    pub cancel_does : AsksEnd key token aged_before out after → Does disk count left is_seal (op.Cancel key token) e before after st
    cancel_does (not_ended is same) = untouched (op.Cancel key token) noted
        (subst (λ r. OnLease a key token r a (λ lease. Cancels a token r a)) (sym replied) ((refused_on a key token out (on_aged (Some out) is)).step (λ lease. Cancels a token out a))) same
    cancel_does (ends free is same) =
        let own : IsOwn a.leases key token = own_lease a.leases key token (on_aged None free) in
        let left_ : List Lease = without token a.leases in
        let done : OnLease a key token out (record a { leases = left_ }) (λ lease. Cancels a token out (record a { leases = left_ })) =
        on_own a key token out (record a { leases = left_ }) (λ lease. Cancels a token out (record a { leases = left_ })) own (takes is refl) in
        quiet_does disk count left is_seal before after st stands none (op.Cancel key token) e noted has_room left_ st.next
        (subst (λ r. OnLease a key token r (record a { leases = left_ }) (λ lease. Cancels a token r (record a { leases = left_ }))) (sym replied) done)
        (line_over (ap (λ (s : StateView V S). s.line) same)) (ap (λ (s : StateView V S). s.leases) same ∙ ap (without token) leases_aged) (ap (λ (s : StateView V S). s.moment) same) (ap (λ (s : StateView V S). s.next) same ∙ stands.next)
        _ (subst (λ (l : LineView V S). Walks disk count left on_way Nothing (λ d'. Unit {0}) stands.end before.line.vault l.vault) (sym (ap (λ (s : StateView V S). s.line) same)) (stand {E = λ d'. Unit {0}} only stands.told tt))
      where
        line_over : after.line ≡ before.line → after.line ≡ record before.line { vault = after.line.vault; taken = after.line.taken }
        line_over e = subst (λ (l : LineView V S). l ≡ record before.line { vault = l.vault; taken = l.taken }) (sym e) refl

  -- objects are sent
  module _ (key digest : List ℕ) (token : Token) (batch : List Object) (out : Reply) (fresh : List ObjectId) (noted : IsNoted (op.Store key token digest batch) e) (named : AreNamed batch)
      (kept : e.act ≡ act.Store token digest fresh) (replied : e.reply ≡ out) where
    sent_aged : (r : Option Reply) → refusal_on (lease_of token aged_before.leases) key ≡ r → refusal_on (lease_of token a.leases) key ≡ r
    sent_aged r e = ap (λ (l : List Lease). refusal_on (lease_of token l) key) (sym leases_aged) ∙ e

    pub sent_does : AsksStore disk count left key token batch aged_before out fresh after → Does disk count left is_seal (op.Store key token digest batch) e before after st
    sent_does (not_sent is no_fresh same) =
        let not : IsNotDone a key token out = refused_on a key token out (sent_aged (Some out) is) in
        untouched (op.Store key token digest batch) noted
        (fresh, kept, inr (subst (λ r. FreshIs a batch r a fresh) (sym replied) (inr (no_fresh, not.unstored, refl)), subst (λ r. StoreStep a key token batch r a) (sym replied) (not.step (λ lease. Stores a batch out a)))) same
    sent_does (sends free s) =
        let own : IsOwn a.leases key token = own_lease a.leases key token (sent_aged None free) in
        subst (λ (g : StateView V S). Does disk count left is_seal (op.Store key token digest batch) e before g st) (sym s.others)
        (store_does disk count left is_seal before st stands none key digest token batch out fresh e noted has_room named own.lease own.live own.own kept replied after.line.vault (s.walks stands.end stands.told))

-- ---- from whatever settled state

module _ {V S : Type 0} (disk : V → Option Disk) (count : V → ℕ) (left : V → ℕ → Files → Type 0) (is_seal : S → List ℕ → List ℕ → Bool) (before aged_ after : StateView V S) (now : ℕ) (aged_is : aged_ ≡ aged_view before now)
    (only : (f : Files) → left before.line.vault (count before.line.vault) f → ImageOf (disk before.line.vault) f) (room : before.next < last_number) where
  at_moment : (e : Entry) → e.now ≡ now → aged_ ≡ aged_view before e.now
  at_moment e is = aged_is ∙ ap (aged_view before) (sym is)

  pub lease_acts : (key : List ℕ) (path : Path) (out : Reply) → AsksLease disk count left key path aged_ out after → Acts disk count left is_seal (op.Lease key path) now (act.Lease path) out before after
  lease_acts key path out asks = λ st none stands e noted e_now e_act e_reply. lease_does disk count left is_seal before after only room st none stands e key path out noted e_reply
      (subst (λ (s : StateView V S). AsksLease disk count left key path s out after) (at_moment e e_now) asks)

  pub cancel_acts : (key : List ℕ) (token : Token) (out : Reply) → AsksEnd key token aged_ out after → Acts disk count left is_seal (op.Cancel key token) now (act.Cancel token) out before after
  cancel_acts key token out asks = λ st none stands e noted e_now e_act e_reply. cancel_does disk count left is_seal before after only room st none stands e key token out noted e_reply
      (subst (λ (s : StateView V S). AsksEnd key token s out after) (at_moment e e_now) asks)

  pub store_acts : (key digest : List ℕ) (token : Token) (batch : List Object) (out : Reply) (fresh : List ObjectId) → AreNamed batch → AsksStore disk count left key token batch aged_ out fresh after
      → Acts disk count left is_seal (op.Store key token digest batch) now (act.Store token digest fresh) out before after
  store_acts key digest token batch out fresh named asks = λ st none stands e noted e_now e_act e_reply. sent_does disk count left is_seal before after only room st none stands e key digest token batch out fresh noted named e_act e_reply
      (subst (λ (s : StateView V S). AsksStore disk count left key token batch s out fresh after) (at_moment e e_now) asks)
