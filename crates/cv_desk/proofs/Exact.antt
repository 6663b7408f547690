-- What holds of a reply whatever the vault tells.
use Rattle.std.proofs.Common.{◌≡◌, ◌≢◌, Bool, true, false, cond, ℕ, List, refl, sym, ap, subst, ◌∙◌}
use Rattle.std.specs.Prelude.{bytes_eq}
use Rattle.std.specs.declared.option.Option.{Option}
use Rattle.std.specs.declared.option.Option.TheVariants.{None, Some}
use Rattle.cv_base.specs.Path.{Path}
use Rattle.cv_base.specs.Told.{WhereTold}
use Rattle.cv_base.specs.ObjectId.{file_name}
use Rattle.cv_base.specs.declared.id.ObjectId.{ObjectId}
use Rattle.cv_base.specs.declared.object.Object.{Object}
use Rattle.cv_base.specs.declared.token.Token.{Token}
use Rattle.cv_vault.specs.Names.{on_way}
use Rattle.cv_vault.specs.Disk.{Disk, File, Files, files_now}
use Rattle.cv_vault.specs.Walks.{Walks, Gains, Stays, Comes, Nothing}
use Rattle.cv_ports.specs.Shelf.{HasOtherDigest}
use Rattle.cv_cut.specs.declared.load_fault.LoadFault.{LoadFault}
use Rattle.cv_cut.specs.declared.load_fault.LoadFault.TheVariants as load
use Rattle.cv_leases.specs.Leases.{lease_of, without}
use Rattle.cv_leases.specs.declared.lease.Lease.{Lease}
use Rattle.cv_objects.specs.Names.{is_digest, standing_on}
use Rattle.cv_base.specs.Objects.{AreNamed}
use Rattle.cv_objects.specs.Batches.{ShownIn, IsOutside, by_one, by_itself}
use Rattle.cv_objects.specs.declared.store_fault.StoreFault.{StoreFault}
use Rattle.cv_objects.specs.declared.store_fault.StoreFault.TheVariants as fault
use Rattle.cv_objects.proofs.Lemmas.{is_digest_of}
use Rattle.cv_swap.specs.Line.{LineView}
use Rattle.cv_swap.specs.declared.stage.Stage.TheVariants as stage
use Rattle.cv_gate.specs.State.{aged}
use Rattle.cv_gate.specs.Step.{CancelStep, Cancels, takes}
use Rattle.cv_gate.specs.declared.act.Act.TheVariants as act
use Rattle.cv_gate.specs.declared.op.Op.TheVariants as op
use Rattle.cv_gate.specs.declared.reply.Reply.{Reply}
use Rattle.cv_gate.specs.declared.reply.Reply.TheVariants as reply
use Rattle.cv_desk.specs.Gate.{StateView, state_of, ShowsDamage, IsExact}
use Rattle.cv_desk.specs.Views.{aged_view, next_token}
use Rattle.cv_desk.specs.Refusals.{refusal_of, refusal_on, is_unread, is_sending}
use Rattle.cv_desk.specs.Ends.{BlamesParent, IsPlacedOn, FetchesWay, LeaseEnds, lease_refused, lease_unread, lease_placeless, lease_granted, store_refused, sent}
use Rattle.cv_desk.specs.Sending.{reply_of, IsSent, refused, late, whole}
use Rattle.cv_desk.specs.SendingInner.{reply_from}
use Rattle.cv_desk.specs.ActingInner.{OnlyLooks, Grants, granted, unremembered, AsksLease, unread, placeless, placed, AsksEnd, not_ended, ends, AsksStore, not_sent, sends, IsAnswered}
use Rattle.cv_desk.specs.ActingInner.{refused as refused_lease}
use Rattle.cv_desk.proofs.Names.{at_digest}
use Rattle.cv_desk.proofs.Asking.{own_lease, on_own, refused_on}

-- ---- damaged bytes

-- a reply that names damaged bytes shows them, and no other has any to show
pub shows_if : {V : Type 0} (disk : V → Option Disk) (v : V) (r : Reply) → ((id : ObjectId) (found : List ℕ) → r ≡ reply.Damaged id found → ShowsDamage disk v (reply.Damaged id found)) → ShowsDamage disk v r
shows_if disk v (reply.Damaged id found) shows = shows id found refl
shows_if disk v other shows = tt

-- refusals name none
abbrev pub IsPlain : Reply → Type 0
IsPlain out = (id : ObjectId) (found : List ℕ) → out ≡ reply.Damaged id found → ⊥

pub plain_end : (o : Option Lease) (key : List ℕ) (out : Reply) → refusal_on o key ≡ Some out → IsPlain out
plain_end None key out h id found is = let e : Some reply.InvalidToken ≡ Some (reply.Damaged id found) = h ∙ ap Some is in cc
plain_end (Some lease) key out h id found is =
    elim (bytes_eq lease.key key) as (λ b. cond b None (Some reply.WrongKey) ≡ Some (reply.Damaged id found) → ⊥) [
      | true ↦ λ e. cc
      | false ↦ λ e. cc
    ] (h ∙ ap Some is)

pub by_plain : {V : Type 0} (disk : V → Option Disk) (v : V) (out : Reply) → IsPlain out → ShowsDamage disk v out
by_plain disk v out plain = shows_if disk v out (λ id found is. absurd (plain id found is))

-- ---- the end of a lease

pub end_answered : {V S : Type 0} (disk : V → Option Disk) (count : V → ℕ) (left : V → ℕ → Files → Type 0) (is_seal : S → List ℕ → List ℕ → Bool) (key : List ℕ) (token : Token) (now : ℕ) (before aged_ after : StateView V S) (out : Reply) → aged_ ≡ aged_view before now
    → AsksEnd key token aged_ out after → IsAnswered disk count left is_seal (op.Cancel key token) now (act.Cancel token) out before after
end_answered {V} {S} disk count left is_seal key token now before aged_ after out at asks = by (subst (λ (s : StateView V S). AsksEnd key token s out after) at asks)
  where
    s : StateView V S
    s = aged_view before now

    on_leases : after.line ≡ before.line → after.known ≡ before.known → CancelStep (aged (state_of before) now) key token out (state_of after) → before.line.stage ≢ stage.Doubtful → IsExact disk count left is_seal (op.Cancel key token) now (act.Cancel token) out before after
    on_leases same known step calm = record { ends = (step, same, known); doubt = λ is_now. absurd (calm (sym (ap (λ (l : LineView V S). l.stage) same) ∙ is_now)) }

    by : AsksEnd key token s out after → IsAnswered disk count left is_seal (op.Cancel key token) now (act.Cancel token) out before after
    by (not_ended is same) = record {
      exact = on_leases (ap (λ (x : StateView V S). x.line) same) (ap (λ (x : StateView V S). x.known) same)
          (subst (λ (x : StateView V S). CancelStep (state_of s) key token out (state_of x)) (sym same)
          ((refused_on (state_of s) key token out is).step (λ lease. Cancels (state_of s) token out (state_of s))));
      damage = by_plain disk before.line.vault out (plain_end (lease_of token s.leases) key out is);
    }
    by (ends free is same) =
        let left_ : StateView V S = record s { leases = without token s.leases } in record {
          exact = on_leases (ap (λ (x : StateView V S). x.line) same) (ap (λ (x : StateView V S). x.known) same)
              (subst (λ (x : StateView V S). CancelStep (state_of s) key token out (state_of x)) (sym same)
              (on_own (state_of s) key token out (state_of left_) (λ lease. Cancels (state_of s) token out (state_of left_)) (own_lease s.leases key token free) (takes is refl)));
          damage = subst (ShowsDamage disk before.line.vault) (sym is) tt;
        }

-- ---- objects are sent

-- bytes that a batch shows to be damaged stand there
shown_stands : (d : Disk) (batch : List Object) (id : ObjectId) (found : List ℕ) → AreNamed batch → ShownIn d batch (fault.Damaged id found) → HasOtherDigest (standing_on d) id found
shown_stands d batch id found named (by_one shown) =
    let o : Object = shown.object in
    let same : id ≡ o.id = shown.shows.0 in
    let is = shown.shows.1 in
    subst (λ x. HasOtherDigest (standing_on d) x found) (sym same) (record {
      bytes = is.bytes;
      there = at_digest (files_now d) o.id (is_digest_of batch o named shown.among) ∙ is.present;
      digest = is.digest;
      other = is.other;
    })
shown_stands d batch id found named (by_itself outside) = absurd outside

pub store_shows : (d : Disk) (batch : List Object) (x : StoreFault) → AreNamed batch → ShownIn d batch x → {V : Type 0} (disk : V → Option Disk) (v : V) → disk v ≡ Some d → ShowsDamage disk v (reply_of x)
store_shows d batch (fault.Collision id) named shown disk v told = tt
store_shows d batch fault.Failed named shown disk v told = tt
store_shows d batch (fault.Damaged id found) named shown disk v told = λ e is.
    let same : Some d ≡ Some e = sym told ∙ is in
    let one : d ≡ e = cc in
    subst (λ x. HasOtherDigest (standing_on x) id found) one (shown_stands d batch id found named shown)
store_shows d batch fault.NoMemory named shown disk v told = tt

outside_shows : (x : StoreFault) → IsOutside x → {V : Type 0} (disk : V → Option Disk) (v : V) → ShowsDamage disk v (reply_of x)
outside_shows (fault.Collision id) o disk v = absurd o
outside_shows fault.Failed o disk v = tt
outside_shows (fault.Damaged id found) o disk v = absurd o
outside_shows fault.NoMemory o disk v = tt

sent_shows : (d d' : Disk) (batch : List Object) (fresh : List ObjectId) (out : Reply) → AreNamed batch → IsSent d batch out fresh d' → {V : Type 0} (disk : V → Option Disk) (v : V) → disk v ≡ Some d
    → ShowsDamage disk v out
sent_shows d d' batch fresh out named (refused x is none shown same) disk v told = subst (ShowsDamage disk v) (sym is) (store_shows d batch x named shown disk v told)
sent_shows d d' batch fresh out named (late x is ids outside one) disk v told = subst (ShowsDamage disk v) (sym is) (outside_shows x outside disk v)
sent_shows d d' batch fresh out named (whole is ids one stored) disk v told = subst (ShowsDamage disk v) (sym is) tt

-- a reply whose damage is shown wherever a disk is told shows it
pub wherever_told : {V : Type 0} (disk : V → Option Disk) (v : V) (r : Reply) → ((d : Disk) → disk v ≡ Some d → ShowsDamage disk v r) → ShowsDamage disk v r
wherever_told disk v r shows = shows_if disk v r (λ id found is. λ d told. subst (ShowsDamage disk v) is (shows d told) d told)

-- where nothing came since, the damaged bytes stood there before
pub damage_before : {V : Type 0} (disk : V → Option Disk) (count : V → ℕ) (left : V → ℕ → Files → Type 0) (v v' : V) (r : Reply) → WhereTold (disk v) (λ d. Walks disk count left on_way Nothing (λ d'. Unit {0}) d v v')
    → ShowsDamage disk v' r → ShowsDamage disk v r
damage_before disk count left v v' r walks shows = shows_if disk v r (λ id found is. λ d told.
    let w = walks d told in
    let has = subst (ShowsDamage disk v') is shows w.end w.told in
    record { bytes = has.bytes; there = sym (same_there d w.end w.gains id) ∙ has.there; digest = has.digest; other = has.other })
  where
    same_there : (d d' : Disk) → Gains on_way Nothing d d' → (id : ObjectId) → standing_on d' id ≡ standing_on d id
    same_there d d' g id = elim (g.each (file_name id) refl) [ Stays same less ↦ ap (λ (f : File). cond (is_digest id.hash) f None) same | Comes came less ↦ absurd came ]

pub store_answered : {V S : Type 0} (disk : V → Option Disk) (count : V → ℕ) (left : V → ℕ → Files → Type 0) (is_seal : S → List ℕ → List ℕ → Bool) (key digest : List ℕ) (token : Token) (batch : List Object) (now : ℕ) (before aged_ after : StateView V S) (out : Reply) (fresh : List ObjectId)
    → aged_ ≡ aged_view before now → AreNamed batch → (refusal_on (lease_of token aged_.leases) key ≡ None → is_sending out ≡ true) → AsksStore disk count left key token batch aged_ out fresh after
    → IsAnswered disk count left is_seal (op.Store key token digest batch) now (act.Store token digest fresh) out before after
store_answered {V} {S} disk count left is_seal key digest token batch now before aged_ after out fresh at named kind asks =
    by (subst (λ (s : StateView V S). refusal_on (lease_of token s.leases) key ≡ None → is_sending out ≡ true) at kind) (subst (λ (s : StateView V S). AsksStore disk count left key token batch s out fresh after) at asks)
  where
    s : StateView V S
    s = aged_view before now

    by : (refusal_on (lease_of token s.leases) key ≡ None → is_sending out ≡ true) → AsksStore disk count left key token batch s out fresh after
        → IsAnswered disk count left is_seal (op.Store key token digest batch) now (act.Store token digest fresh) out before after
    by kind (not_sent is none same) = record {
      exact = λ calm. record { ends = store_refused is (ap (act.Store token digest) none) same; doubt = λ is_now. absurd (calm (sym (ap (λ (x : StateView V S). x.line.stage) same) ∙ is_now)) };
      damage = by_plain disk before.line.vault out (plain_end (lease_of token s.leases) key out is);
    }
    by kind (sends free done) = record {
      exact = λ calm. record { ends = sent fresh free (kind free) refl done; doubt = λ is_now. absurd (calm (sym (ap (λ (x : StateView V S). x.line.stage) done.others) ∙ is_now)) };
      damage = wherever_told disk before.line.vault out (λ d told.
          let w = done.walks d told in sent_shows d w.end batch fresh out named w.is disk before.line.vault told);
    }

-- ---- a lease is asked

pub unread_from : (x : LoadFault) → is_unread (reply_from x) ≡ true
unread_from (load.Missing id) = refl
unread_from (load.Bad id) = refl
unread_from load.Failed = refl
unread_from (load.Damaged id found) = refl
unread_from load.NoMemory = refl

pub lease_answered : {V S : Type 0} (disk : V → Option Disk) (count : V → ℕ) (left : V → ℕ → Files → Type 0) (is_seal : S → List ℕ → List ℕ → Bool) (key : List ℕ) (path : Path) (now : ℕ) (before aged_ after : StateView V S) (out : Reply)
    → aged_ ≡ aged_view before now → AsksLease disk count left key path aged_ out after → ShowsDamage disk aged_.line.vault out → IsAnswered disk count left is_seal (op.Lease key path) now (act.Lease path) out before after
lease_answered {V} {S} disk count left is_seal key path now before aged_ after out at asks shows = record {
  exact = by (subst (λ (s : StateView V S). AsksLease disk count left key path s out after) at asks);
  damage = subst (λ (s : StateView V S). ShowsDamage disk s.line.vault out) at shows;
}
  where
    s : StateView V S
    s = aged_view before now

    -- the line is in no doubt that it wasn't in before
    as_before : LeaseEnds disk count left key path s out after → after.line.stage ≡ before.line.stage → before.line.stage ≢ stage.Doubtful → IsExact disk count left is_seal (op.Lease key path) now (act.Lease path) out before after
    as_before come same calm = record { ends = come; doubt = λ is_now. absurd (calm (sym same ∙ is_now)) }

    granting : (looked : StateView V S) → refusal_of s.leases s.moment path ≡ None → IsPlacedOn (disk s.line.vault) s.line.head.root path true → OnlyLooks disk count left s looked → FetchesWay disk path s looked → Grants key path looked out after → before.line.stage ≢ stage.Doubtful
        → IsExact disk count left is_seal (op.Lease key path) now (act.Lease path) out before after
    granting looked free sees looks fetches (granted is same) = as_before
        (lease_granted looked free sees looks fetches (is ∙ ap (λ (x : StateView V S). reply.Granted (next_token x) x.line.head.revision x.line.head.root) looks.others) same)
        (ap (λ (x : StateView V S). x.line.stage) same ∙ ap (λ (x : StateView V S). x.line.stage) looks.others)
    granting looked free sees looks fetches (unremembered is same) = as_before
        (lease_unread free (ap is_unread is) (subst (BlamesParent (disk s.line.vault) s.line.head.root path) (sym is) tt)
        (subst (λ (x : StateView V S). OnlyLooks disk count left s x) (sym same) looks) (subst (λ (x : StateView V S). FetchesWay disk path s x) (sym same) fetches))
        (ap (λ (x : StateView V S). x.line.stage) same ∙ ap (λ (x : StateView V S). x.line.stage) looks.others)

    by : AsksLease disk count left key path s out after → before.line.stage ≢ stage.Doubtful → IsExact disk count left is_seal (op.Lease key path) now (act.Lease path) out before after
    by (refused_lease is same) = as_before (lease_refused is same) (ap (λ (x : StateView V S). x.line.stage) same)
    by (unread free kind blames looks fetches found) = as_before (lease_unread free kind blames looks fetches) (ap (λ (x : StateView V S). x.line.stage) looks.others)
    by (placeless free looks fetches found sees is) = as_before (lease_placeless free is sees looks fetches) (ap (λ (x : StateView V S). x.line.stage) looks.others)
    by (placed looked free looks fetches found sees grants) = granting looked free sees looks fetches grants
