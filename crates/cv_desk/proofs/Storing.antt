-- A step that stores a batch: from what was done to the disk to what the gate does.
use Rattle.std.proofs.Common.{◌≡◌, ◌<◌, max, Bool, true, ℕ, List, sym, ap, subst, inr}
use Rattle.std.specs.Prelude.{bytes_eq}
use Rattle.std.specs.declared.option.Option.{Option}
use Rattle.std.specs.declared.option.Option.TheVariants.{None, Some}
use Rattle.cv_base.specs.declared.id.ObjectId.{ObjectId}
use Rattle.cv_base.specs.declared.object.Object.{Object}
use Rattle.cv_base.specs.declared.token.Token.{Token}
use Rattle.cv_base.specs.Token.{last_number}
use Rattle.cv_ports.specs.Shelf.{Shelf}
use Rattle.cv_vault.specs.Names.{on_way}
use Rattle.cv_vault.specs.Disk.{Disk, Files}
use Rattle.cv_vault.specs.Walks.{Walks}
use Rattle.cv_vault.proofs.Laws.{leaves_more}
use Rattle.cv_leases.specs.Leases.{lease_of, unexpired}
use Rattle.cv_leases.specs.declared.lease.Lease.{Lease}
use Rattle.cv_base.specs.Objects.{AreNamed}
use Rattle.cv_objects.specs.Batches.{Brings}
use Rattle.cv_gate.specs.State.{State, aged}
use Rattle.cv_gate.specs.Kept.{Pending, whole as sends_whole}
use Rattle.cv_gate.specs.Sound.{Sound}
use Rattle.cv_gate.specs.Step.{Step, IsNoted, Stores, FreshIs, OnLease}
use Rattle.cv_gate.specs.declared.op.Op.{Op}
use Rattle.cv_gate.specs.declared.op.Op.TheVariants as op
use Rattle.cv_gate.specs.declared.act.Act.TheVariants as act
use Rattle.cv_gate.specs.declared.entry.Entry.{Entry}
use Rattle.cv_gate.proofs.Lemmas.{by_step}
use Rattle.cv_gate.specs.declared.reply.Reply.{Reply}
use Rattle.cv_desk.specs.Holds.{Holds}
use Rattle.cv_desk.specs.Gate.{StateView, StandsFor, Does}
use Rattle.cv_desk.specs.Sending.{IsSent}
use Rattle.cv_desk.specs.ActingInner.{at_vault, aged_view}
use Rattle.cv_desk.proofs.Imaging.{any_survives, settled_itself}
use Rattle.cv_desk.proofs.Holding.{holds_with}
use Rattle.cv_desk.proofs.Sending.{sent_ends}
use Rattle.cv_desk.proofs.Quietly.{no_doubt}

module _ {V S : Type 0} (disk : V → Option Disk) (count : V → ℕ) (left : V → ℕ → Files → Type 0) (is_seal : S → List ℕ → List ℕ → Bool) (before : StateView V S) (st : State) (stands : StandsFor disk is_seal before st)
    (none : st.doubt ≡ None) (key digest : List ℕ) (token : Token) (batch : List Object) (out : Reply) (fresh : List ObjectId) (e : Entry) where
  abbrev o : Op
  o = op.Store key token digest batch

  abbrev name : List ℕ
  name = before.line.name

  abbrev seal : List ℕ → List ℕ → Bool
  seal = is_seal before.line.signer

  abbrev a : State
  a = aged st e.now

  -- the lease is live and the key's own, and the batch was sent
  module _ (noted : IsNoted o e) (room : st.next < last_number) (named : AreNamed batch) (lease : Lease) (live : lease_of token a.leases ≡ Some lease) (own : bytes_eq lease.key key ≡ true)
      (e_act : e.act ≡ act.Store token digest fresh) (e_reply : e.reply ≡ out) (v' : V)
      (walks : Walks disk count left on_way (Brings stands.end batch) (IsSent stands.end batch out fresh) stands.end before.line.vault v') where
    ends : (st' : State) × Stores a batch out st' × FreshIs a batch out st' fresh × Holds name seal walks.end st' × (st' ≡ record a { shelf = st'.shelf; loose = st'.loose })
    ends = sent_ends name seal stands.end walks.end a batch (holds_with name seal stands.end st (unexpired (max st.moment e.now) st.leases) (max st.moment e.now) st.next none stands.holds) stands.sound.hashes named out fresh walks.gains walks.is

    abbrev next : State
    next = ends.0

    on_lease : OnLease a key token e.reply next (λ l. Stores a batch e.reply next)
    on_lease = inr ((λ not. (let l = live in let n = not in cc)), (lease, live, inr ((λ not. (let w = own in let n = not in cc)), subst (λ r. Stores a batch r next) (sym e_reply) ends.1)))

    step : Step st o e next
    step = record {
      noted = noted;
      next = room;
      does = inr (record { settled = st; settles = settled_itself st none; acts = (fresh, e_act, inr (subst (λ r. FreshIs a batch r next fresh) (sym e_reply) ends.2, on_lease)) });
    }

    abbrev after : StateView V S
    after = at_vault (aged_view before e.now) v'

    -- with the fields of the new state that a store changes
    stands_as : (s : Shelf) (l : ObjectId → Bool) → Sound (record a { shelf = s; loose = l }) → Holds name seal walks.end (record a { shelf = s; loose = l }) → StandsFor disk is_seal after (record a { shelf = s; loose = l })
    stands_as s l sound holds = record {
      sound = sound;
      end = walks.end;
      told = walks.told;
      holds = holds;
      records = stands.records;
      head = stands.head;
      doubt = no_doubt is_seal before.line v' before.line.taken stands.end walks.end st.history st.doubt none stands.doubt;
      epoch = stands.epoch;
      leases = (λ i. unexpired (max (stands.moment i) e.now) (stands.leases i));
      moment = ap (λ m. max m e.now) stands.moment;
      next = stands.next;
    }

    stands_after : StandsFor disk is_seal after next
    stands_after =
        let same : next ≡ record a { shelf = next.shelf; loose = next.loose } = ends.4 in
        let sound : Sound next = by_step st o e next stands.sound step in
        subst (λ (x : State). StandsFor disk is_seal after x) (sym same) (stands_as next.shelf next.loose (subst Sound same sound) (subst (Holds name seal walks.end) same ends.3))

    abbrev pending : Pending
    pending = record { op = o; now = e.now }

    -- the gate's step of a store does what a step does
    pub store_does : Does disk count left is_seal o e before after st
    store_does = record {
      next = next;
      step = step;
      stands = stands_after;
      leaves = leaves_more walks.leaves (λ f w. any_survives name seal batch stands.end st f stands.holds stands.sound named w pending (λ x. sends_whole));
    }
