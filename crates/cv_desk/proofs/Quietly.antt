-- Steps by which nothing comes to the disk: a lease, its end, and each refusal.
use Rattle.std.proofs.Common.{◌≡◌, ◌<◌, max, Bool, ℕ, List, refl, sym, ap, subst, ◌∙◌, inr}
use Rattle.std.specs.declared.option.Option.{Option}
use Rattle.std.specs.declared.option.Option.TheVariants.{None, Some}
use Rattle.cv_base.specs.Token.{last_number}
use Rattle.cv_vault.specs.Names.{on_way}
use Rattle.cv_vault.specs.Disk.{Disk, Files}
use Rattle.cv_vault.specs.Walks.{Walks, Nothing}
use Rattle.cv_vault.proofs.Laws.{leaves_more, quiet_none, quiet_same}
use Rattle.cv_leases.specs.declared.lease.Lease.{Lease}
use Rattle.cv_swap.specs.Kept.{Revision}
use Rattle.cv_swap.specs.Line.{LineView}
use Rattle.cv_gate.specs.State.{State, aged}
use Rattle.cv_gate.specs.Kept.{Pending}
use Rattle.cv_gate.specs.Step.{Step, IsNoted, Acts}
use Rattle.cv_gate.specs.declared.op.Op.{Op}
use Rattle.cv_gate.specs.declared.entry.Entry.{Entry}
use Rattle.cv_gate.proofs.Lemmas.{by_step}
use Rattle.cv_desk.specs.Gate.{StateView, StandsFor, KnowsDoubt, Does}
use Rattle.cv_desk.specs.ActingInner.{OnlyLooks}
use Rattle.cv_desk.proofs.Imaging.{quiet_survives, settled_itself}
use Rattle.cv_desk.proofs.Holding.{holds_same, holds_with}

-- of no doubt the line knows as much over another vault
pub no_doubt : {V S : Type 0} (is_seal : S → List ℕ → List ℕ → Bool) (l : LineView V S) (v : V) (n : ℕ) (d d' : Disk) (history : List Revision) (doubt : Option Revision) → doubt ≡ None → KnowsDoubt is_seal l d history doubt
    → KnowsDoubt is_seal (record l { vault = v; taken = n }) d' history doubt
no_doubt is_seal l v n d d' history None none k = k
no_doubt is_seal l v n d d' history (Some new) none k = absurd (let e = none in cc)

-- after reads it stands for what it stood for
pub looked_stands : {V S : Type 0} (disk : V → Option Disk) (count : V → ℕ) (left : V → ℕ → Files → Type 0) (is_seal : S → List ℕ → List ℕ → Bool) (s s' : StateView V S) (st : State) → OnlyLooks disk count left s s' → StandsFor disk is_seal s st
    → StandsFor disk is_seal s' st
looked_stands disk count left is_seal s s' st looks stands =
    subst (λ x. StandsFor disk is_seal x st) (sym looks.others) (record {
      sound = stands.sound;
      end = stands.end;
      told = quiet_same looks.reads ∙ stands.told;
      holds = stands.holds;
      records = stands.records;
      head = stands.head;
      doubt = same_disk st.doubt stands.doubt;
      epoch = stands.epoch;
      leases = stands.leases;
      moment = stands.moment;
      next = stands.next;
    })
  where
    same_disk : (o : Option Revision) → KnowsDoubt is_seal s.line stands.end st.history o → KnowsDoubt is_seal (record s.line { vault = s'.line.vault; taken = s'.line.taken }) stands.end st.history o
    same_disk None k = k
    same_disk (Some new) k = record { stage = k.stage; all = k.all; next_head = k.next_head; says = k.says; either = k.either }

module _ {V S : Type 0} (disk : V → Option Disk) (count : V → ℕ) (left : V → ℕ → Files → Type 0) (is_seal : S → List ℕ → List ℕ → Bool) (before after : StateView V S) (st : State) (stands : StandsFor disk is_seal before st)
    (none : st.doubt ≡ None) (o : Op) (e : Entry) (noted : IsNoted o e) (room : st.next < last_number) (leases : List Lease) (number : ℕ)
    (acts : Acts (aged st e.now) o e (record (aged st e.now) { leases = leases; next = number }))
    (line : after.line ≡ record before.line { vault = after.line.vault; taken = after.line.taken }) (leases_are : after.leases ≡ leases) (moment : after.moment ≡ max before.moment e.now) (next_is : after.next ≡ number)
    (P : Disk → Type 0) (walks : Walks disk count left on_way Nothing P stands.end before.line.vault after.line.vault) where
  abbrev next : State
  next = record (aged st e.now) { leases = leases; next = number }

  step : Step st o e next
  step = record { noted = noted; next = room; does = inr (record { settled = st; settles = settled_itself st none; acts = acts }) }

  abbrev mid : StateView V S
  mid = record { line = record before.line { vault = after.line.vault; taken = after.line.taken }; leases = leases; moment = max before.moment e.now; next = number; known = after.known }

  mid_stands : StandsFor disk is_seal mid next
  mid_stands = record {
    sound = by_step st o e next stands.sound step;
    end = walks.end;
    told = walks.told;
    holds = holds_with before.line.name (is_seal before.line.signer) walks.end st leases (max st.moment e.now) number none (holds_same before.line.name (is_seal before.line.signer) stands.end walks.end st stands.holds walks.gains);
    records = stands.records;
    head = stands.head;
    doubt = no_doubt is_seal before.line after.line.vault after.line.taken stands.end walks.end st.history st.doubt none stands.doubt;
    epoch = stands.epoch;
    leases = refl;
    moment = ap (λ m. max m e.now) stands.moment;
    next = refl;
  }

  after_is : mid ≡ after
  after_is = λ i. record { line = sym line i; leases = sym leases_are i; moment = sym moment i; next = sym next_is i; known = after.known }

  abbrev pending : Pending
  pending = record { op = o; now = e.now }

  -- nothing came, and the leases, the moment and the next number are those of the new state
  pub quiet_does : Does disk count left is_seal o e before after st
  quiet_does = record {
    next = next;
    step = step;
    stands = subst (λ (g : StateView V S). StandsFor disk is_seal g next) after_is mid_stands;
    leaves = leaves_more walks.leaves (λ f w. quiet_survives before.line.name (is_seal before.line.signer) stands.end st f pending stands.holds stands.sound w);
  }

-- nothing was done at all
pub looks_none : {V S : Type 0} (disk : V → Option Disk) (count : V → ℕ) (left : V → ℕ → Files → Type 0) (s : StateView V S) → OnlyLooks disk count left s s
looks_none disk count left s = record { reads = quiet_none s.line.vault; others = refl }
