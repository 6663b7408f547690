-- A commit that is ready: in a state that was in doubt, and how it ends.
use Rattle.std.proofs.Common.{◌≡◌, ◌<◌, Bool, true, false, ℕ, List, refl, sym, ap, subst, ◌∙◌, inr}
use Rattle.std.specs.declared.option.Option.{Option}
use Rattle.std.specs.declared.option.Option.TheVariants.{None, Some}
use Rattle.cv_base.specs.declared.token.Token.{Token}
use Rattle.cv_base.specs.Token.{last_number}
use Rattle.cv_vault.specs.Names.{on_way}
use Rattle.cv_vault.specs.Disk.{Disk, Files, ImageOf}
use Rattle.cv_vault.specs.Moments.{LeavesOnly}
use Rattle.cv_vault.specs.Walks.{Walks, ComesTo}
use Rattle.cv_vault.proofs.Laws.{leaves_then, leaves_more, stand}
use Rattle.cv_leases.specs.Leases.{without}
use Rattle.cv_swap.specs.Kept.{Revision}
use Rattle.cv_swap.specs.Line.{swapped}
use Rattle.cv_swap.specs.Stands.{head_name}
use Rattle.cv_gate.specs.State.{State, aged, with_revision, Settled}
use Rattle.cv_gate.specs.Commits.{made}
use Rattle.cv_gate.specs.Kept.{Pending, BringsObjects, makes as makes_objects}
use Rattle.cv_gate.specs.Objects.{GainsAll}
use Rattle.cv_gate.specs.Passing.{MakesNew}
use Rattle.cv_gate.specs.Ready.{Ends, swaps as ends_swapped, wavers as ends_doubtful, stays as ends_fault}
use Rattle.cv_gate.specs.Sound.{Sound}
use Rattle.cv_gate.specs.Step.{Records}
use Rattle.cv_gate.specs.declared.op.Op.{Op}
use Rattle.cv_gate.specs.declared.op.Op.TheVariants as op
use Rattle.cv_gate.specs.declared.reply.Reply.{Reply}
use Rattle.cv_gate.specs.declared.reply.Reply.TheVariants as reply
use Rattle.cv_gate.proofs.Lemmas.{by_settling, ready_ends, none_left}
use Rattle.cv_desk.specs.Holds.{Survives}
use Rattle.cv_desk.specs.Gate.{StateView, StandsFor, IsSameRepository}
use Rattle.cv_desk.specs.ActingInner.{ComesTo as ComesToBe}
use Rattle.cv_desk.specs.Committing.{Finishes, swaps, wavers, stays}
use Rattle.cv_desk.specs.Begin.{entry_of, IsReadyIn, GetsReady, EndsStep, EndsBy}
use Rattle.cv_desk.specs.declared.waiting.Waiting.{Waiting}
use Rattle.cv_desk.proofs.Finishing.{IsPrepared, swapped_stands, doubted_stands, stayed_stands, finishing_leaves}
use Rattle.cv_desk.proofs.Imaging.{settled_itself, settled_same}
use Rattle.cv_desk.proofs.Settling.{next_same, survives_same, survives_before}

-- what a commit that passes brings
brought : (a : State) (o : Op) (new : Revision) → MakesNew a o new → BringsObjects a o (made new)
brought a (op.Lease key path) new m = absurd m
brought a (op.Store key token digest batch) new m = absurd m
brought a (op.Commit key token old_root offered tag) new m =
    subst (λ (r : Revision). BringsObjects a (op.Commit key token old_root offered tag) (made r)) (sym m.is) (makes_objects m.lease m.head m.offered m.live m.is_newest m.means)
brought a (op.Cancel key token) new m = absurd m

-- ---- after a doubt was settled

module _ {V S : Type 0} (disk : V → Option Disk) (count : V → ℕ) (left : V → ℕ → Files → Type 0) (is_seal : S → List ℕ → List ℕ → Bool) (o : Op) (now : ℕ) (token : Token) (st settled : State) (settles : Settled st settled) (sound : Sound st) where
  none : settled.doubt ≡ None
  none = none_left st settled settles

  -- what is ready in the settled state is ready in the state
  ready_before : (g : StateView V S) (new : Revision) (stored : State) → IsReadyIn disk is_seal g token o now settled new stored → IsReadyIn disk is_seal g token o now st new stored
  ready_before g new stored r =
      let same : r.ready.settled ≡ settled = settled_same settled r.ready.settled none r.ready.settles in record {
        sound = sound;
        ready = record {
          op = r.ready.op;
          limit = r.ready.limit;
          next = subst (λ n. n < last_number) (next_same st settled settles) r.ready.next;
          settled = settled;
          settles = settles;
          makes = subst (λ (x : State). MakesNew (aged x now) o new) same r.ready.makes;
          gains = subst (λ (x : State). GainsAll (made new) (aged x now) stored) same r.ready.gains;
        };
        lease = r.lease;
        stands = r.stands;
        all = r.all;
        next_head = r.next_head;
        says = r.says;
      }

  pub ready_later : (before mid after : StateView V S) → IsSameRepository before.line mid.line → ComesToBe disk count left is_seal before mid st settled
      → (settled.doubt ≡ None → StandsFor disk is_seal mid settled → GetsReady disk count left is_seal o now token mid after settled) → GetsReady disk count left is_seal o now token before after st
  ready_later before mid after same first then =
      let p : Pending = record { op = o; now = now } in
      let g : GetsReady disk count left is_seal o now token mid after settled = then none first.stands in record {
        new = g.new;
        stored = g.stored;
        ready = ready_before after g.new g.stored g.ready;
        leaves = leaves_then (first.leaves p) g.leaves (λ f x. x)
            (λ f x. survives_before before.line.name (is_seal before.line.signer) st settled (Some p) f settles (survives_same is_seal before.line mid.line settled (Some p) f same x));
      }

-- ---- it ends

module _ {V S : Type 0} (disk : V → Option Disk) (count : V → ℕ) (left : V → ℕ → Files → Type 0) (is_seal : S → List ℕ → List ℕ → Bool) (g : StateView V S) (w : Waiting) (o : Op) (st : State) (new : Revision) (stored : State)
    (noted : (r : Reply) → Records (entry_of w r) o) (ready : IsReadyIn disk is_seal g w.token o w.now st new stored) where
  abbrev settled : State
  settled = ready.ready.settled

  abbrev p : Pending
  p = record { op = o; now = w.now }

  none_there : settled.doubt ≡ None
  none_there = none_left st settled ready.ready.settles

  prepared : IsPrepared disk is_seal settled o w.now g new stored ready.stands.end
  prepared = record {
    sound = (by_settling st settled ready.sound ready.ready.settles).sound;
    none = none_there;
    stands = ready.stands;
    end = refl;
    ready = record {
      op = ready.ready.op;
      limit = ready.ready.limit;
      next = subst (λ n. n < last_number) (sym (next_same st settled ready.ready.settles)) ready.ready.next;
      settled = settled;
      settles = settled_itself settled none_there;
      makes = ready.ready.makes;
      gains = ready.ready.gains;
    };
    gains = ready.ready.gains;
    brings = brought (aged settled w.now) o new ready.ready.makes;
    would = record { op = ready.ready.op; limit = ready.ready.limit; new = new; makes = ready.ready.makes; is = refl };
    all = ready.all;
    next_head = ready.next_head;
    says = ready.says;
  }

  module _ (r : Reply) (v' : V) (P : Disk → Type 0) (moves : Walks disk count left on_way (ComesTo head_name (Some g.line.manifest)) P ready.stands.end g.line.vault v') where
    leaves : LeavesOnly count left (Survives g.line.name (is_seal g.line.signer) st (Some p)) g.line.vault v'
    leaves = leaves_more (finishing_leaves disk count left is_seal settled o g new stored ready.stands.end (entry_of w r) prepared (noted r) v' P moves)
        (λ f x. survives_before g.line.name (is_seal g.line.signer) st settled (Some p) f ready.ready.settles x)

    ended : (after : StateView V S) (next : State) → after.line.vault ≡ v' → Ends new stored r next → StandsFor disk is_seal after next → EndsStep disk count left is_seal o (entry_of w r) st new stored g after
    ended after next same ends stands = record {
      does = record {
        next = next;
        step = ready_ends st o w.now new stored (entry_of w r) next ready.ready refl (noted r) ends;
        stands = stands;
        leaves = subst (λ (v : V). LeavesOnly count left (Survives g.line.name (is_seal g.line.signer) st (Some p)) g.line.vault v) (sym same) leaves;
      };
      ends = ends;
    }

  -- its head was swapped in, or wasn't
  finished : (r : Reply) (after : StateView V S) → Finishes disk count left w.token g r after → EndsStep disk count left is_seal o (entry_of w r) st new stored g after
  finished r after (swaps moves is same) =
      let m = moves ready.stands.end ready.stands.told in
      let told : r ≡ reply.Committed new.record_.revision new.record_.root = is ∙ (λ i. reply.Committed (ready.next_head i).revision (ready.next_head i).root) in
      ended r after.line.vault _ m after (with_revision stored new) refl (ends_swapped told refl)
      (subst (λ (x : StateView V S). StandsFor disk is_seal x (with_revision stored new)) (sym (same ∙ (λ i. record g { line = swapped g.line after.line.vault; leases = without (ready.lease i) g.leases })))
      (swapped_stands disk count left is_seal settled o g new stored ready.stands.end (entry_of w r) prepared (noted r) after.line.vault _ m told m.is))
  finished r after (wavers moves is same) =
      let m = moves ready.stands.end ready.stands.told in
      ended r after.line.vault _ m after (record stored { doubt = Some new }) refl (ends_doubtful is refl)
      (subst (λ (x : StateView V S). StandsFor disk is_seal x (record stored { doubt = Some new })) (sym same)
      (doubted_stands disk count left is_seal settled o g new stored ready.stands.end (entry_of w r) prepared (noted r) after.line.vault _ m is))
  finished r after (stays moves reads is same) =
      let m = moves ready.stands.end ready.stands.told in
      ended r after.line.vault _ m after stored refl (ends_fault (inr is) refl)
      (subst (λ (x : StateView V S). StandsFor disk is_seal x stored) (sym same)
      (stayed_stands disk count left is_seal settled o g new stored ready.stands.end (entry_of w r) prepared (noted r) after.line.vault _ m m.is))

  -- and it was given up
  given_up : ((f : Files) → left g.line.vault (count g.line.vault) f → ImageOf (disk g.line.vault) f) → (r : Reply) → r ≡ reply.NoMemory → (after : StateView V S) → after ≡ g
      → EndsStep disk count left is_seal o (entry_of w r) st new stored g after
  given_up only r is after same =
      ended r g.line.vault (λ d. Unit {0}) (stand only ready.stands.told tt) after stored (ap (λ (x : StateView V S). x.line.vault) same) (ends_fault (inr is) refl)
      (subst (λ (x : StateView V S). StandsFor disk is_seal x stored) (sym same) ready.stands)

  pub ends_step : ((f : Files) → left g.line.vault (count g.line.vault) f → ImageOf (disk g.line.vault) f) → (go : Bool) (r : Reply) (after : StateView V S) → EndsBy disk count left go w.token g r after
      → EndsStep disk count left is_seal o (entry_of w r) st new stored g after
  ends_step only true r after by = finished r after by
  ends_step only false r after by = given_up only r by.0 after by.1
