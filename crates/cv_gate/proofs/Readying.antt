-- Each end of a commit that is ready is a step.
use Rattle.std.proofs.Common.{◌≡◌, ℕ, List, sym, subst, inr}
use Rattle.cv_base.specs.declared.token.Token.{Token}
use Rattle.cv_base.specs.Moment.{IsMoment}
use Rattle.cv_swap.specs.Kept.{Revision}
use Rattle.cv_gate.specs.State.{State, aged}
use Rattle.cv_gate.specs.Objects.{GainsAll, GainsSome}
use Rattle.cv_gate.specs.Commits.{made}
use Rattle.cv_gate.specs.Passing.{Passes, MakesNew}
use Rattle.cv_gate.specs.Step.{Publishes, fails, commits, doubts, Acts, Records, Step}
use Rattle.cv_gate.specs.Ready.{IsReady, Ends, swaps, wavers, stays}
use Rattle.cv_gate.specs.declared.op.Op.{Op}
use Rattle.cv_gate.specs.declared.op.Op.TheVariants as op
use Rattle.cv_gate.specs.declared.reply.Reply.{Reply}
use Rattle.cv_gate.specs.declared.entry.Entry.{Entry}
use Rattle.cv_gate.proofs.Passing.{passes_step}
use Rattle.cv_gate.proofs.Shelves.{some_of_all}

ends_so : (st : State) (key : List ℕ) (token : Token) (old_root new_root tag : List ℕ) (new : Revision) (stored : State) (r : Reply) (st' : State) → Passes st key token old_root new_root tag new
    → GainsAll (made new) st stored → Ends new stored r st' → Publishes st key token old_root new_root tag new r st'
ends_so st key token old_root new_root tag new stored r st' p g (swaps is e) = commits p is stored g e
ends_so st key token old_root new_root tag new stored r st' p g (wavers is e) = doubts p is stored g e
ends_so st key token old_root new_root tag new stored r st' p g (stays fault e) = fails fault (subst (GainsSome (made new) st) (sym e) (some_of_all (made new) st stored g))

acts_so : (st : State) (o : Op) (new : Revision) (stored : State) (e : Entry) (st' : State) → MakesNew st o new → GainsAll (made new) st stored → Ends new stored e.reply st' → Acts st o e st'
acts_so st (op.Lease key path) new stored e st' m g ends = absurd m
acts_so st (op.Store key token digest batch) new stored e st' m g ends = absurd m
acts_so st (op.Commit key token old_root new_root tag) new stored e st' m g ends =
    inr (passes_step st key token old_root new_root tag new e.reply st' m (ends_so st key token old_root new_root tag new stored e.reply st' m g ends))
acts_so st (op.Cancel key token) new stored e st' m g ends = absurd m

pub ready_ends : (before : State) (o : Op) (now : ℕ) (new : Revision) (stored : State) (e : Entry) (st' : State) → IsReady before o now new stored → e.now ≡ now → Records e o → Ends new stored e.reply st' → Step before o e st'
ready_ends before o now new stored e st' h at recorded ends = record {
  noted = record { op = h.op; now = subst IsMoment (sym at) h.limit; records = recorded };
  next = h.next;
  does = inr (record {
    settled = h.settled;
    settles = h.settles;
    acts = subst (λ n. Acts (aged h.settled n) o e st') (sym at) (acts_so (aged h.settled now) o new stored e st' h.makes h.gains ends);
  });
}
