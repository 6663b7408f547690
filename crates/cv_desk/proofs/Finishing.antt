-- The ends of a commit whose objects are there.
use Rattle.std.proofs.Common.{◌≡◌, ◌≢◌, ◌+◌, Bool, ℕ, List, [], ◌∷◌, ◌++◌, refl, sym, ap, subst, ◌∙◌, inl, inr}
use Rattle.std.specs.Prelude.{IfSome, length}
use Rattle.std.specs.declared.option.Option.{Option}
use Rattle.std.specs.declared.option.Option.TheVariants.{None, Some}
use Rattle.cv_vault.specs.Names.{on_way}
use Rattle.cv_vault.specs.Disk.{Disk, File, Files, May}
use Rattle.cv_vault.specs.Moments.{LeavesOnly}
use Rattle.cv_vault.specs.Replace.{IsSure}
use Rattle.cv_vault.specs.Walks.{Walks, ComesTo, Stays, Comes}
use Rattle.cv_vault.proofs.Laws.{leaves_more}
use Rattle.cv_leases.specs.Leases.{without}
use Rattle.cv_history.specs.declared.record.Record.{Record}
use Rattle.cv_swap.specs.Kept.{Revision, newest, head_of}
use Rattle.cv_swap.specs.Line.{published, swapped}
use Rattle.cv_swap.specs.Stands.{head_name}
use Rattle.cv_swap.specs.declared.stage.Stage.TheVariants as stage
use Rattle.cv_gate.specs.State.{State, aged, with_revision}
use Rattle.cv_gate.specs.Commits.{made}
use Rattle.cv_gate.specs.Objects.{GainsAll}
use Rattle.cv_gate.specs.Kept.{BringsObjects, WouldCommit}
use Rattle.cv_gate.specs.Ready.{IsReady, Ends, swaps, wavers}
use Rattle.cv_gate.specs.Sound.{Sound}
use Rattle.cv_gate.specs.Step.{Step, Records}
use Rattle.cv_gate.specs.declared.op.Op.{Op}
use Rattle.cv_gate.specs.declared.op.Op.TheVariants as op
use Rattle.cv_gate.specs.declared.entry.Entry.{Entry}
use Rattle.cv_gate.specs.declared.reply.Reply.{Reply}
use Rattle.cv_gate.specs.declared.reply.Reply.TheVariants as reply
use Rattle.cv_gate.proofs.Lemmas.{by_step, newest_push, ready_ends}
use Rattle.cv_desk.specs.Holds.{IsHeadOf, SaysNewest, Holds, Survives}
use Rattle.cv_desk.specs.Gate.{StateView, StandsFor, KnowsDoubt}
use Rattle.cv_desk.proofs.Holding.{newest_of}
use Rattle.cv_desk.proofs.Names.{settled_at}
use Rattle.cv_desk.proofs.Settling.{all_taken, counted_all, map_push}
use Rattle.cv_desk.proofs.Swapping.{doubt_held, made_held, swap_survives}

-- in a settled state the op is a commit that passes, and the gate stands for the state with its objects stored; its record and its head
-- are behind the published ones
pub record IsPrepared {V S : Type 0} (disk : V → Option Disk) (is_seal : S → List ℕ → List ℕ → Bool) (st : State) (o : Op) (now : ℕ) (g : StateView V S) (new : Revision) (stored : State) (d : Disk) : Type 0 where
  pub sound : Sound st
  pub none : st.doubt ≡ None
  pub stands : StandsFor disk is_seal g stored
  pub end : stands.end ≡ d
  pub ready : IsReady st o now new stored
  pub gains : GainsAll (made new) (aged st now) stored
  pub brings : BringsObjects (aged st now) o (made new)
  pub would : WouldCommit st (record { op = o; now = now }) (st.history ++ new ∷ [])
  pub all : g.line.all ≡ published g.line ++ new.record_ ∷ []
  pub next_head : g.line.next_head ≡ head_of new
  pub says : IsHeadOf g.line.name (is_seal g.line.signer) new (Some g.line.manifest)

pub records_again : (o : Op) (e : Entry) (r : Reply) → Records e o → Records (record e { reply = r }) o
records_again (op.Lease key path) e r h = h
records_again (op.Store key token digest batch) e r h = h
records_again (op.Commit key token old_root new_root tag) e r h = h
records_again (op.Cancel key token) e r h = h

module _ {V S : Type 0} (disk : V → Option Disk) (count : V → ℕ) (left : V → ℕ → Files → Type 0) (is_seal : S → List ℕ → List ℕ → Bool) (st : State) (o : Op) (g : StateView V S) (new : Revision) (stored : State) (d : Disk) (e : Entry)
    (ready : IsPrepared disk is_seal st o e.now g new stored d) (records : Records e o) (v' : V) (P : Disk → Type 0)
    (walks : Walks disk count left on_way (ComesTo head_name (Some g.line.manifest)) P d g.line.vault v') where
  abbrev name : List ℕ
  name = g.line.name

  abbrev seal : List ℕ → List ℕ → Bool
  seal = is_seal g.line.signer

  holds_d : Holds name seal d stored
  holds_d = subst (λ x. Holds name seal x stored) ready.end ready.stands.holds

  stored_none : stored.doubt ≡ None
  stored_none = ap (λ (x : State). x.doubt) ready.gains.others ∙ ready.none

  pub step_of : (st' : State) → Ends new stored e.reply st' → Step st o e st'
  step_of st' ends = ready_ends st o e.now new stored e st' ready.ready refl records ends

  counted : length g.line.all ≡ g.line.made + 1
  counted = counted_all g.line.made g.line.all new.record_ ready.all

  -- the head came for sure: the gate stands for the state with the new revision
  pub swapped_stands : e.reply ≡ reply.Committed new.record_.revision new.record_.root → IsSure head_name g.line.manifest walks.end
      → StandsFor disk is_seal (record g { line = swapped g.line v'; leases = without new.record_.token g.leases }) (with_revision stored new)
  swapped_stands told sure = record {
    sound = by_step st o e (with_revision stored new) ready.sound (step_of (with_revision stored new) (swaps told refl));
    end = walks.end;
    told = walks.told;
    holds = made_held name seal new g.line.manifest d walks.end stored ready.says holds_d stored_none walks.gains (λ f may. settled_at walks.end head_name f sure.calm may ∙ sure.there);
    records = all_taken (g.line.made + 1) g.line.all counted ∙ ready.all ∙ ap (λ (rs : List Record). rs ++ new.record_ ∷ []) ready.stands.records ∙ sym (map_push stored.history new);
    head = subst (λ (o : Option Revision). IfSome o (λ r. g.line.next_head ≡ head_of r)) (sym (newest_push stored.history new)) ready.next_head;
    doubt = subst (KnowsDoubt is_seal (swapped g.line v') walks.end (stored.history ++ new ∷ [])) (sym stored_none) (λ e. (let k = e in cc));
    epoch = ready.stands.epoch;
    leases = ap (without new.record_.token) ready.stands.leases;
    moment = ready.stands.moment;
    next = ready.stands.next;
  }

  -- the swap failed: the gate stands for the state with the commit in doubt
  pub doubted_stands : e.reply ≡ reply.StoreFailed → StandsFor disk is_seal (record g { line = record g.line { vault = v'; stage = stage.Doubtful } }) (record stored { doubt = Some new })
  doubted_stands told = record {
    sound = by_step st o e (record stored { doubt = Some new }) ready.sound (step_of (record stored { doubt = Some new }) (wavers told refl));
    end = walks.end;
    told = walks.told;
    holds = doubt_held name seal new g.line.manifest d walks.end stored ready.says holds_d stored_none walks.gains;
    records = ready.stands.records;
    head = ready.stands.head;
    doubt = record {
      stage = refl;
      all = ready.all;
      next_head = ready.next_head;
      says = ready.says;
      either = λ f may. elim (walks.gains.each head_name refl) [
        | Stays same less ↦ inr (old f (less f may))
        | Comes came less ↦ elim (less f may) [ inl before ↦ inr (old f before) | inr c ↦ inl c.1 ]
      ];
    };
    epoch = ready.stands.epoch;
    leases = ready.stands.leases;
    moment = ready.stands.moment;
    next = ready.stands.next;
  }
    where
      old : (f : File) → May (d head_name) f → IfSome (newest stored.history) (λ r. IsHeadOf name seal r f)
      old f may =
          let x : SaysNewest name seal stored f = holds_d.head f may in
          subst (λ (o : Option Revision). IfSome o (λ r. IsHeadOf name seal r f)) (sym (newest_of name seal stored f stored_none x)) x.is

  -- memory was wanted: nothing changed
  pub stayed_stands : walks.end ≡ d → StandsFor disk is_seal (record g { line = record g.line { vault = v' } }) stored
  stayed_stands same = record {
    sound = ready.stands.sound;
    end = walks.end;
    told = walks.told;
    holds = subst (λ x. Holds name seal x stored) (sym same) holds_d;
    records = ready.stands.records;
    head = ready.stands.head;
    doubt = subst (KnowsDoubt is_seal (record g.line { vault = v' }) walks.end stored.history) (sym stored_none) calm;
    epoch = ready.stands.epoch;
    leases = ready.stands.leases;
    moment = ready.stands.moment;
    next = ready.stands.next;
  }
    where
      calm : g.line.stage ≢ stage.Doubtful
      calm = subst (KnowsDoubt is_seal g.line ready.stands.end stored.history) stored_none ready.stands.doubt

  -- whatever the swap answers, the state with the new revision is sound
  sound_with_it : Sound (with_revision stored new)
  sound_with_it =
      let told : Reply = reply.Committed new.record_.revision new.record_.root in
      let e1 : Entry = record e { reply = told } in
      by_step st o e1 (with_revision stored new) ready.sound (ready_ends st o e.now new stored e1 (with_revision stored new) ready.ready refl (records_again o e told records) (swaps refl refl))

  -- while the head comes, a crash leaves what a crash within the commit may leave
  pub finishing_leaves : LeavesOnly count left (Survives name seal st (Some (record { op = o; now = e.now }))) g.line.vault v'
  finishing_leaves = leaves_more walks.leaves (λ f w. swap_survives name seal g.line.manifest d st stored new (record { op = o; now = e.now }) f ready.says holds_d ready.sound ready.none ready.gains sound_with_it ready.brings ready.would w)
