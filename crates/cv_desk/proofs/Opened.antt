-- A gate that was opened stands for what was kept, opened once more.
use Rattle.std.proofs.Common.{◌≡◌, ◌+◌, Bool, false, ℕ, List, [], length, refl, sym, ap, subst, ◌∙◌, arith, inl}
use Rattle.std.specs.Prelude.{IfSome}
use Rattle.std.specs.declared.result.Result.TheVariants.{Ok}
use Rattle.std.specs.declared.option.Option.{Option}
use Rattle.std.specs.declared.option.Option.TheVariants.{None, Some}
use Rattle.cv_base.specs.ObjectId.{file_name}
use Rattle.cv_base.specs.Digest.{IsDigest}
use Rattle.cv_base.specs.declared.id.ObjectId.{ObjectId}
use Rattle.cv_base.specs.Path.{Path}
use Rattle.cv_vault.specs.Disk.{Disk, Files, May, Image, IsCalm, files_now}
use Rattle.cv_load.specs.Known.{is_known}
use Rattle.cv_load.specs.declared.known_set.KnownSet.{KnownSet}
use Rattle.cv_swap.specs.Kept.{Kept, Revision, raised, head_of}
use Rattle.cv_swap.specs.Line.{LineView, LineOpens, IsOpenedLine}
use Rattle.cv_swap.specs.Stands.{Stands, head_name, epoch_name}
use Rattle.cv_swap.specs.Opening.{IsFound, IsOf, IsOpened}
use Rattle.cv_swap.specs.declared.found.Found.{Found}
use Rattle.cv_swap.specs.declared.stage.Stage.TheVariants as stage
use Rattle.cv_gate.specs.Kept.{reopened}
use Rattle.cv_gate.proofs.Lemmas.{opened}
use Rattle.cv_desk.specs.Holds.{IsHeadOf, Holds}
use Rattle.cv_desk.specs.Gate.{StateView, GateView, StandsFor, IsNew}
use Rattle.cv_desk.specs.Gate.{IsOpened as OpensGate}
use Rattle.cv_desk.proofs.Names.{settled_at, at_digest}
use Rattle.cv_desk.proofs.Imaging.{settled_itself}
use Rattle.cv_desk.proofs.Settling.{all_taken}

-- the files of a settled disk are an image of it
now_image : (d : Disk) → IsCalm d → Image d (files_now d)
now_image d calm n = subst (λ m. May (record { now = (d n).now; mark = m }) (d n).now) (sym (calm n)) refl

-- a settled disk whose files stand for what was kept with its epoch one greater holds the state that was opened
opened_holds : (name : List ℕ) (is_seal : List ℕ → List ℕ → Bool) (d : Disk) (k : Kept) → Stands name is_seal (files_now d) (raised k) → IsCalm d → Holds name is_seal d (reopened k)
opened_holds name is_seal d k stands calm = record {
  head = λ f may. record {
    settled = reopened k;
    settles = settled_itself (reopened k) refl;
    newest_ = stands.newest_;
    is_newest = stands.is_newest;
    is = subst (IsHeadOf name is_seal stands.newest_) (sym (settled_at d head_name f calm may)) stands.head;
  };
  now = λ id is. sym (under id is);
  may = λ id f is may. inl (settled_at d (file_name id) f calm may ∙ sym (under id is));
  epoch = λ f may. settled_at d epoch_name f calm may ∙ stands.epoch;
}
  where
    under : (id : ObjectId) → IsDigest id.hash → k.shelf id ≡ (d (file_name id)).now
    under id is = stands.shelf id ∙ at_digest (files_now d) id is

module _ {V S : Type 0} (disk : V → Option Disk) (is_seal : S → List ℕ → List ℕ → Bool) (g : StateView V S) (d end : Disk) (k : Kept) (found : Found) (told : disk g.line.vault ≡ Some end)
    (kept : Stands g.line.name (is_seal g.line.signer) (files_now d) k) (is : IsFound g.line.name (is_seal g.line.signer) (files_now d) found) (found_is : IsOf k found)
    (after : (f : Files) → Image end f → Stands g.line.name (is_seal g.line.signer) f (raised k)) (calm : IsCalm end)
    (all : g.line.all ≡ found.records) (made : g.line.made ≡ length g.line.all) (head : g.line.head ≡ found.head) (epoch : g.line.epoch ≡ found.epoch + 1) (stage_is : g.line.stage ≡ stage.Calm)
    (leases : g.leases ≡ []) (moment : g.moment ≡ 0) (next : g.next ≡ 1) where
  pub open_stands : StandsFor disk is_seal g (reopened k)
  open_stands = record {
    sound = opened k kept.kept (let e = found_is.epoch in let r = is.room in omega (arith, e, r));
    end = end;
    told = told;
    holds = opened_holds g.line.name (is_seal g.line.signer) end k (after (files_now end) (now_image end calm)) calm;
    records = all_taken g.line.made g.line.all (sym made) ∙ all ∙ found_is.records;
    head = subst (λ (o : Option Revision). IfSome o (λ r. g.line.head ≡ head_of r)) (sym found_is.is_newest) (head ∙ found_is.head);
    doubt = λ e. (let c = stage_is in let k = sym c ∙ e in cc);
    epoch = epoch ∙ ap (λ n. n + 1) found_is.epoch;
    leases = leases;
    moment = moment;
    next = next;
  }

-- what holds of files that stand for what is kept, as the line's laws say it
abbrev pub FindsKept : Type 0
FindsKept = (name : List ℕ) (is_seal : List ℕ → List ℕ → Bool) (f : Files) (k : Kept) (found : Found) → Stands name is_seal f k → IsFound name is_seal f found → IsOf k found

abbrev pub KeepsKept : Type 0
KeepsKept = (name : List ℕ) (is_seal : List ℕ → List ℕ → Bool) (d d' : Disk) (k : Kept) (found : Found) → Stands name is_seal (files_now d) k → IsFound name is_seal (files_now d) found → IsOpened d found d'
    → (f : Files) → Image d' f → Stands name is_seal f (raised k)

-- a gate over a line that was opened
pub gate_opened : {V S : Type 0} (disk : V → Option Disk) (count : V → ℕ) (left : V → ℕ → Files → Type 0) (is_seal : S → List ℕ → List ℕ → Bool) (name : List ℕ) (signer : S) (d : Disk) (v : V) (l : LineView V S) → FindsKept → KeepsKept
    → LineOpens disk count left name (is_seal signer) d v (Ok l) → IsOpenedLine name signer l → (known : KnownSet) (g : GateView V S) → g ≡ record { state = record { line = l; leases = []; moment = 0; next = 1; known = known }; journal = []; ready = None }
    → OpensGate disk count left name is_seal signer d v g
gate_opened {V} {S} disk count left is_seal name signer d v l finds keeps o line known g is = subst (OpensGate disk count left name is_seal signer d v) (sym is) (record {
  found = o.0;
  opens = o.1;
  records = o.2;
  head = o.3;
  epoch = o.4;
  stands = λ k kept.
      let found : IsFound l.name (is_seal l.signer) (files_now d) o.0 = subst (λ n. IsFound n (is_seal l.signer) (files_now d) o.0) (sym line.named) (subst (λ s. IsFound name (is_seal s) (files_now d) o.0) (sym line.signed) o.1.finds) in
      open_stands disk is_seal (record { line = l; leases = []; moment = 0; next = 1; known = known }) d o.1.end k o.0 o.1.told kept found (finds l.name (is_seal l.signer) (files_now d) k o.0 kept found)
      (keeps l.name (is_seal l.signer) d o.1.end k o.0 kept found o.1.opened) o.1.opened.sure.calm o.2 line.made o.3 o.4 line.stage refl refl refl;
})

pub gate_new : {V S : Type 0} (name : List ℕ) (signer : S) (l : LineView V S) → IsOpenedLine name signer l → (known : KnownSet) → ((hash : List ℕ) (path : Path) → is_known known hash path ≡ false)
    → (g : GateView V S) → g ≡ record { state = record { line = l; leases = []; moment = 0; next = 1; known = known }; journal = []; ready = None } → IsNew name signer g
gate_new name signer l line known none g is = subst (IsNew name signer) (sym is) (record {
  named = line.named;
  signed = line.signed;
  leases = refl;
  moment = refl;
  next = refl;
  journal = refl;
  idle = refl;
  unknown = none;
  calm = λ e. (let c = line.stage in let k = sym c ∙ e in cc);
})
