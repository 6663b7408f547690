-- A batch that is sent, as the body does it.
use Rattle.std.proofs.Common.{◌≡◌, true, ℕ, List, [], refl, sym, subst}
use Rattle.std.specs.Prelude.{Vec}
use Rattle.std.specs.declared.option.Option.{Option}
use Rattle.std.specs.declared.result.Result.{Result}
use Rattle.std.specs.declared.result.Result.TheVariants.{Ok, Err}
use Rattle.cv_base.specs.Told.{WhereTold}
use Rattle.cv_base.specs.declared.id.ObjectId.{ObjectId}
use Rattle.cv_base.specs.declared.object.Object.{Object}
use Rattle.cv_vault.specs.Names.{on_way}
use Rattle.cv_vault.specs.Disk.{Disk, Files}
use Rattle.cv_vault.specs.Walks.{Walks, Nothing}
use Rattle.cv_leases.specs.declared.lease.Lease.{Lease}
use Rattle.cv_load.specs.declared.known_set.KnownSet.{KnownSet}
use Rattle.cv_objects.specs.Batches.{Brings, GivesFresh, Stored}
use Rattle.cv_objects.specs.declared.store_fault.StoreFault.{StoreFault}
use Rattle.cv_objects.specs.declared.store_fault.StoreFault.TheVariants as fault
use Rattle.cv_swap.specs.Line.{LineView}
use Rattle.cv_gate.specs.declared.reply.Reply.{Reply}
use Rattle.cv_desk.specs.Gate.{StateView}
use Rattle.cv_desk.specs.Refusals.{is_sending}
use Rattle.cv_desk.specs.Sending.{IsSent, reply_of}
use Rattle.cv_desk.specs.SentInner.{sent_by}
use Rattle.cv_desk.specs.ActingInner.{Sends}
use Rattle.cv_desk.specs.declared.sent.Sent.{Sent}
use Rattle.cv_desk.proofs.Sending.{unknown, known_then}

-- objects that are sent are answered so
pub sending_of : (x : StoreFault) → is_sending (reply_of x) ≡ true
sending_of (fault.Collision id) = refl
sending_of fault.Failed = refl
sending_of (fault.Damaged id found) = refl
sending_of fault.NoMemory = refl

pub sending_by : (fresh : List ObjectId) (stored : Result (Unit {0}) StoreFault) → is_sending (sent_by fresh stored).answer ≡ true
sending_by fresh (Ok done) = refl
sending_by fresh (Err x) = sending_of x

module _ {V S : Type 0} (disk : V → Option Disk) (count : V → ℕ) (left : V → ℕ → Files → Type 0) (batch : List Object) (s : StateView V S) (line : LineView V S) (leases : List Lease) (moment next : ℕ) (known : KnownSet)
    (is : record { line = line; leases = leases; moment = moment; next = next; known = known } ≡ s) where
  abbrev over : LineView V S → StateView V S
  over l = record { line = l; leases = leases; moment = moment; next = next; known = known }

  sends_any : (l : LineView V S) → l ≡ record line { vault = l.vault } → (o : Reply) (fresh : List ObjectId)
      → WhereTold (disk line.vault) (λ d. Walks disk count left on_way (Brings d batch) (IsSent d batch o fresh) d line.vault l.vault) → Sends disk count left batch s o fresh (over l)
  sends_any l others o fresh w = subst (λ (x : StateView V S). Sends disk count left batch x o fresh (over l)) is (record { walks = w; others = λ i. over (others i) })

  -- the ids weren't known
  pub sends_unknown : (l : LineView V S) → l ≡ record line { vault = l.vault } → {Z : Type 0} (r : Result (Vec ObjectId Z) StoreFault) (fault : StoreFault) → r ≡ Err fault
      → WhereTold (disk line.vault) (λ d. Walks disk count left on_way Nothing (GivesFresh d batch r) d line.vault l.vault) → (t : Sent) → t ≡ record { answer = reply_of fault; fresh = [] }
      → Sends disk count left batch s t.answer t.fresh (over l)
  sends_unknown l others {Z} r fault e w t said = subst (λ (x : Sent). Sends disk count left batch s x.answer x.fresh (over l)) (sym said) (sends_any l others (reply_of fault) []
      (λ d told. unknown d batch line.vault l.vault fault (subst (λ (x : Result (Vec ObjectId Z) StoreFault). Walks disk count left on_way Nothing (GivesFresh d batch x) d line.vault l.vault) e (w d told))))

  -- they were
  pub sends_known : (l m : LineView V S) → l ≡ record line { vault = l.vault } → m ≡ record l { vault = m.vault } → {Z : Type 0} (r : Result (Vec ObjectId Z) StoreFault) (ids : Vec ObjectId Z) → r ≡ Ok ids
      → WhereTold (disk line.vault) (λ d. Walks disk count left on_way Nothing (GivesFresh d batch r) d line.vault l.vault) → (stored : Result (Unit {0}) StoreFault)
      → WhereTold (disk l.vault) (λ d. Walks disk count left on_way (Brings d batch) (Stored d batch stored) d l.vault m.vault) → (t : Sent) → t ≡ sent_by ids.items stored → Sends disk count left batch s t.answer t.fresh (over m)
  sends_known l m others more {Z} r ids e w stored then t said = subst (λ (x : Sent). Sends disk count left batch s x.answer x.fresh (over m)) (sym said)
      (sends_any m (subst (λ (x : LineView V S). m ≡ record x { vault = m.vault }) others more) (sent_by ids.items stored).answer (sent_by ids.items stored).fresh
      (λ d told. known_then d batch line.vault l.vault ids m.vault stored (subst (λ (x : Result (Vec ObjectId Z) StoreFault). Walks disk count left on_way Nothing (GivesFresh d batch x) d line.vault l.vault) e (w d told)) then))
