-- A doubt is settled, as the body does it.
use Rattle.std.proofs.Common.{◌≡◌, ℕ, Bool, true, false, List, sym, ap, subst, ◌∙◌}
use Rattle.std.specs.declared.option.Option.{Option}
use Rattle.std.specs.declared.result.Result.{Result}
use Rattle.std.specs.declared.result.Result.TheVariants.{Ok, Err}
use Rattle.cv_base.specs.Told.{WhereTold}
use Rattle.cv_vault.specs.Names.{on_way}
use Rattle.cv_vault.specs.Disk.{Disk, Files}
use Rattle.cv_vault.specs.Replace.{Found}
use Rattle.cv_vault.specs.Walks.{Walks, Nothing}
use Rattle.cv_vault.specs.declared.vault.VaultFault.{VaultFault}
use Rattle.cv_leases.specs.declared.lease.Lease.{Lease}
use Rattle.cv_history.specs.declared.record.Record.{Record}
use Rattle.cv_load.specs.declared.known_set.KnownSet.{KnownSet}
use Rattle.cv_swap.specs.Line.{LineView, swapped, published}
use Rattle.cv_swap.specs.Stands.{head_name}
use Rattle.cv_swap.specs.declared.stage.Stage.TheVariants as stage
use Rattle.cv_gate.specs.State.{State}
use Rattle.cv_desk.specs.Gate.{StateView, StandsFor}
use Rattle.cv_desk.specs.ActingInner.{Settles}
use Rattle.cv_desk.specs.Resuming.{ended, newest_token, token_in, Resumes, came, lost, Awaits}
use Rattle.cv_desk.proofs.Settling.{settles_failed, settles_unmade, settles_made}

module _ {V S : Type 0} (disk : V → Option Disk) (count : V → ℕ) (left : V → ℕ → Files → Type 0) (is_seal : S → List ℕ → List ℕ → Bool) (s : StateView V S) (line : LineView V S) (leases : List Lease) (moment next : ℕ) (known : KnownSet)
    (is : record { line = line; leases = leases; moment = moment; next = next; known = known } ≡ s) (doubtful : line.stage ≡ stage.Doubtful) (l : LineView V S) (r : Result Bool VaultFault)
    (walks : WhereTold (disk line.vault) (λ d. Walks disk count left on_way Nothing (Found head_name line.manifest r) d line.vault l.vault)) where
  abbrev over : LineView V S → StateView V S
  over x = record { line = x; leases = leases; moment = moment; next = next; known = known }

  answered : (x : Result Bool VaultFault) → r ≡ x → WhereTold (disk line.vault) (λ d. Walks disk count left on_way Nothing (Found head_name line.manifest x) d line.vault l.vault)
  answered x e = λ d told. subst (λ (x : Result Bool VaultFault). Walks disk count left on_way Nothing (Found head_name line.manifest x) d line.vault l.vault) e (walks d told)

  -- nothing came to the disk
  pub recovers_over : (v : V) → v ≡ l.vault → WhereTold (disk s.line.vault) (λ d. Walks disk count left on_way Nothing (λ d'. Unit {0}) d s.line.vault v)
  recovers_over v same = subst (λ (x : StateView V S). WhereTold (disk x.line.vault) (λ d. Walks disk count left on_way Nothing (λ d'. Unit {0}) d x.line.vault v)) is
      (λ d told. subst (λ x. Walks disk count left on_way Nothing (λ d'. Unit {0}) d line.vault x) (sym same) (let w = walks d told in record { end = w.end; told = w.told; gains = w.gains; leaves = w.leaves; is = tt }))

  pub awaits_over : (fault : VaultFault) → r ≡ Err fault → l ≡ record line { vault = l.vault } → Awaits disk count left fault s (over l)
  awaits_over fault e others = subst (λ (s : StateView V S). Awaits disk count left fault s (over l)) is (record { doubtful = doubtful; looks = answered (Err fault) e; others = ap over others })

  pub resumes_lost : r ≡ Ok false → l ≡ record line { vault = l.vault; stage = stage.Calm } → Resumes disk count left s (over l)
  resumes_lost e others = subst (λ (s : StateView V S). Resumes disk count left s (over l)) is (lost doubtful (answered (Ok false) e) (ap over others))

  pub resumes_came : r ≡ Ok true → l ≡ swapped line l.vault → (after : StateView V S) → after ≡ record (over l) { leases = ended (newest_token (published l)) leases } → Resumes disk count left s after
  resumes_came e others after ends = subst (λ (x : StateView V S). Resumes disk count left s x) (sym ends) (subst (λ (s : StateView V S). Resumes disk count left s (record (over l) { leases = ended (newest_token (published l)) leases })) is
      (came doubtful (answered (Ok true) e) (ap (λ (x : LineView V S). record (over x) { leases = ended (newest_token (published l)) leases }) others)))

  pub recovers_not : (fault : VaultFault) → r ≡ Err fault → l ≡ record line { vault = l.vault } → (st : State) → StandsFor disk is_seal s st → Settles disk count left is_seal s (Err fault) (over l) st
  recovers_not fault e others = subst (λ (s : StateView V S). (st : State) → StandsFor disk is_seal s st → Settles disk count left is_seal s (Err fault) (over l) st) is
      (λ st stands. subst (λ (x : LineView V S). Settles disk count left is_seal (over line) (Err fault) (over x) st) (sym others)
      (settles_failed disk count left is_seal (over line) doubtful st stands l.vault fault (answered (Err fault) e)))

  pub recovers_unmade : r ≡ Ok false → l ≡ record line { vault = l.vault; stage = stage.Calm } → (st : State) → StandsFor disk is_seal s st → Settles disk count left is_seal s (Ok tt) (over l) st
  recovers_unmade e others = subst (λ (s : StateView V S). (st : State) → StandsFor disk is_seal s st → Settles disk count left is_seal s (Ok tt) (over l) st) is
      (λ st stands. subst (λ (x : LineView V S). Settles disk count left is_seal (over line) (Ok tt) (over x) st) (sym others)
      (settles_unmade disk count left is_seal (over line) doubtful st stands l.vault (answered (Ok false) e)))

  pub recovers_made : r ≡ Ok true → l ≡ swapped line l.vault → (after : StateView V S) → after ≡ record (over l) { leases = ended (newest_token (published l)) leases } → (st : State) → StandsFor disk is_seal s st
      → Settles disk count left is_seal s (Ok tt) after st
  recovers_made e others after ends = subst (λ (s : StateView V S). (st : State) → StandsFor disk is_seal s st → Settles disk count left is_seal s (Ok tt) after st) is
      (λ st stands. settles_made disk count left is_seal (over line) doubtful st stands after l.vault (answered (Ok true) e)
      (λ x newest_. ends ∙ ap (λ (y : LineView V S). record (over y) { leases = ended (newest_token (published y)) leases }) others
      ∙ ap (λ (o : Option Record). record (over (swapped line l.vault)) { leases = ended (token_in o) leases }) newest_))
