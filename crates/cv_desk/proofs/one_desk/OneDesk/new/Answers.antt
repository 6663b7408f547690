use Rattle.std.proofs.Common.{List, refl, sym, subst}
use Rattle.cv_gate.specs.Step.{Run}
use Rattle.cv_gate.specs.declared.entry.Entry.{Entry}
use Rattle.cv_desk.specs.OneDesk.{OneDeskView, Stands, view_since}
use Rattle.cv_desk.proofs.Desks.{new_stands}
use Rattle.cv_desk.proofs.one_desk.OneDesk.new.Goals as goal

pub returns-clause-since : goal.returns-clause-since
returns-clause-since g c = λ start st run stands. new_stands g.V.Vault.disk g.S.Signer.is_seal (record { gate = c.args.gate; head = c.head-head.result }) start st c.head-head.ensures.newest run stands

pub returns-clause-stands : goal.returns-clause-stands
returns-clause-stands g c = λ st none stands.
    let d : OneDeskView g.row.V.Denot g.row.S.Denot = record { gate = c.args.gate; head = c.head-head.result } in
    subst (λ (l : List Entry). Stands g.V.Vault.disk g.S.Signer.is_seal d (view_since st l st)) none
    (new_stands g.V.Vault.disk g.S.Signer.is_seal d st st c.head-head.ensures.newest (subst (λ (l : List Entry). Run st l st) (sym none) refl) stands)
