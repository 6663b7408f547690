use Rattle.std.proofs.Common.{◌≡◌, ◌≤◌, refl, subst}
use Rattle.cv_desk.specs.Gate.{vault_of}
use Rattle.cv_top.specs.Runs.{desk_over, unopened}
use Rattle.cv_top.proofs.Serving.{serves_gate}
use Rattle.cv_top.proofs.stdio.serve.Goals as goal

pub returns-in-Err-clause-serves : goal.returns-in-Err-clause-serves
returns-in-Err-clause-serves g c = rw c.of_open.ensures (unopened c.in-Err.fault c.in-Err.ensures.opens refl refl refl)

pub new-desk-requires : goal.new-desk-requires
new-desk-requires g c = record { idle = c.in-Ok.ensures.new.idle }

pub returns-clause-serves : goal.returns-clause-serves
returns-clause-serves g c =
    let desk : c.new-desk.result ≡ desk_over c.in-Ok.gate = c.new-desk.ensures.desk in
    let talks = rw (desk, c.requires.signed) at c.talk-end.ensures.talks in
    let begins = rw desk at c.new-desk.ensures.stands in
    rw (c.of_end.ensures, c.into_vault.ensures, c.into_gate.ensures.gate)
    (serves_gate g.V.Vault.disk g.V.Vault.count g.V.Vault.left g.met.V.Vault.only_now g.V.Vault.faults g.R.Source.left g.R.Source.given g.R.Source.looks g.W.Sink.taken g.W.Sink.passed g.C.Clock.moments
    c.args.repository.name c.args.repository.signer c.in-Ok.gate c.in-Ok.ensures.new c.alone_is_in_order.ensures c.opening_keeps_what_is_kept.ensures.leaves c.leases_stay_apart.ensures c.args.vault c.in-Ok.ensures.opens
    (subst (λ r. g.V.Vault.faults c.args.vault ≤ g.V.Vault.faults (vault_of r)) c.in-Ok.is c.open.ensures.cause.later) begins
    c.args.keys.now c.talk-end.new.desk c.args.input c.talk-end.result.1 c.args.output.now c.talk-end.new.output c.args.clock.now c.talk-end.new.clock c.talk-end.result.0 talks)
