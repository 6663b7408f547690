use Rattle.std.proofs.Common.{refl, sym, ap, subst, inl, ◌∙◌}
use Rattle.std.specs.declared.result.Result.TheVariants.{Ok, Err}
use Rattle.std.proofs.lemmas.Result.{err_from_is_err_and}
use Rattle.cv_resolver.specs.Resolver.{Client}
use Rattle.cv_client.specs.Pin.{Pins, client_at, pinned, unpinned, no_room}
use Rattle.cv_client.specs.declared.ask_fault.AskFault.{AskFault}
use Rattle.cv_client.proofs.Clients.{same_client}
use Rattle.cv_client.proofs.Heads.{unfailed_pin}
use Rattle.cv_client.proofs.pinning.pin.Goals as goal

pub returns-clause-pins : goal.returns-clause-pins
returns-clause-pins g c =
    let e = c.in_ok-new.ensures in
    let same = same_client c.in_ok-new.field-0 (client_at c.in_ok-manifest.manifest) e.name e.revision e.root e.empty e.idle in
    subst (λ (r : Client). Pins (g.S.Signer.is_seal c.args.signer.now) c.args.url.now (g.N.Dial.came c.args.dial.now) (g.N.Dial.came c.fetch_manifest.new.dial) (Ok r)) (sym same)
    (pinned c.in_ok-manifest.manifest c.in_ok-manifest.ensures.fetches)

pub returns-in_err-new-clause-pins : goal.returns-in_err-new-clause-pins
returns-in_err-new-clause-pins g c =
    let p = err_from_is_err_and c.from_residual-in_err-new.result c.from_residual-in_err-new.ensures.1 in
    rw (p.1, p.2) (no_room c.in_ok-manifest.manifest c.in_ok-manifest.ensures.fetches)

pub returns-in_err-manifest-clause-pins : goal.returns-in_err-manifest-clause-pins
returns-in_err-manifest-clause-pins g c =
    let p = err_from_is_err_and c.from_residual.result c.from_residual.ensures.1 in
    rw (p.1, p.2) (unpinned c.in_err-manifest.field-0.0 c.in_err-manifest.ensures.fetches)

pub returns-clause-completes : goal.returns-clause-completes
returns-clause-completes g c = λ steady files s text m has says.
    let e = c.in_ok-new.ensures in
    let same = same_client c.in_ok-new.field-0 (client_at c.in_ok-manifest.manifest) e.name e.revision e.root e.empty e.idle in
    ap (λ (r : Client). Ok r) (same ∙ ap client_at (c.in_ok-manifest.ensures.completes files s text m has says))

pub returns-in_err-new-clause-completes : goal.returns-in_err-new-clause-completes
returns-in_err-new-clause-completes g c = λ steady files s text m has says.
    let p = err_from_is_err_and c.from_residual-in_err-new.result c.from_residual-in_err-new.ensures.1 in
    rw (p.1, p.2) (inl refl)

pub returns-in_err-manifest-clause-completes : goal.returns-in_err-manifest-clause-completes
returns-in_err-manifest-clause-completes g c = λ steady files s text m has says.
    let p = err_from_is_err_and c.from_residual.result c.from_residual.ensures.1 in
    rw (p.1, p.2) (unfailed_pin m c.in_err-manifest.field-0.0 (λ is. steady (c.in_err-manifest.ensures.cause.failed (ap (λ (f : AskFault). Err f) is))) (c.in_err-manifest.ensures.completes files s text m has says))
