use Rattle.std.proofs.Common.{refl, rules, Ok, Err}
use Rattle.cv_shell.specs.Turns.{Prints, said_of_renewal, unfetched}
use Rattle.cv_shell.proofs.Turning.{taken}
use Rattle.cv_shell.proofs.turn.renew.Goals as goal

pub returns-in-Err-clause-renews : goal.returns-in-Err-clause-renews
returns-in-Err-clause-renews g c = unfetched c.in-Err.fault c.in-Err.ensures.fetches c.in-Err.ensures.completes refl c.say_fault.ensures.prints

pub returns-in-Ok-renew-clause-renews : goal.returns-in-Ok-renew-clause-renews
returns-in-Ok-renew-clause-renews g c =
    let says : Prints (said_of_renewal c.in-Ok.manifest (Ok c.in-Ok-renew.field-0)) c.printed.result = search rules in
    taken (g.S.Signer.is_seal c.args.signer.now) c.args.url.now (g.N.Dial.came c.args.dial.now) (g.N.Dial.came c.fetch_manifest.new.dial) c.args.resolver.now c.renew.new.self c.printed.result c.in-Ok.manifest (Ok c.in-Ok-renew.field-0) c.in-Ok.ensures.fetches c.in-Ok.ensures.completes
    c.in-Ok-renew.ensures.answer c.in-Ok-renew.ensures.done says

pub returns-in-Err-renew-clause-renews : goal.returns-in-Err-renew-clause-renews
returns-in-Err-renew-clause-renews g c =
    let says : Prints (said_of_renewal c.in-Ok.manifest (Err c.in-Err-renew.fault)) c.printed-in-Err-renew.result = search rules in
    taken (g.S.Signer.is_seal c.args.signer.now) c.args.url.now (g.N.Dial.came c.args.dial.now) (g.N.Dial.came c.fetch_manifest.new.dial) c.args.resolver.now c.renew.new.self c.printed-in-Err-renew.result c.in-Ok.manifest (Err c.in-Err-renew.fault) c.in-Ok.ensures.fetches c.in-Ok.ensures.completes
    c.in-Err-renew.ensures.answer c.in-Err-renew.ensures.unchanged says
