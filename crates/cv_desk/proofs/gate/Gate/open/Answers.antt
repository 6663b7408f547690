use Rattle.std.proofs.Common.{rules}
use Rattle.cv_desk.proofs.Opened.{gate_opened, gate_new}
use Rattle.cv_desk.proofs.gate.Gate.open.Goals as goal

pub returns-in-Ok-open-clause-opens : goal.returns-in-Ok-open-clause-opens
returns-in-Ok-open-clause-opens g c = λ d told. gate_opened g.V.Vault.disk g.V.Vault.count g.V.Vault.left g.S.Signer.is_seal c.args.name c.args.signer d c.args.vault c.in-Ok-open.line c.opening_finds_what_is_kept.ensures.found c.opening_keeps_what_is_kept.ensures.makes
    (c.in-Ok-open.ensures.opens d told) c.in-Ok-open.ensures.line c.new.result.known _ (search rules)

pub returns-in-Ok-open-clause-new : goal.returns-in-Ok-open-clause-new
returns-in-Ok-open-clause-new g c = gate_new c.args.name c.args.signer c.in-Ok-open.line c.in-Ok-open.ensures.line c.new.result.known c.new.ensures.unknown _ (search rules)
