use Rattle.cv_swap.proofs.Opens.{opens_not, opens_none, opens_now, opens_or_not, same_fault, vault_fault}
use Rattle.cv_swap.proofs.opening.open_on.Goals as goal

pub returns-in_err-settle-clause-opens : goal.returns-in_err-settle-clause-opens
returns-in_err-settle-clause-opens g c = λ d e. opens_not c.args.name.now (g.S.Signer.is_seal c.args.signer.now) c.in_err-settle.field-0.0 _ (λ s. c.in_err-settle.ensures.memory s) (vault_fault _ _ c.from_residual.ensures.1) (g.met.V.Vault.only_now c.args.objects.now.vault) e c.in_err-settle.ensures.call

pub returns-in_err-found-clause-opens : goal.returns-in_err-found-clause-opens
returns-in_err-found-clause-opens g c = λ d e. opens_none c.args.name.now (g.S.Signer.is_seal c.args.signer.now) (g.met.V.Vault.only_now c.args.objects.now.vault) (g.met.V.Vault.only_now c.settle.new.self.vault) e c.in_ok-settle.ensures.call c.in_err-found.ensures.reads _ c.in_err-found.field-0.0 (same_fault _ _ c.from_residual-in_err-found.ensures.1) c.in_err-found.ensures.told

pub returns-in_err-set_epoch-clause-opens : goal.returns-in_err-set_epoch-clause-opens
returns-in_err-set_epoch-clause-opens g c = λ d e. opens_or_not c.args.name.now (g.S.Signer.is_seal c.args.signer.now) (g.met.V.Vault.only_now c.args.objects.now.vault) (g.met.V.Vault.only_now c.settle.new.self.vault) e c.in_ok-settle.ensures.call c.in_ok-found.ensures.reads c.in_ok-found.found c.in_ok-found.ensures.told c.in_err-set_epoch.field-0.0 _ (vault_fault _ _ c.from_residual-in_err-set_epoch.ensures.1) c.in_err-set_epoch.ensures.walks c.in_err-set_epoch.ensures.memory

pub returns-clause-opens : goal.returns-clause-opens
returns-clause-opens g c = λ d e. opens_now c.args.name.now (g.S.Signer.is_seal c.args.signer.now) (g.met.V.Vault.only_now c.args.objects.now.vault) (g.met.V.Vault.only_now c.settle.new.self.vault) e c.in_ok-settle.ensures.call c.in_ok-found.ensures.reads c.in_ok-found.found c.in_ok-found.ensures.told c.in_ok-set_epoch.ensures.walks

pub returns-in_err-settle-clause-silent : goal.returns-in_err-settle-clause-silent
returns-in_err-settle-clause-silent g c = λ e. c.in_err-settle.ensures.call.silent e

pub returns-in_err-found-clause-silent : goal.returns-in_err-found-clause-silent
returns-in_err-found-clause-silent g c = λ e. c.in_err-found.ensures.reads.silent (c.in_ok-settle.ensures.call.silent e)

pub returns-in_err-set_epoch-clause-silent : goal.returns-in_err-set_epoch-clause-silent
returns-in_err-set_epoch-clause-silent g c = λ e. c.in_err-set_epoch.ensures.silent (c.in_ok-found.ensures.reads.silent (c.in_ok-settle.ensures.call.silent e))

pub returns-clause-silent : goal.returns-clause-silent
returns-clause-silent g c = λ e. c.in_ok-set_epoch.ensures.silent (c.in_ok-found.ensures.reads.silent (c.in_ok-settle.ensures.call.silent e))
