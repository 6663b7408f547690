use Rattle.std.proofs.Common.{refl}
use Rattle.cv_vault.proofs.Laws.{stand, calm_reads}
use Rattle.cv_objects.specs.Batches.{by_two}
use Rattle.cv_objects.specs.declared.store_fault.StoreFault.TheVariants.{NoMemory}
use Rattle.cv_objects.proofs.Looking.{same_fault}
use Rattle.cv_objects.proofs.Noting.{fresh_wants}
use Rattle.cv_objects.proofs.objects.Objects.fresh.Goals as goal

pub returns-in-Some-clause-walks : goal.returns-in-Some-clause-walks
returns-in-Some-clause-walks g c = λ d e. stand (g.met.V.Vault.only_now c.args.self.now.vault) e (refl, by_two (rw c.in-Some.is at c.in_ok-id.ensures))

pub returns-in_err-id-clause-walks : goal.returns-in_err-id-clause-walks
returns-in_err-id-clause-walks g c = λ d e. stand (g.met.V.Vault.only_now c.args.self.now.vault) e (fresh_wants d c.args.batch.now _ (same_fault _ NoMemory c.from_residual.ensures.1))

pub invariant_of-self : goal.invariant_of-self
invariant_of-self g c = λ s. calm_reads c.fresh_ids.ensures.reads (c.self.invariant s)
