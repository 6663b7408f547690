use Rattle.cv_vault.proofs.Laws.{stand}
use Rattle.cv_objects.specs.Batches.{by_two}
use Rattle.cv_objects.specs.declared.store_fault.StoreFault.TheVariants.{NoMemory}
use Rattle.cv_objects.proofs.Looking.{same_fault}
use Rattle.cv_objects.proofs.Stores.{put_wants, clash_twice, put_one}
use Rattle.cv_objects.proofs.objects.Objects.put.Goals as goal

pub returns-in_err-id-clause-walks : goal.returns-in_err-id-clause-walks
returns-in_err-id-clause-walks g c = λ d e. stand (g.met.V.Vault.only_now c.args.self.now.vault) e (put_wants d c.args.batch.now _ (same_fault _ NoMemory c.from_residual.ensures.1))

pub returns-in_err-id-clause-failed : goal.returns-in_err-id-clause-failed
returns-in_err-id-clause-failed g c = λ e. absurd (let w = same_fault _ NoMemory c.from_residual.ensures.1 in cc)

pub returns-in-Some-clause-walks : goal.returns-in-Some-clause-walks
returns-in-Some-clause-walks g c = λ d e. stand (g.met.V.Vault.only_now c.args.self.now.vault) e (by_two (rw c.in-Some.is at c.in_ok-id.ensures), λ refusal one. absurd (clash_twice (rw c.in-Some.is at c.in_ok-id.ensures) one))

pub returns-clause-one : goal.returns-clause-one
returns-clause-one g c = put_one c.put_all.result (rw c.in_default.is at c.in_ok-id.ensures)

pub returns-clause-failed : goal.returns-clause-failed
returns-clause-failed g c = λ e. rw c.in_default.is at c.in_ok-id.ensures

pub returns-in-Some-clause-failed : goal.returns-in-Some-clause-failed
returns-in-Some-clause-failed g c = λ e. absurd (let w = e in cc)
