use Rattle.std.proofs.Common.{refl}
use Rattle.cv_vault.proofs.Laws.{stand, gains_none}
use Rattle.cv_objects.specs.Batches.{by_two}
use Rattle.cv_objects.specs.declared.store_fault.StoreFault.TheVariants.{NoMemory}
use Rattle.cv_objects.proofs.Looking.{same_fault}
use Rattle.cv_objects.proofs.Stores.{refusal_inside, clash_twice}
use Rattle.cv_objects.proofs.Seen.{where_ok}
use Rattle.cv_objects.proofs.objects.Objects.store.Goals as goal

pub returns-in-Some-clause-walks : goal.returns-in-Some-clause-walks
returns-in-Some-clause-walks g c = λ d e. stand (g.met.V.Vault.only_now c.args.self.now.vault) e (record { shown = by_two (rw c.in-Some.is at c.in_ok-id.ensures); same = gains_none refl })

pub returns-in_err-id-clause-refused : goal.returns-in_err-id-clause-refused
returns-in_err-id-clause-refused g c = λ refusal. absurd (refusal_inside _ NoMemory (same_fault _ NoMemory c.from_residual.ensures.1) tt refusal)

pub returns-in-Some-clause-refused : goal.returns-in-Some-clause-refused
returns-in-Some-clause-refused g c = λ refusal d e. stand (g.met.V.Vault.only_now c.args.self.now.vault) e tt

pub returns-in_err-id-clause-settled : goal.returns-in_err-id-clause-settled
returns-in_err-id-clause-settled g c = λ d e d' told refusal one. absurd (refusal_inside _ NoMemory (same_fault _ NoMemory c.from_residual.ensures.1) tt refusal)

pub returns-in-Some-clause-settled : goal.returns-in-Some-clause-settled
returns-in-Some-clause-settled g c = λ d e d' told refusal one. absurd (clash_twice (rw c.in-Some.is at c.in_ok-id.ensures) one)

pub invariant_of-self : goal.invariant_of-self
invariant_of-self g c = where_ok c.store_all-result.result _ c.is_ok-self-inside.ensures.value c.store_all-result.ensures.calm
