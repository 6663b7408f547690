use Rattle.std.proofs.Common.{ap}
use Rattle.std.specs.declared.result.Result.TheVariants.{Err}
use Rattle.cv_objects.proofs.Lemmas.{handed_on, same_fault}
use Rattle.cv_swap.proofs.Publish.{inits_not, inits_now, inits_or_not}
use Rattle.cv_swap.proofs.publishing.init_on.Goals as goal

pub returns-in_err-build_first-clause-inits : goal.returns-in_err-build_first-clause-inits
returns-in_err-build_first-clause-inits g c = λ d e. inits_not c.args.batch.now c.args.manifest.now _ _ (same_fault _ _ c.from_residual.ensures.1) (c.in_err-build_first.ensures.walks d e) (λ refusal. c.in_err-build_first.ensures.refused refusal d e)

pub returns-in_err-swap_on-clause-inits : goal.returns-in_err-swap_on-clause-inits
returns-in_err-swap_on-clause-inits g c = λ d e. inits_or_not c.args.batch.now c.args.manifest.now (c.in_ok-build_first.ensures.walks d e) c.in_err-swap_on.field-0.0 _ (handed_on _ _ c.from_residual-in_err-swap_on.ensures.1)
    (g.met.V.Vault.only_now c.build_first.new.objects.vault) (λ wanted. c.in_err-swap_on.ensures.memory (ap Err wanted)) c.in_err-swap_on.ensures.walks

pub returns-clause-inits : goal.returns-clause-inits
returns-clause-inits g c = λ d e. inits_now c.args.batch.now c.args.manifest.now (c.in_ok-build_first.ensures.walks d e) c.in_ok-swap_on.ensures.walks

pub returns-in_err-build_first-clause-silent : goal.returns-in_err-build_first-clause-silent
returns-in_err-build_first-clause-silent g c = λ e. c.in_err-build_first.ensures.silent e

pub returns-in_err-swap_on-clause-silent : goal.returns-in_err-swap_on-clause-silent
returns-in_err-swap_on-clause-silent g c = λ e. c.in_err-swap_on.ensures.silent (c.in_ok-build_first.ensures.silent e)

pub returns-clause-silent : goal.returns-clause-silent
returns-clause-silent g c = λ e. c.in_ok-swap_on.ensures.silent (c.in_ok-build_first.ensures.silent e)
