use Rattle.std.proofs.Common.{ap}
use Rattle.std.specs.declared.result.Result.TheVariants.{Err}
use Rattle.cv_vault.specs.Walks.{Nothing}
use Rattle.cv_vault.proofs.Laws.{looser}
use Rattle.cv_objects.specs.Batches.{AreReady}
use Rattle.cv_objects.proofs.Lemmas.{same_fault, brings_nothing}
use Rattle.cv_swap.proofs.Bringing.{told_end}
use Rattle.cv_swap.proofs.Shelving.{failed_refused, shelved_failed, then_shelved, then_unrefused}
use Rattle.cv_swap.proofs.publishing.shelve_on.Goals as goal

pub returns-in_err-put-clause-walks : goal.returns-in_err-put-clause-walks
returns-in_err-put-clause-walks g c = λ d e. looser (c.in_err-put.ensures.walks d e) brings_nothing (λ d1 gains s.
    shelved_failed d c.args.batch.now d1 _ _ (same_fault _ _ c.from_residual.ensures.1) (failed_refused d c.args.batch.now d1 _ (λ k. c.in_err-put.ensures.failed (ap Err k)) s.0 gains))

pub returns-clause-walks : goal.returns-clause-walks
returns-clause-walks g c = λ d e. then_shelved c.args.batch.now c.bring.result c.in_ok-put.ensures.one (c.in_ok-put.ensures.walks d e) c.bring.ensures.walks

pub bring-requires-clause-ready : goal.bring-requires-clause-ready
bring-requires-clause-ready g c = told_end {B = λ d. Nothing} {E = λ d. AreReady d c.args.batch.now} c.in_ok-put.ensures.others.silent (λ d e. looser (c.in_ok-put.ensures.walks d e) (λ n f b. b) (λ d1 gains put. put.0))

pub returns-in_err-put-clause-refused : goal.returns-in_err-put-clause-refused
returns-in_err-put-clause-refused g c = λ refusal d e. looser (c.in_err-put.ensures.walks d e) (λ n f b. b) (λ d1 gains shown. tt)

pub returns-clause-refused : goal.returns-clause-refused
returns-clause-refused g c = λ refusal d e. absurd (then_unrefused c.args.batch.now c.bring.result (c.in_ok-put.ensures.walks d e) c.bring.ensures.walks refusal)

pub returns-in_err-put-clause-silent : goal.returns-in_err-put-clause-silent
returns-in_err-put-clause-silent g c = λ e. c.in_err-put.ensures.others.silent e

pub returns-clause-silent : goal.returns-clause-silent
returns-clause-silent g c = λ e. c.bring.ensures.others.silent (c.in_ok-put.ensures.others.silent e)
