use Rattle.cv_vault.proofs.Laws.{calm_call}
use Rattle.cv_objects.proofs.storing.settle_unless.Goals as goal

pub returns-then-settled-clause-call : goal.returns-then-settled-clause-call
returns-then-settled-clause-call g c = calm_call c.args.vault.now (c.requires.calm c.if-settled.true)
