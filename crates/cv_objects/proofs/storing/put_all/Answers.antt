use Rattle.cv_objects.proofs.Looking.{handed_on}
use Rattle.cv_objects.proofs.Stores.{put_unsettled, put_settled}
use Rattle.cv_objects.proofs.storing.put_all.Goals as goal

pub returns-in_err-settle_unless-clause-walks : goal.returns-in_err-settle_unless-clause-walks
returns-in_err-settle_unless-clause-walks g c = λ d e. put_unsettled c.args.batch.now (g.met.V.Vault.only_now c.args.vault.now) e c.in_err-settle_unless.field-0.0 _ (handed_on _ _ c.from_residual.ensures.1) c.in_err-settle_unless.ensures.call

pub returns-clause-walks : goal.returns-clause-walks
returns-clause-walks g c = λ d e. put_settled c.args.batch.now (g.met.V.Vault.only_now c.args.vault.now) e c.write_absent.result c.in_ok-settle_unless.ensures.call c.write_absent.ensures.walks
