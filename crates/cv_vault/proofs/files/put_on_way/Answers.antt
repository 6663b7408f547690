use Rattle.std.proofs.Common.{ap}
use Rattle.std.specs.declared.result.Result.TheVariants.{Err}
use Rattle.cv_base.proofs.Laws.{handed_on}
use Rattle.cv_vault.proofs.Replacing.{put, put_not, put_unsure, ok, err}
use Rattle.cv_vault.proofs.Sparing.{spares_then, spares_write, spares_sync}
use Rattle.cv_vault.proofs.files.put_on_way.Goals as goal

pub returns-in_err-write-clause-walks : goal.returns-in_err-write-clause-walks
returns-in_err-write-clause-walks g c = λ d e. put_not c.args.way.now c.args.bytes.now c.requires.way (g.met.V.Vault.only_now c.args.vault.now) e c.in_err-write.field-0.0 _ (handed_on _ _ c.from_residual.ensures.1) c.in_err-write.ensures.call

pub returns-in_err-sync-clause-walks : goal.returns-in_err-sync-clause-walks
returns-in_err-sync-clause-walks g c = λ d e. put_unsure c.args.way.now c.args.bytes.now c.requires.way (g.met.V.Vault.only_now c.args.vault.now) e (g.met.V.Vault.only_now c.write.new.self) c.in_ok-write.ensures.call c.in_err-sync.field-0.0 _ (handed_on _ _ c.from_residual-in_err-sync.ensures.1) (λ s. c.in_err-sync.ensures.memory (ap Err s)) c.in_err-sync.ensures.call

pub returns-clause-walks : goal.returns-clause-walks
returns-clause-walks g c = λ d e. put c.args.way.now c.args.bytes.now c.requires.way (g.met.V.Vault.only_now c.args.vault.now) e (g.met.V.Vault.only_now c.write.new.self) c.in_ok-write.ensures.call c.in_ok-sync.ensures.call

pub returns-in_err-write-clause-others : goal.returns-in_err-write-clause-others
returns-in_err-write-clause-others g c = spares_write _ c.args.bytes.now (err c.in_err-write.field-0.0) (λ n p. p) c.in_err-write.ensures.call

pub returns-in_err-sync-clause-others : goal.returns-in_err-sync-clause-others
returns-in_err-sync-clause-others g c = spares_then (spares_write _ c.args.bytes.now ok (λ n p. p) c.in_ok-write.ensures.call) (spares_sync (err c.in_err-sync.field-0.0) c.in_err-sync.ensures.call)

pub returns-clause-others : goal.returns-clause-others
returns-clause-others g c = spares_then (spares_write _ c.args.bytes.now ok (λ n p. p) c.in_ok-write.ensures.call) (spares_sync ok c.in_ok-sync.ensures.call)
