use Rattle.std.proofs.Common.{◌∙◌}
use Rattle.cv_objects.proofs.Looking.{handed_on}
use Rattle.cv_objects.proofs.Writing.{wrote_new, wrote_fails}
use Rattle.cv_vault.proofs.Laws.{ok, err, spares_then, spares_read, spares_write}
use Rattle.cv_objects.proofs.storing.write_one.Goals as goal

pub returns-in_err-write-clause-walks : goal.returns-in_err-write-clause-walks
returns-in_err-write-clause-walks g c = λ d e. wrote_fails c.args.object.now _ _ (c.as_str.ensures.value ∙ c.in_ok-way.ensures) c.as_slice.ensures (g.met.V.Vault.only_now c.stands.new.vault)
    (rw c.if-branch.false at c.in_ok-stands.ensures.walks d e) c.in_err-write.field-0.0 _ (handed_on _ _ c.from_residual-in_err-write.ensures.1) c.in_err-write.ensures.call

pub returns-clause-walks : goal.returns-clause-walks
returns-clause-walks g c = λ d e. wrote_new c.args.object.now _ _ (c.as_str.ensures.value ∙ c.in_ok-way.ensures) c.as_slice.ensures (g.met.V.Vault.only_now c.stands.new.vault)
    (rw c.if-branch.false at c.in_ok-stands.ensures.walks d e) c.in_ok-write.ensures.call

pub returns-in_err-write-clause-others : goal.returns-in_err-write-clause-others
returns-in_err-write-clause-others g c = spares_then (spares_read c.in_ok-stands.ensures.reads)
    (spares_write _ c.as_slice.result.now (err c.in_err-write.field-0.0) (λ n p e. p.way (e ∙ (c.as_str.ensures.value ∙ c.in_ok-way.ensures))) c.in_err-write.ensures.call)

pub returns-clause-others : goal.returns-clause-others
returns-clause-others g c = spares_then (spares_read c.in_ok-stands.ensures.reads)
    (spares_write _ c.as_slice.result.now ok (λ n p e. p.way (e ∙ (c.as_str.ensures.value ∙ c.in_ok-way.ensures))) c.in_ok-write.ensures.call)
