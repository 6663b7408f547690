use Rattle.std.proofs.Common.{◌∙◌, true}
use Rattle.std.specs.declared.result.Result.TheVariants.{Ok, Err}
use Rattle.cv_objects.proofs.Looking.{handed_on, same_fault, outside}
use Rattle.cv_objects.proofs.Placing.{placed_now, placed_not, placed_shows}
use Rattle.cv_vault.proofs.Laws.{spares_then, spares_read, spares_rename}
use Rattle.cv_objects.proofs.storing.place_one.Goals as goal

pub returns-in_err-stands-clause-walks : goal.returns-in_err-stands-clause-walks
returns-in_err-stands-clause-walks g c = λ d e waits. placed_shows c.args.object.now _ c.in_err-stands.field-0.0 (same_fault _ _ c.from_residual.ensures.1) c.requires.named waits (c.in_err-stands.ensures.walks d e)

pub returns-in_err-rename-clause-walks : goal.returns-in_err-rename-clause-walks
returns-in_err-rename-clause-walks g c = λ d e waits. placed_not c.args.object.now _ _ (Err c.in_err-rename.field-0.0) _ _ (handed_on _ _ c.from_residual-in_err-rename.ensures.1) (outside c.in_err-rename.field-0.0) (c.as_str.ensures.value ∙ c.in_ok-way.ensures) (c.as_str-2.ensures.value ∙ c.in_ok-name.ensures.name)
    (g.met.V.Vault.only_now c.stands.new.vault) waits (rw c.if-branch.false at c.in_ok-stands.ensures.walks d e) c.in_err-rename.ensures.call

pub returns-then-branch-2-clause-walks : goal.returns-then-branch-2-clause-walks
returns-then-branch-2-clause-walks g c = λ d e waits. placed_now c.args.object.now _ _ (c.as_str.ensures.value ∙ c.in_ok-way.ensures) (c.as_str-2.ensures.value ∙ c.in_ok-name.ensures.name)
    (g.met.V.Vault.only_now c.stands.new.vault) waits (rw c.if-branch.false at c.in_ok-stands.ensures.walks d e) (rw c.if-branch-2.true at c.in_ok-rename.ensures.call)

pub returns-in_err-rename-clause-others : goal.returns-in_err-rename-clause-others
returns-in_err-rename-clause-others g c = spares_then (spares_read c.in_ok-stands.ensures.reads)
    (spares_rename _ _ (Err c.in_err-rename.field-0.0) (λ n p e. p.way (e ∙ (c.as_str.ensures.value ∙ c.in_ok-way.ensures))) (λ n p e. p.name (e ∙ (c.as_str-2.ensures.value ∙ c.in_ok-name.ensures.name))) c.in_err-rename.ensures.call)

pub returns-then-branch-2-clause-others : goal.returns-then-branch-2-clause-others
returns-then-branch-2-clause-others g c = spares_then (spares_read c.in_ok-stands.ensures.reads)
    (spares_rename _ _ (Ok true) (λ n p e. p.way (e ∙ (c.as_str.ensures.value ∙ c.in_ok-way.ensures))) (λ n p e. p.name (e ∙ (c.as_str-2.ensures.value ∙ c.in_ok-name.ensures.name))) (rw c.if-branch-2.true at c.in_ok-rename.ensures.call))
