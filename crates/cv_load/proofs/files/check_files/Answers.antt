use Rattle.std.proofs.Common.{List, ◌∙◌, subst}
use Rattle.std.specs.Prelude.{Contains}
use Rattle.cv_base.proofs.Laws.{item_there, left_by}
use Rattle.cv_rows.specs.declared.row.Row.{Row}
use Rattle.cv_load.specs.GrowthInner.{HasFiles}
use Rattle.cv_load.proofs.files.check_files.Goals as goal
use Rattle.cv_load.proofs.Sizing.{file_unsized}

pub returns-in_err-check_file-clause-told : goal.returns-in_err-check_file-clause-told
returns-in_err-check_file-clause-told g c = λ standing told.
    let h = c.in_err-check_file.ensures.told standing (c.loop-row.invariant.unchanged ∙ told) in
    let has = item_there c.rows-row-items.result.now c.loop-row.row-index c.row-item.result c.loop-row-test.true c.row-item.is in
    left_by (HasFiles standing c.args.id.now c.args.catalogue.now) _ _ c.from_residual.ensures.1
    (file_unsized standing c.args.id.now c.args.catalogue.now c.row-item.result h.0 _ c.requires (subst (λ (rows : List Row). Contains rows c.row-item.result) c.rows-row-items.ensures.rows has) h.1 h.2 h.3)
