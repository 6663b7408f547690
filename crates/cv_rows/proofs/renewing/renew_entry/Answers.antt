use Rattle.std.proofs.Common.{ap, ◌∙◌, slice_set, get_or}
use Rattle.std.proofs.lemmas.List.{get_or_default}
use Rattle.std.proofs.lemmas.List.Edits.{map_over_more}
use Rattle.cv_rows.specs.Renewed.{renewed}
use Rattle.cv_rows.specs.declared.nested.Nested.{Nested}
use Rattle.cv_rows.proofs.renewing.renew_entry.Goals as goal

pub loop-entry-preserved : goal.loop-entry-preserved
loop-entry-preserved c =
    let items = c.loop-entry.entry-items in
    let i = c.loop-entry.entry-index in
    let x = get_or items i c.entry-item.result in
    ap (λ (e : Nested). slice_set items i e) c.renew_one.ensures
    ∙ map_over_more (renewed c.args.path.now c.args.hash c.args.size) c.deref_mut-entry-items.result.now items i x c.loop-entry-test.true c.loop-entry.invariant
    (get_or_default items i c.entry-item.result x (rw c.loop-entry.auto.entry-items c.loop-entry-test.true))
