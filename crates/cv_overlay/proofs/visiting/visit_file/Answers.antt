use Rattle.std.proofs.Common.{refl, ap, ◌∙◌}
use Rattle.cv_overlay.specs.FoundInner.{FoundView}
use Rattle.cv_overlay.proofs.Visits.{small, file_large, file_read, within, tested}
use Rattle.cv_overlay.proofs.visiting.visit_file.Goals as goal

pub with_file-requires-clause-size : goal.with_file-requires-clause-size
with_file-requires-clause-size g c =
    (small _ _ (tested c.in_ok-object.object.bytes c.as_slice.result.now c.args.found c.sum.result c.is_large.result c.as_slice.ensures c.sum.ensures.value c.is_large.ensures ∙ c.if-is_large.false)).size

pub with_file-requires-clause-sum : goal.with_file-requires-clause-sum
with_file-requires-clause-sum g c =
    (small _ _ (tested c.in_ok-object.object.bytes c.as_slice.result.now c.args.found c.sum.result c.is_large.result c.as_slice.ensures c.sum.ensures.value c.is_large.ensures ∙ c.if-is_large.false)).sum

pub returns-then-is_large-clause-told : goal.returns-then-is_large-clause-told
returns-then-is_large-clause-told g c = λ holds told.
    file_large c.args.path c.args.attr (holds.content c.args.path) c.in_ok-object.object.bytes c.args.found (c.in_ok-object.ensures.told holds told)
    (tested c.in_ok-object.object.bytes c.as_slice.result.now c.args.found c.sum.result c.is_large.result c.as_slice.ensures c.sum.ensures.value c.is_large.ensures ∙ c.if-is_large.true)

pub returns-clause-told : goal.returns-clause-told
returns-clause-told g c = λ holds told.
    file_read c.args.path c.args.attr (holds.content c.args.path) c.in_ok-object.object.bytes c.args.found c.in_ok-found.found (c.in_ok-object.ensures.told holds told)
    (tested c.in_ok-object.object.bytes c.as_slice.result.now c.args.found c.sum.result c.is_large.result c.as_slice.ensures c.sum.ensures.value c.is_large.ensures ∙ c.if-is_large.false)
    c.in_ok-found.ensures

pub returns-clause-within : goal.returns-clause-within
returns-clause-within g c = within c.args.found c.in_ok-found.found c.args.path c.args.path _ (ap (λ (v : FoundView). v.nodes) c.in_ok-found.ensures) refl
