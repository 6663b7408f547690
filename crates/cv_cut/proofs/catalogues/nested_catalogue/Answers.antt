use Rattle.std.proofs.Common.{◌∙◌}
use Rattle.cv_base.proofs.Laws.{left_by}
use Rattle.cv_cut.specs.Opening.{OpensNested}
use Rattle.cv_cut.proofs.Opening.{nested_unsized, opens_found, nested_long}
use Rattle.cv_cut.proofs.catalogues.nested_catalogue.Goals as goal

pub returns-in_err-check_size-clause-told : goal.returns-in_err-check_size-clause-told
returns-in_err-check_size-clause-told g c = λ standing told.
    left_by (OpensNested standing c.args.id.now c.args.catalogue.now c.args.nested.now) _ _ c.from_residual.ensures.1
    (nested_unsized standing c.args.id.now c.args.catalogue.now c.args.nested.now _ (c.in_err-check_size.ensures.told standing told))

pub returns-in_err-check_size-clause-deeper : goal.returns-in_err-check_size-clause-deeper
returns-in_err-check_size-clause-deeper g c = nested_long c.args.catalogue.now c.args.nested.now c.requires.rules c.requires.entry

pub returns-clause-told : goal.returns-clause-told
returns-clause-told g c = λ standing told.
    opens_found standing c.args.id.now c.args.catalogue.now c.args.nested.now c.row_at-row.result c.catalogue_at.result c.requires.rules c.requires.entry c.row_at-row.ensures.row
    (c.in_ok-check_size.ensures.told standing told) (c.catalogue_at.ensures.told standing (c.check_size.ensures.unchanged ∙ told))

pub returns-clause-deeper : goal.returns-clause-deeper
returns-clause-deeper g c = nested_long c.args.catalogue.now c.args.nested.now c.requires.rules c.requires.entry
