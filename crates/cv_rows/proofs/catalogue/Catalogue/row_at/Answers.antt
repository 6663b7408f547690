use Rattle.std.proofs.Common.{ap, ◌∙◌, subst}
use Rattle.cv_rows.specs.Catalogue.{Contents, IsCatalogue}
use Rattle.cv_rows.proofs.Standing.{has_root, no_key, not_there}
use Rattle.cv_rows.proofs.catalogue.Catalogue.row_at.Goals as goal

pub returns-in_default-clause-row : goal.returns-in_default-clause-row
returns-in_default-clause-row c =
    λ r s. has_root c.args.self.now _ c.deref.result.now (subst IsCatalogue c.self.view_is c.self.invariant) (ap (λ (x : Contents). x.at) c.self.view_is) (c.deref.ensures.value ∙ ap (λ (x : Contents). x.rows) c.self.view_is) c.in_default.ensures

pub returns-in_default-position-clause-row : goal.returns-in_default-position-clause-row
returns-in_default-position-clause-row c =
    no_key c.args.self.now c.deref-2.result.now c.args.path.now _ (subst IsCatalogue c.self.view_is c.self.invariant) (c.deref-2.ensures.value ∙ ap (λ (x : Contents). x.rows) c.self.view_is) c.key.ensures c.in_default-position.ensures

pub returns-else-stands_at-clause-row : goal.returns-else-stands_at-clause-row
returns-else-stands_at-clause-row c =
    not_there c.args.self.now _ c.deref-3.result.now c.deref-2.result.now c.args.path.now c.names.result.now _ c.in-Some-position.row c.stands_at.result (subst IsCatalogue c.self.view_is c.self.invariant) (ap (λ (x : Contents). x.at) c.self.view_is)
    (c.deref-3.ensures.value ∙ ap (λ (x : Contents). x.rows) c.self.view_is) (c.deref-2.ensures.value ∙ ap (λ (x : Contents). x.rows) c.self.view_is) c.names.ensures.names c.key.ensures c.in-Some-position.ensures.0 c.in-Some-position.ensures.1 c.stands_at.ensures c.if-stands_at.false
