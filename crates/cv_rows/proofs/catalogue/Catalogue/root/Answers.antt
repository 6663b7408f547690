use Rattle.std.proofs.Common.{ap, ◌∙◌, subst}
use Rattle.cv_rows.specs.Catalogue.{Contents, IsCatalogue}
use Rattle.cv_rows.proofs.Standing.{has_root}
use Rattle.cv_rows.proofs.catalogue.Catalogue.root.Goals as goal

pub unreachable-requires : goal.unreachable-requires
unreachable-requires c =
    has_root c.args.self.now _ c.deref.result.now (subst IsCatalogue c.self.view_is c.self.invariant) (ap (λ (x : Contents). x.at) c.self.view_is) (c.deref.ensures.value ∙ ap (λ (x : Contents). x.rows) c.self.view_is) c.in-None.ensures
