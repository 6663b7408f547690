use Rattle.std.proofs.Common.{List, sym, ap, subst, ◌∙◌}
use Rattle.std.specs.Prelude.{Contains}
use Rattle.cv_rows.specs.Catalogue.{Contents}
use Rattle.cv_rows.specs.declared.row.Row.{Row}
use Rattle.cv_rows.proofs.catalogue.Catalogue.find.Goals as goal

pub returns-in-None : goal.returns-in-None
returns-in-None c = λ r has is.
    c.in-None.ensures r (subst (λ (rows : List Row). Contains rows r) (sym (c.deref.ensures.value ∙ ap (λ (x : Contents). x.rows) c.self.view_is)) has) is
