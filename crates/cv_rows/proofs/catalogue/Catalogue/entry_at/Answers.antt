use Rattle.std.proofs.Common.{List, sym, ap, subst, ◌∙◌}
use Rattle.std.specs.Prelude.{Contains}
use Rattle.cv_rows.specs.Catalogue.{Contents}
use Rattle.cv_rows.specs.declared.nested.Nested.{Nested}
use Rattle.cv_rows.proofs.catalogue.Catalogue.entry_at.Goals as goal

pub returns-in-None-clause-entry : goal.returns-in-None-clause-entry
returns-in-None-clause-entry c = λ n has is.
    c.in-None.ensures n (subst (λ (xs : List Nested). Contains xs n) (sym (c.deref.ensures.value ∙ ap (λ (x : Contents). x.nested) c.self.view_is)) has) is
