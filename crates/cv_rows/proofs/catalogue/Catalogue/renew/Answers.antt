use Rattle.std.proofs.Common.{◌<◌, ◌^◌, List, sym, subst, arith}
use Rattle.cv_rows.specs.Catalogue.{IsCatalogue}
use Rattle.cv_rows.specs.declared.nested.Nested.{Nested}
use Rattle.cv_rows.proofs.RuleLaws.{contents}
use Rattle.cv_rows.proofs.RenewedLaws.{renewed_is}
use Rattle.cv_rows.proofs.catalogue.Catalogue.renew.Goals as goal

pub invariant_of-self : goal.invariant_of-self
invariant_of-self c =
    let at = c.self.inside.at in
    let rows = c.self.inside.rows.items in
    let small : c.args.size < 2 ^ 64 = omega arith in
    subst (λ (nested : List Nested). IsCatalogue (contents at rows nested)) (sym c.renew_entry.ensures)
    (renewed_is c.args.path.now c.args.hash c.args.size c.requires small (contents at rows c.self.inside.nested.items) c.self.invariant)

pub returns-clause-rules : goal.returns-clause-rules
returns-clause-rules c =
    let at = c.self.inside.at in
    let rows = c.self.inside.rows.items in
    let small : c.args.size < 2 ^ 64 = omega arith in
    subst (λ (nested : List Nested). IsCatalogue (contents at rows nested)) (sym c.renew_entry.ensures)
    (renewed_is c.args.path.now c.args.hash c.args.size c.requires small (contents at rows c.self.inside.nested.items) c.self.invariant)
