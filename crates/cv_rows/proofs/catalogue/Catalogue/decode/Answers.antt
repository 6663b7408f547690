use Rattle.std.proofs.Common.{Ok, sym, ap, subst, ◌∙◌, arith}
use Rattle.cv_base.specs.Path.{Path}
use Rattle.cv_rows.specs.Catalogue.{IsCatalogue}
use Rattle.cv_rows.proofs.RuleLaws.{contents, catalogue_is, only_catalogue, no_first_fault}
use Rattle.cv_rows.proofs.catalogue.Catalogue.decode.Goals as goal

pub invariant_of-result : goal.invariant_of-result
invariant_of-result c =
    subst (λ (p : Path). IsCatalogue (contents p c.in-Ok.rows.items c.in-Ok.nested.items)) (sym c.in_ok-copy-in-Ok.ensures)
    (catalogue_is c.args.bytes.now c.args.at.now c.in-Ok.rows.items c.in-Ok.nested.items (λ i. omega (arith, c.type_inv.bytes i)) c.in-Ok.ensures.0 c.in-Ok.ensures.1).0

pub returns-in_ok-copy-in-Ok-clause-found : goal.returns-in_ok-copy-in-Ok-clause-found
returns-in_ok-copy-in-Ok-clause-found c =
    let is = catalogue_is c.args.bytes.now c.args.at.now c.in-Ok.rows.items c.in-Ok.nested.items (λ i. omega (arith, c.type_inv.bytes i)) c.in-Ok.ensures.0 c.in-Ok.ensures.1 in
    (c.in_ok-copy-in-Ok.ensures, subst (λ (p : Path). IsCatalogue (contents p c.in-Ok.rows.items c.in-Ok.nested.items)) (sym c.in_ok-copy-in-Ok.ensures) is.0, is.1)

pub returns-in_ok-copy-in-Ok-clause-only : goal.returns-in_ok-copy-in-Ok-clause-only
returns-in_ok-copy-in-Ok-clause-only c = λ other is place spelled.
    ap Ok (ap (λ (p : Path). contents p c.in-Ok.rows.items c.in-Ok.nested.items) c.in_ok-copy-in-Ok.ensures
    ∙ only_catalogue other c.args.bytes.now c.args.at.now c.in-Ok.rows.items c.in-Ok.nested.items c.in-Ok.ensures.0 is place spelled)

pub returns-in-Err-clause-only : goal.returns-in-Err-clause-only
returns-in-Err-clause-only c = λ other is place spelled. no_first_fault other c.args.bytes.now c.args.at.now c.in-Err.fault c.in-Err.ensures is place spelled
