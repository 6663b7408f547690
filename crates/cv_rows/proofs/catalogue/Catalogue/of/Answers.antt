use Rattle.std.proofs.Common.{◌≡◌, Ok, Err, sym, subst}
use Rattle.cv_base.specs.Path.{Path}
use Rattle.cv_rows.specs.Catalogue.{IsCatalogue}
use Rattle.cv_rows.specs.declared.with_fault.WithFault.TheVariants.{Full}
use Rattle.cv_rows.proofs.RuleLaws.{contents}
use Rattle.cv_rows.proofs.Regions.{judges_as, full_is, catalogue_made}
use Rattle.cv_rows.proofs.catalogue.Catalogue.of.Goals as goal

pub judge-requires-clause-spelled : goal.judge-requires-clause-spelled
judge-requires-clause-spelled c = rw c.deref.ensures.value (λ apart. (c.requires.region apart).spelled)

pub judge-requires-clause-nested_spelled : goal.judge-requires-clause-nested_spelled
judge-requires-clause-nested_spelled c = rw (c.deref.ensures.value, c.deref-2.ensures.value) (λ apart. (c.requires.region apart).nested_spelled)

pub rows_by_key-requires : goal.rows_by_key-requires
rows_by_key-requires c = (judges_as c.args.rows.items _ c.args.nested.items _ (Ok tt) c.deref.ensures.value c.deref-2.ensures.value c.in-Ok.ensures).0

pub invariant_of-result : goal.invariant_of-result
invariant_of-result c =
    let judged = judges_as c.args.rows.items _ c.args.nested.items _ (Ok tt) c.deref.ensures.value c.deref-2.ensures.value c.in-Ok.ensures in
    subst (λ (p : Path). IsCatalogue (contents p c.rows_by_key.result.items c.nested_by_text.result.items)) (sym c.in_ok-at.ensures)
    (catalogue_made c.args.at.now c.args.rows.items c.rows_by_key.result.items c.args.nested.items c.nested_by_text.result.items (c.requires.region judged.0) judged.1 c.rows_by_key.ensures.permutation c.nested_by_text.ensures.permutation c.rows_by_key.ensures.sorted c.nested_by_text.ensures.sorted)

pub returns-in-Ok-clause-apart : goal.returns-in-Ok-clause-apart
returns-in-Ok-clause-apart c = (judges_as c.args.rows.items _ c.args.nested.items _ (Ok tt) c.deref.ensures.value c.deref-2.ensures.value c.in-Ok.ensures).0

pub returns-in-Err-clause-full : goal.returns-in-Err-clause-full
returns-in-Err-clause-full c = λ is.
    let same : c.in-Err.fault ≡ Full = cc in
    full_is c.args.rows.items c.args.nested.items c.in-Err.fault same (judges_as c.args.rows.items _ c.args.nested.items _ (Err c.in-Err.fault) c.deref.ensures.value c.deref-2.ensures.value c.in-Err.ensures)

pub returns-in-Ok-clause-rules : goal.returns-in-Ok-clause-rules
returns-in-Ok-clause-rules c =
    let judged = judges_as c.args.rows.items _ c.args.nested.items _ (Ok tt) c.deref.ensures.value c.deref-2.ensures.value c.in-Ok.ensures in
    subst (λ (p : Path). IsCatalogue (contents p c.rows_by_key.result.items c.nested_by_text.result.items)) (sym c.in_ok-at.ensures)
    (catalogue_made c.args.at.now c.args.rows.items c.rows_by_key.result.items c.args.nested.items c.nested_by_text.result.items (c.requires.region judged.0) judged.1 c.rows_by_key.ensures.permutation c.nested_by_text.ensures.permutation c.rows_by_key.ensures.sorted c.nested_by_text.ensures.sorted)
