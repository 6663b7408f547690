use Rattle.std.proofs.Common.{List, ◌++◌, Err, sym, ap, subst, ◌∙◌}
use Rattle.cv_rows.specs.Catalogue.{Contents}
use Rattle.cv_rows.specs.Made.{AreApart, AreParts, keys_of, texts_of}
use Rattle.cv_rows.specs.MadeInner.{Judges}
use Rattle.cv_rows.specs.declared.row.Row.{Row}
use Rattle.cv_rows.specs.declared.nested.Nested.{Nested}
use Rattle.cv_rows.proofs.Regions.{full_is, catalogue_made}
use Rattle.cv_rows.proofs.catalogue.Catalogue.with.Goals as goal

pub extend-requires-clause-spelled : goal.extend-requires-clause-spelled
extend-requires-clause-spelled c = λ apart.
    let parts = subst (λ (x : Contents). AreParts x.at (x.rows ++ c.args.rows.items) (x.nested ++ c.args.nested.items)) (sym c.self.view_is) c.requires in
    (parts.region apart).spelled

pub extend-requires-clause-nested_spelled : goal.extend-requires-clause-nested_spelled
extend-requires-clause-nested_spelled c = λ apart.
    let parts = subst (λ (x : Contents). AreParts x.at (x.rows ++ c.args.rows.items) (x.nested ++ c.args.nested.items)) (sym c.self.view_is) c.requires in
    (parts.region apart).nested_spelled

pub rows_by_key-requires : goal.rows_by_key-requires
rows_by_key-requires c = subst (λ (rows : List Row). AreApart (keys_of rows)) (sym c.in-Ok.ensures.rows) c.in-Ok.ensures.judges.0

pub nested_by_text-requires : goal.nested_by_text-requires
nested_by_text-requires c =
    subst (λ (nested : List Nested). AreApart (texts_of nested)) (sym (c.in-Ok.ensures.nested ∙ ap (λ (x : Contents). x.nested ++ c.args.nested.items) c.self.view_is)) c.requires.apart

pub invariant_of-result : goal.invariant_of-result
invariant_of-result c =
    let e = c.in-Ok.ensures in
    let parts = subst (λ (x : Contents). AreParts x.at (x.rows ++ c.args.rows.items) (x.nested ++ c.args.nested.items)) (sym c.self.view_is) c.requires in
    let region = parts.region e.judges.0 in
    catalogue_made c.self.inside.at c.extend.new.rows.items c.rows_by_key.result.items c.extend.new.nested.items c.nested_by_text.result.items
    (rw (e.rows, e.nested) region) (rw (e.rows, e.nested) e.judges.1) c.rows_by_key.ensures.permutation c.nested_by_text.ensures.permutation c.rows_by_key.ensures.sorted c.nested_by_text.ensures.sorted

pub returns-in-Ok-clause-apart : goal.returns-in-Ok-clause-apart
returns-in-Ok-clause-apart c = subst (λ (x : Contents). AreApart (keys_of (x.rows ++ c.args.rows.items))) c.self.view_is c.in-Ok.ensures.judges.0

pub returns-in-Err-clause-full : goal.returns-in-Err-clause-full
returns-in-Err-clause-full c = λ is.
    full_is (c.args.self.rows ++ c.args.rows.items) (c.args.self.nested ++ c.args.nested.items) c.in-Err.fault is
    (subst (λ (x : Contents). Judges (x.rows ++ c.args.rows.items) (x.nested ++ c.args.nested.items) (Err c.in-Err.fault)) c.self.view_is c.in-Err.ensures.judges)

pub returns-in-Ok-clause-rules : goal.returns-in-Ok-clause-rules
returns-in-Ok-clause-rules c =
    let e = c.in-Ok.ensures in
    let parts = subst (λ (x : Contents). AreParts x.at (x.rows ++ c.args.rows.items) (x.nested ++ c.args.nested.items)) (sym c.self.view_is) c.requires in
    let region = parts.region e.judges.0 in
    catalogue_made c.self.inside.at c.extend.new.rows.items c.rows_by_key.result.items c.extend.new.nested.items c.nested_by_text.result.items
    (rw (e.rows, e.nested) region) (rw (e.rows, e.nested) e.judges.1) c.rows_by_key.ensures.permutation c.nested_by_text.ensures.permutation c.rows_by_key.ensures.sorted c.nested_by_text.ensures.sorted
