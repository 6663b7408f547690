use Rattle.std.specs.Prelude.{IsErrAnd}
use Rattle.std.proofs.Common.{List, ◌++◌, Result, Ok, Err, sym, ap, subst, ◌∙◌, ◌≡◌, arith, length}
use Rattle.cv_base.proofs.Laws.{all_append}
use Rattle.cv_rows.specs.Row.{IsRow}
use Rattle.cv_rows.specs.Nested.{IsNested}
use Rattle.cv_rows.specs.Catalogue.{Contents, IsRegion}
use Rattle.cv_rows.specs.Made.{AreApart, PassesLimit, keys_of, texts_of}
use Rattle.cv_rows.specs.MadeInner.{Judges}
use Rattle.cv_rows.specs.declared.row.Row.{Row}
use Rattle.cv_rows.specs.declared.nested.Nested.{Nested}
use Rattle.cv_rows.specs.declared.with_fault.WithFault.{WithFault}
use Rattle.cv_rows.specs.declared.with_fault.WithFault.TheVariants as fault
use Rattle.cv_rows.proofs.Regions.{full_is}
use Rattle.cv_rows.proofs.Checked.{few, few_entries, checked_is, region_unbroken}
use Rattle.cv_rows.proofs.OneFault.{said}
use Rattle.cv_rows.proofs.catalogue.Catalogue.with_checked.Goals as goal

pub extend-requires-clause-spelled : goal.extend-requires-clause-spelled
extend-requires-clause-spelled c = λ apart. all_append IsRow _ _ c.self.invariant.region.spelled c.requires.spelled

pub extend-requires-clause-nested_spelled : goal.extend-requires-clause-nested_spelled
extend-requires-clause-nested_spelled c = λ apart. all_append IsNested _ _ c.self.invariant.region.nested_spelled c.requires.nested_spelled

full_left : {X : Type 0} (rows : List Row) (nested : List Nested) (r : Result X WithFault) (f : WithFault) → IsErrAnd r (λ e. e ≡ f) → Judges rows nested (Err f) → r ≡ Err fault.Full → AreApart (keys_of rows) × PassesLimit rows nested
full_left rows nested (Ok x) f same judged is = absurd same
full_left rows nested (Err e) f same judged is = let full : e ≡ fault.Full = cc in full_is rows nested f (sym same ∙ full) judged

pub returns-in_err-extend-clause-full : goal.returns-in_err-extend-clause-full
returns-in_err-extend-clause-full c =
    full_left (c.args.self.rows ++ c.args.rows.items) (c.args.self.nested ++ c.args.nested.items) _ _ c.from_residual.ensures.1
    (subst (λ (x : Contents). Judges (x.rows ++ c.args.rows.items) (x.nested ++ c.args.nested.items) (Err c.in_err-extend.field-0.0)) c.self.view_is c.in_err-extend.ensures.judges)

pub rows_by_key-rows-requires : goal.rows_by_key-rows-requires
rows_by_key-rows-requires c = subst (λ (rows : List Row). AreApart (keys_of rows)) (sym c.in_ok-extend.ensures.rows) c.in_ok-extend.ensures.judges.0

pub nested_by_text-nested-requires : goal.nested_by_text-nested-requires
nested_by_text-nested-requires c =
    subst (λ (nested : List Nested). AreApart (texts_of nested)) (sym (c.in_ok-extend.ensures.nested ∙ ap (λ (x : Contents). x.nested ++ c.args.nested.items) c.self.view_is)) c.requires.texts

pub check-requires-clause-rows : goal.check-requires-clause-rows
check-requires-clause-rows c =
    let e = c.in_ok-extend.ensures in
    let le = few c.extend.new.rows.items c.rows_by_key-rows.result.items c.extend.new.nested.items (rw (e.rows, e.nested) e.judges.1) c.rows_by_key-rows.ensures.permutation in
    omega (arith, le, ap (λ (l : List Row). length l) c.deref.ensures.value)

pub check-requires-clause-nested : goal.check-requires-clause-nested
check-requires-clause-nested c =
    let e = c.in_ok-extend.ensures in
    let le = few_entries c.extend.new.rows.items c.extend.new.nested.items c.nested_by_text-nested.result.items (rw (e.rows, e.nested) e.judges.1) c.nested_by_text-nested.ensures.permutation in
    omega (arith, le, ap (λ (l : List Nested). length l) c.deref-2.ensures.value)

pub invariant_of-result : goal.invariant_of-result
invariant_of-result c =
    let e = c.in_ok-extend.ensures in
    checked_is c.self.inside.at c.extend.new.rows.items c.rows_by_key-rows.result.items c.extend.new.nested.items c.nested_by_text-nested.result.items
    (rw e.rows (all_append IsRow _ _ c.self.invariant.region.spelled c.requires.spelled)) (rw e.nested (all_append IsNested _ _ c.self.invariant.region.nested_spelled c.requires.nested_spelled))
    (rw (e.rows, e.nested) e.judges.1) c.rows_by_key-rows.ensures.permutation c.nested_by_text-nested.ensures.permutation
    (rw (sym c.deref.ensures.value, sym c.deref-2.ensures.value) c.in-Ok.ensures)

pub returns-in-Ok-clause-rules : goal.returns-in-Ok-clause-rules
returns-in-Ok-clause-rules c =
    let e = c.in_ok-extend.ensures in
    checked_is c.self.inside.at c.extend.new.rows.items c.rows_by_key-rows.result.items c.extend.new.nested.items c.nested_by_text-nested.result.items
    (rw e.rows (all_append IsRow _ _ c.self.invariant.region.spelled c.requires.spelled)) (rw e.nested (all_append IsNested _ _ c.self.invariant.region.nested_spelled c.requires.nested_spelled))
    (rw (e.rows, e.nested) e.judges.1) c.rows_by_key-rows.ensures.permutation c.nested_by_text-nested.ensures.permutation
    (rw (sym c.deref.ensures.value, sym c.deref-2.ensures.value) c.in-Ok.ensures)

pub returns-in-Ok-clause-apart : goal.returns-in-Ok-clause-apart
returns-in-Ok-clause-apart c = subst (λ (x : Contents). AreApart (keys_of (x.rows ++ c.args.rows.items))) c.self.view_is c.in_ok-extend.ensures.judges.0

pub returns-in_ok-unless_memory-in-Err-clause-none : goal.returns-in_ok-unless_memory-in-Err-clause-none
returns-in_ok-unless_memory-in-Err-clause-none c = λ is region.
    let e = c.in_ok-extend.ensures in
    let was : IsRegion c.self.inside.at (c.self.inside.rows.items ++ c.args.rows.items) (c.self.inside.nested.items ++ c.args.nested.items) =
    subst (λ (x : Contents). IsRegion x.at (x.rows ++ c.args.rows.items) (x.nested ++ c.args.nested.items)) (sym c.self.view_is) region in
    region_unbroken c.self.inside.at c.extend.new.rows.items c.rows_by_key-rows.result.items c.extend.new.nested.items c.nested_by_text-nested.result.items c.in-Err.fault
    (rw (e.rows, e.nested) e.judges.1) c.rows_by_key-rows.ensures.permutation c.nested_by_text-nested.ensures.permutation c.rows_by_key-rows.ensures.sorted c.nested_by_text-nested.ensures.sorted
    (rw (sym c.deref.ensures.value, sym c.deref-2.ensures.value) (said c.in-Err.fault _ c.in_ok-unless_memory-in-Err.ensures c.in-Err.ensures)) (rw (e.rows, e.nested) was)

pub returns-in_ok-unless_memory-in-Err-clause-apart : goal.returns-in_ok-unless_memory-in-Err-clause-apart
returns-in_ok-unless_memory-in-Err-clause-apart c = subst (λ (x : Contents). AreApart (keys_of (x.rows ++ c.args.rows.items))) c.self.view_is c.in_ok-extend.ensures.judges.0
