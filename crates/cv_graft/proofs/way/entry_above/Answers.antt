use Rattle.std.proofs.Common.{◌<◌, length, sym, subst}
use Rattle.cv_rows.specs.declared.nested.Nested.{Nested}
use Rattle.cv_graft.proofs.Nexts.{none_more, none_all, next_is, next_deeper, next_shorter}
use Rattle.cv_graft.proofs.way.entry_above.Goals as goal

pub returns-then-is_above-clause-deeper : goal.returns-then-is_above-clause-deeper
returns-then-is_above-clause-deeper c =
    let next = next_is c.args.catalogue.now c.nested-entry-items.result.now c.args.path.now c.loop-entry.entry-index c.entry-item.result c.nested-entry-items.ensures c.loop-entry-test.true c.entry-item.is c.if-is_above.ensures in
    subst (λ (n : Nested). length c.args.catalogue.now.at < length n.path) (sym c.in_ok-copy.ensures) (next_deeper c.args.catalogue.now c.args.path.now c.entry-item.result c.requires next)

pub returns-then-is_above-clause-shorter : goal.returns-then-is_above-clause-shorter
returns-then-is_above-clause-shorter c =
    let next = next_is c.args.catalogue.now c.nested-entry-items.result.now c.args.path.now c.loop-entry.entry-index c.entry-item.result c.nested-entry-items.ensures c.loop-entry-test.true c.entry-item.is c.if-is_above.ensures in
    subst (λ (n : Nested). length n.path < length c.args.path.now) (sym c.in_ok-copy.ensures) (next_shorter c.args.catalogue.now c.args.path.now c.entry-item.result next)

pub loop-entry-preserved : goal.loop-entry-preserved
loop-entry-preserved c = none_more c.nested-entry-items.result.now c.args.path.now c.loop-entry.entry-index c.entry-item.result c.loop-entry-test.true c.entry-item.is c.loop-entry.invariant c.if-is_above.ensures

pub returns-clause-found : goal.returns-clause-found
returns-clause-found c = none_all c.args.catalogue.now c.nested-entry-items.result.now c.args.path.now c.loop-entry.entry-index c.nested-entry-items.ensures c.loop-entry-test.false c.loop-entry.invariant
