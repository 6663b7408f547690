use Rattle.std.proofs.lemmas.List.Elements.{All-from_recursion}
use Rattle.cv_rows.specs.Nested.{IsNested, nested_bytes}
use Rattle.cv_rows.proofs.Writing.{goes_on, is_done}
use Rattle.cv_rows.proofs.write.put_entries.Goals as goal

pub put_nested-requires : goal.put_nested-requires
put_nested-requires c = rw c.entry-item.is (All-from_recursion IsNested c.args.nested.now c.requires c.loop-entry.entry-index _ c.loop-entry-test.true)

pub loop-entry-preserved : goal.loop-entry-preserved
loop-entry-preserved c =
    goes_on nested_bytes c.args.nested.now c.loop-entry.entry-index c.entry-item.result c.args.out.now.items c.loop-entry.out.items c.put_nested.new.out.items c.loop-entry-test.true c.entry-item.is c.loop-entry.invariant c.in_ok-put_nested.ensures

pub returns : goal.returns
returns c = is_done nested_bytes c.args.nested.now c.loop-entry.entry-index c.args.out.now.items c.loop-entry.out.items c.loop-entry-test.false c.loop-entry.invariant
