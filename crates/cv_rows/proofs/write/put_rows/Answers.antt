use Rattle.std.proofs.lemmas.List.Elements.{All-from_recursion}
use Rattle.cv_rows.specs.Row.{IsRow, row_bytes}
use Rattle.cv_rows.proofs.Writing.{goes_on, is_done}
use Rattle.cv_rows.proofs.write.put_rows.Goals as goal

pub put_row-requires : goal.put_row-requires
put_row-requires c = rw c.row-item.is (All-from_recursion IsRow c.args.rows.now c.requires c.loop-row.row-index _ c.loop-row-test.true)

pub loop-row-preserved : goal.loop-row-preserved
loop-row-preserved c =
    goes_on row_bytes c.args.rows.now c.loop-row.row-index c.row-item.result c.args.out.now.items c.loop-row.out.items c.put_row.new.out.items c.loop-row-test.true c.row-item.is c.loop-row.invariant c.in_ok-put_row.ensures

pub returns : goal.returns
returns c = is_done row_bytes c.args.rows.now c.loop-row.row-index c.args.out.now.items c.loop-row.out.items c.loop-row-test.false c.loop-row.invariant
