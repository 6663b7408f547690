use Rattle.std.proofs.Common.{sym, arith}
use Rattle.cv_rows.proofs.RuleLaws.{few_rows, few_nested}
use Rattle.cv_rows.proofs.rules.read.Goals as goal

pub check-requires-clause-rows : goal.check-requires-clause-rows
check-requires-clause-rows c =
    few_rows c.args.bytes.now c.in_ok-rows.rows.items c.deref.result.now c.in_ok-rows.nested.items (λ i. omega (arith, c.type_inv.bytes i)) (sym c.in_ok-rows.ensures) c.deref.ensures.value

pub check-requires-clause-nested : goal.check-requires-clause-nested
check-requires-clause-nested c =
    few_nested c.args.bytes.now c.in_ok-rows.rows.items c.in_ok-rows.nested.items c.deref-2.result.now (λ i. omega (arith, c.type_inv.bytes i)) (sym c.in_ok-rows.ensures) c.deref-2.ensures.value
