use Rattle.std.proofs.Common.{◌≡◌, drop}
use Rattle.cv_base.specs.Path.{text_of}
use Rattle.cv_base.proofs.text_order.cmp_texts.Given as goal
use Rattle.cv_base.specs.BytesOrder.{bytes_cmp}

abbrev pub invariant-loop-i : goal.invariant-loop-i
invariant-loop-i l = bytes_cmp (text_of (drop l.i l.a)) (text_of (drop l.i l.b)) ≡ bytes_cmp (text_of l.a) (text_of l.b)
