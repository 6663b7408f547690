use Rattle.std.proofs.Common.{◌≡◌, ◌++◌, vec_len}
use Rattle.cv_checkout.proofs.naming.put_first.Given as goal

abbrev pub invariant-left : goal.invariant-left
invariant-left l = l.left.items ++ l.wanted.items ≡ l.fn.first.items ++ l.initial.wanted.items

abbrev pub decreases-left : goal.decreases-left
decreases-left l = vec_len l.left
