use Rattle.std.proofs.Common.{◌≡◌, [], vec_len}
use Rattle.cv_overlay.specs.EventsInner.{placed_all}
use Rattle.cv_overlay.proofs.event.in_order.Given as goal

abbrev pub invariant-items : goal.invariant-items
invariant-items l = placed_all l.left.items l.events.items ≡ placed_all l.fn.items.items []

abbrev pub decreases-items : goal.decreases-items
decreases-items l = vec_len l.left
