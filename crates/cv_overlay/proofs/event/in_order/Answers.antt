use Rattle.cv_overlay.proofs.Events.{one_placed}
use Rattle.cv_overlay.proofs.event.in_order.Goals as goal

pub items-preserved : goal.items-preserved
items-preserved c =
    one_placed c.items.left.items c.pop.new.self.items c.in-Some.item c.items.events.items c.place.new.events.items _ c.in-Some.ensures.items c.in_ok-place.ensures c.items.invariant
