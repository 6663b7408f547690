use Rattle.std.proofs.Common.{◌≡◌, ◌+◌, drop}
use Rattle.cv_overlay.specs.EventsInner.{place_in}
use Rattle.cv_overlay.proofs.event.place_in.Given as goal

abbrev pub invariant-loop-i : goal.invariant-loop-i
invariant-loop-i l = l.i + place_in l.key (drop l.i l.events.items) ≡ place_in l.key l.events.items
