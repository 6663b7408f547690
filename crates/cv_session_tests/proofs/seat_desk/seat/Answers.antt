use Rattle.std.proofs.Common.{subst, sym}
use Rattle.cv_manifest.specs.declared.head.Head.{Head}
use Rattle.cv_gate.specs.Desk.{DeskView}
use Rattle.cv_swap.specs.First.{first_revision}
use Rattle.cv_session_tests.specs.Seats.{IsSeat}
use Rattle.cv_session_tests.proofs.Seating.{a_seat_is_seen}
use Rattle.cv_session_tests.proofs.seat_desk.seat.Goals as goal

pub returns : goal.returns
returns c = subst (λ (h : Head). (v : DeskView) × IsSeat h v) (sym c.in_ok-parts.ensures.head) (a_seat_is_seen (first_revision 1700000000))
