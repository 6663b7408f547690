-- The states for which a gate stands, its opening, and its steps. What only this crate's own functions say.
use Rattle.cv_base.specs.Moment.{IsMoment}
use Rattle.cv_gate.specs.Sound.{AreLeases}
use Rattle.cv_desk.specs.Views.{StateView}
use Rattle.cv_desk.specs.Gate.{state_of}

pub record IsState {V S : Type 0} (g : StateView V S) : Type 0 where
  pub leases : AreLeases (state_of g)
  pub moment : IsMoment g.moment
