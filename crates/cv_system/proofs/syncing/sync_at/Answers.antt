use Rattle.cv_system.specs.Calls.{Synced}
use Rattle.cv_system.proofs.Trying.{call_at, two_calls}
use Rattle.cv_system.proofs.syncing.sync_at.Goals as goal

pub returns-in-Ok : goal.returns-in-Ok
returns-in-Ok g c = two_calls _ _ _ _ _ c.in-Ok.ensures.call (call_at Synced _ _ _ _ _ c.in-Ok.ensures.place c.sync.ensures)
