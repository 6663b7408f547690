use Rattle.cv_system.specs.Calls.{Synced}
use Rattle.cv_system.proofs.Trying.{call_at}
use Rattle.cv_system.proofs.WaySyncs.{seen_synced}
use Rattle.cv_system.proofs.ways.sync_seen.Goals as goal

pub returns-in-Ok : goal.returns-in-Ok
returns-in-Ok g c =
    seen_synced c.args.path.now c.args.found.now c.sync.result c.told.result _ _ _ c.in-Ok.ensures.opens
    (call_at Synced _ _ c.args.path.now _ _ c.in-Ok.ensures.place c.sync.ensures) c.told.ensures.ok c.told.ensures.lost
