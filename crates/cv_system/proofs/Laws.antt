-- What this crate proves for those above it: of steps and calls, one after another; of calls that are tried up to the first that fails; and
-- of the folders that are seen on the way of a path; of a file that isn't read; of the calls
-- that a sync, a walk, and a sync of files on their way make; and of paths under a top.
pub use Rattle.cv_system.proofs.LastParts.{folder_under, more_under, under}
pub use Rattle.cv_system.proofs.Failing.{fails_now, fails_then, grows, one_fails}
pub use Rattle.cv_system.proofs.Stepping.{looks_so, no_step, one_call, steps_then, steps_wider}
pub use Rattle.cv_system.proofs.Trying.{call_at, failed_so, made_then, told_before, tried_in_vain, tried_one, tried_then, two_calls}
pub use Rattle.cv_system.proofs.Seeing.{all_seen, one_place_more, rest_is}
pub use Rattle.cv_system.proofs.Reading.{reading_fails}
pub use Rattle.cv_system.proofs.WalkCalls.{fails_all_makes, settles_all_makes, sync_fails_make, syncs_make}
pub use Rattle.cv_system.proofs.WaySyncs.{all_ways_make}
