-- What this crate proves for those above it.

-- what holds of a state holds of every later one
pub use Rattle.cv_gate.proofs.Keeping.{IsSettled, by_settling, by_step}
-- the history grows by the journal's commits
pub use Rattle.cv_gate.proofs.Growth.{from_any, none_left}
-- a commit that is ready ends its step
pub use Rattle.cv_gate.proofs.Readying.{ready_ends}
-- openings, crashes and lives
pub use Rattle.cv_gate.proofs.Crashes.{opened, left_sound, crash_before}
pub use Rattle.cv_gate.proofs.Living.{prolongs}
-- What a gate over a disk needs besides to show them of its calls.
pub use Rattle.cv_gate.proofs.Histories.{IsHead, newest_push, newest_is_head, some_newest}
pub use Rattle.cv_gate.proofs.Shelves.{some_of_all}
-- the objects that a commit makes
pub use Rattle.cv_gate.proofs.Effects.{hashed_made}
pub use Rattle.cv_gate.proofs.Keeping.{sound_aged}
pub use Rattle.cv_gate.proofs.Crashes.{left_same, left_gain}
-- leases that stay apart
pub use Rattle.cv_gate.proofs.Leases.{Later, by_ageing, filtered, granted_apart, is_new, ends_last}
-- runs, and calls of a desk, one after another
pub use Rattle.cv_gate.proofs.Runs.{run_on, front_self, calls_on}
