-- What this crate proves for those above it, which cite it from here.

-- names, one or another
pub use Rattle.cv_vault.proofs.Names.{here, elsewhere, same_or_not}
-- what a crash leaves at a settled name, the one image of a calm disk, and names that are left out of account
pub use Rattle.cv_vault.proofs.Calling.{may_settled, calm_image, apart}
-- what comes by a read, a write and a rename
pub use Rattle.cv_vault.proofs.Calling.{reads, writes, renames}
-- reads, one after another: a walk by which nothing comes
pub use Rattle.cv_vault.proofs.Quiet.{quiet_none, quiet_then, quiet_walks, quiet_same, quiet_call}
-- walks, one after another, and with more names left out of account
pub use Rattle.cv_vault.proofs.Walking.{stand, call, bind, looser, leaves_then, leaves_more, gains_none, gains_then, gains_more, within_image, within_then, within_more, may_before}
-- syncs as walks, and what is sure behind one
pub use Rattle.cv_vault.proofs.Replacing.{Outcome, ok, err, sync_ok, sync_err, calm_then, sure_then, sure_waits}
-- a disk on which all is settled
pub use Rattle.cv_vault.proofs.Calming.{calm_sync, calm_reads, calm_call}
-- names that are spared, call by call
pub use Rattle.cv_vault.proofs.Sparing.{spares_none, spares_then, spares_more, spares_read, spares_write, spares_rename}
