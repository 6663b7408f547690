-- What this crate proves for those above it: what holds of a list of leases that grows or shrinks, and of a lease that is found or isn't refused.
pub use Rattle.cv_leases.proofs.Tables.{HasRoom, not_refused, all_filter, table_filter, table_push, lease_of_token}
pub use Rattle.cv_leases.proofs.Beside.{found_all, apart}
