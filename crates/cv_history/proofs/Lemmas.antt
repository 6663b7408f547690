-- What this crate proves for those above it: a chain is one, and has no break.
pub use Rattle.cv_history.proofs.ChainLaws.{no_break, one_chain}
