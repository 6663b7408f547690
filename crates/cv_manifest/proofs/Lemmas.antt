-- What this crate proves for those above it: a text is cut at its first newline, and is one manifest or has one fault.
pub use Rattle.cv_manifest.proofs.Cuts.{cut_at, is_newline}
pub use Rattle.cv_manifest.proofs.Exact.{Seals, no_fault, one_reading}
