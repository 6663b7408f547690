-- What this crate proves for those above it: where a question begins, and where its walk leads, no peer is to blame.
pub use Rattle.cv_resolver.proofs.Progressing.{blameless, begun_blameless}
