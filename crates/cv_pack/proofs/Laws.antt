-- What this crate proves for those above it: what a pack of one object more takes.
pub use Rattle.cv_pack.proofs.Packs.{size_more}
