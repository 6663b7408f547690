-- What this crate proves for those above it: the elements of an object are its items.
pub use Rattle.cv_json.proofs.Elements.{elements-items_of}
