-- What this crate proves for those above it: how a checkout begins in a tree of its root, how it comes on, and what it tells at its end.
pub use Rattle.cv_checkout.proofs.Coming.{comes_on}
pub use Rattle.cv_checkout.proofs.Ending.{has_cuts, next_toward, none_wanted, same_part, same_place, starts_on}
pub use Rattle.cv_checkout.proofs.Gifts.{gives_good}
