-- What this crate proves for those above it: laws of what stands at a path and of what is set there, and where what a path covers
-- stands in the order of paths.
pub use Rattle.cv_tree.proofs.Fits.{FitsUnder-insert, FitsUnder-subtree_of}
pub use Rattle.cv_tree.proofs.Grafts.{IsTree-put_at, has_place-put_apart}
pub use Rattle.cv_tree.proofs.Maps.{entries-from_entries}
pub use Rattle.cv_tree.proofs.PathLimits.{joined-Ok}
pub use Rattle.cv_tree.proofs.PathRuns.{covers_before, covers_between}
pub use Rattle.cv_tree.proofs.Replacements.{at-at, at-put, at-put_apart, at_rest, find-append, get-at, get-put, kept-put, or_else, put-at}
pub use Rattle.cv_tree.proofs.Shapes.{IsPart-at, IsTree-single, has_place-append, nothing_at, some_directory, single_at}
