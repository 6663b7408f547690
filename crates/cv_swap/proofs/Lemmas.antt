-- What this crate proves for those above it, which cite it from here.

-- the first revision alone is sound
pub use Rattle.cv_swap.proofs.FirstSound.{first_sound}
-- revisions on a shelf that grows
pub use Rattle.cv_swap.proofs.Growing.{line_more}
-- what files stand for while objects come
pub use Rattle.cv_swap.proofs.Prepared.{objects_added}
-- what an opening leaves, and what files stand for after one that failed
pub use Rattle.cv_swap.proofs.Opens.{leaves_while}
pub use Rattle.cv_swap.proofs.Failed.{failed_stands, unraised_stands}
-- the names of the epoch and of the head are no object's
pub use Rattle.cv_swap.proofs.Names.{epoch_not_data, head_not_data}
