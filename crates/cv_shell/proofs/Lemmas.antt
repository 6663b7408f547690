-- What the crates above may cite: the lines that were answered tell of the tree at whose root the client was pinned; and a manifest
-- that isn't fetched refuses no question.
pub use Rattle.cv_shell.proofs.Telling.{lines_tell, not_refused}
