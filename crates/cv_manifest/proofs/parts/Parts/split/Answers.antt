use Rattle.cv_manifest.proofs.Splits.{has_end, no_parts}
use Rattle.cv_manifest.proofs.parts.Parts.split.Goals as goal

pub returns-in_err-lines : goal.returns-in_err-lines
returns-in_err-lines c = rw c.from_residual.ensures (λ parts has. c.in_err-lines.ensures _ _ (has_end _ parts has))

pub returns-in_err-stated : goal.returns-in_err-stated
returns-in_err-stated c = rw c.from_residual-in_err-stated.ensures (no_parts _ _ _ c.in_ok-lines.ensures c.in_err-stated.ensures)
