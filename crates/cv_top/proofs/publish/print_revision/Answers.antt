use Rattle.std.proofs.Common.{refl, subst, ◌∙◌}
use Rattle.cv_ports.specs.Streams.{Wrote}
use Rattle.cv_top.specs.Looks.{printed, unprinted, unwritten}
use Rattle.cv_top.proofs.Saying.{as_piece}
use Rattle.cv_top.proofs.publish.print_revision.Goals as goal

pub returns-in_default-clause-prints : goal.returns-in_default-clause-prints
returns-in_default-clause-prints g c = unwritten refl

pub returns-in-Ok-print-clause-prints : goal.returns-in-Ok-print-clause-prints
returns-in-Ok-print-clause-prints g c = printed (as_piece _ (c.as_slice.ensures.value ∙ c.in-Ok.ensures) c.in-Ok-print.ensures.whole)

pub returns-clause-prints : goal.returns-clause-prints
returns-clause-prints g c = unprinted (subst (Wrote _ _) (c.as_slice.ensures.value ∙ c.in-Ok.ensures) c.in-Err.ensures.part)
