use Rattle.std.proofs.Common.{Err, ap, sym, ◌∙◌}
use Rattle.cv_graft.proofs.placing.with_part.Goals as goal

pub unreachable-requires : goal.unreachable-requires
unreachable-requires c = c.requires.keys c.in-Err-Collision.field-0-0.0 (c.in-Err-Collision.ensures.collision c.in-Err-Collision.field-0-0 (ap Err c.in-Err-Collision.field-0-is))

pub returns-in_ok-copy-in-Err-Full : goal.returns-in_ok-copy-in-Err-Full
returns-in_ok-copy-in-Err-Full c = (c.in_ok-copy-in-Err-Full.ensures ∙ sym c.requires.place, (c.in-Err-Full.ensures.full (ap Err c.in-Err-Full.field-0-is)).1)
