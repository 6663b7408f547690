use Rattle.std.proofs.Common.{sym, Some, None}
use Rattle.cv_system.proofs.LastParts.{last_part_is}
use Rattle.cv_system.proofs.names.last_part.Goals as goal

pub returns-in-Some : goal.returns-in-Some
returns-in-Some c = sym (last_part_is c.args.path.now (Some (c.in-Some.field-0-0, c.in-Some.last)) c.in-Some.ensures.cases).0

pub returns-in-None : goal.returns-in-None
returns-in-None c = sym (last_part_is c.args.path.now None c.in-None.ensures.cases)
