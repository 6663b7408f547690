use Rattle.std.proofs.Common.{◌≡◌}
use Rattle.cv_top.specs.Status.{line_of, said, what_of, detail_of}
use Rattle.cv_top.proofs.Saying.{line_is}
use Rattle.cv_top.proofs.status.Status.write_line.Goals as goal

pub returns-in_default : goal.returns-in_default
returns-in_default g c =
    let line : line_of c.args.self.now ≡ said (what_of c.args.self.now) (detail_of c.args.self.now) = line_is c.args.self.now c.in_default.not-Done in
    record { whole = rw line c.write_said.ensures.whole; part = rw line c.write_said.ensures.part; cause = c.write_said.ensures.cause }
