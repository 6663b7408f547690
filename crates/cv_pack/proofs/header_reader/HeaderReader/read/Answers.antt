use Rattle.std.proofs.Common.{arith}
use Rattle.std.proofs.lemmas.Result.{err_from_is_err_and}
use Rattle.cv_pack.proofs.Steps.{fault_in_piece}
use Rattle.cv_pack.proofs.header_reader.HeaderReader.read.Goals as goal

pub returns-in_err-take-clause-takes : goal.returns-in_err-take-clause-takes
returns-in_err-take-clause-takes c =
    let p = err_from_is_err_and c.from_residual.result c.from_residual.ensures.1 in
    rw (p.1, p.2) (fault_in_piece c.args.self.now c.loop-used.self _ _ c.in_err-take.field-0.0 (omega arith) c.loop-used.invariant.takes c.in_err-take.ensures.takes)
