use Rattle.std.proofs.Common.{arith, sym}
use Rattle.std.proofs.lemmas.Grind.{common_steps}
use Rattle.cv_system.proofs.CutNames.{one_name, first_name}
use Rattle.cv_system.proofs.cut.cut_name.Goals as goal

pub returns-in_err-end-clause-cut : goal.returns-in_err-end-clause-cut
returns-in_err-end-clause-cut c =
    let one = one_name c.args.names.now (sym c.in_err-end.ensures) in
    grind (arith, common_steps)

pub returns-clause-cut : goal.returns-clause-cut
returns-clause-cut c = first_name c.args.names.now c.in_ok-end.end (sym c.in_ok-end.ensures)
