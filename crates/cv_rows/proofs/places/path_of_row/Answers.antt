use Rattle.std.proofs.Common.{◌-◌, length, ap, arith}
use Rattle.cv_rows.proofs.Walks.{if_path}
use Rattle.cv_rows.proofs.places.path_of_row.Goals as goal

pub returns : goal.returns
returns c = if_path c.args.at.now c.args.rows.now c.args.row (64 - length c.names.result.now) c.path_within.result (omega (arith, ap length c.names.ensures.names)) c.path_within.ensures
