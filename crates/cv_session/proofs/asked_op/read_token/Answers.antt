use Rattle.std.proofs.Common.{arith}
use Rattle.cv_session.proofs.Asking.{read_token, no_token}
use Rattle.cv_session.proofs.asked_op.read_token.Goals as goal

pub returns-in-Some : goal.returns-in-Some
returns-in-Some c = read_token c.args.text.now c.in-Some.token (record { epoch = omega arith; number = omega arith }) c.in-Some.ensures.value

pub returns-in-None : goal.returns-in-None
returns-in-None c = no_token c.args.text.now c.in-None.ensures.found
