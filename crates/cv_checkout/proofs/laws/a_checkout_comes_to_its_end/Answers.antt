use Rattle.cv_checkout.proofs.Counting.{leaves_fewer, most}
use Rattle.cv_checkout.proofs.laws.a_checkout_comes_to_its_end.Goals as goal

pub returns-clause-most : goal.returns-clause-most
returns-clause-most c = most

pub returns-clause-fewer : goal.returns-clause-fewer
returns-clause-fewer c = leaves_fewer
