use Rattle.std.proofs.Common.{refl}
use Rattle.cv_top.specs.Runs.{made, unsaid, refused}
use Rattle.cv_top.proofs.init.init.Goals as goal

pub returns-in-Ok-write_first-clause-inits : goal.returns-in-Ok-write_first-clause-inits
returns-in-Ok-write_first-clause-inits g c =
    made (record { now = c.now.result; moment = (c.now.ensures.first, c.now.ensures.later); makes = c.in-Ok.ensures.inits; text = c.in-Ok.ensures.text }) c.in-Ok-write_first.ensures.whole

pub returns-in-Err-write_first-clause-inits : goal.returns-in-Err-write_first-clause-inits
returns-in-Err-write_first-clause-inits g c =
    unsaid (record { now = c.now.result; moment = (c.now.ensures.first, c.now.ensures.later); makes = c.in-Ok.ensures.inits; text = c.in-Ok.ensures.text }) c.in-Err-write_first.ensures.part

pub returns-in-Err-clause-inits : goal.returns-in-Err-clause-inits
returns-in-Err-clause-inits g c =
    rw c.of_init.ensures (refused c.in-Err.fault (record { now = c.now.result; moment = (c.now.ensures.first, c.now.ensures.later); makes = c.in-Err.ensures.inits; text = c.in-Err.ensures.text }) refl)
