use Rattle.cv_http.proofs.Numbers.{text_kept, text_dropped}
use Rattle.cv_http.proofs.values.text_or_empty.Goals as goal

pub returns-in-Ok : goal.returns-in-Ok
returns-in-Ok c = text_kept c.args.value.now c.in-Ok.text.now c.in-Ok.ensures.cases.0 c.in-Ok.ensures.cases.1

pub returns-in-Err : goal.returns-in-Err
returns-in-Err c = text_dropped c.args.value.now c.in-Err.ensures.cases.0
