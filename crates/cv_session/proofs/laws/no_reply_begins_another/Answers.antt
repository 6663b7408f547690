use Rattle.cv_session.proofs.SaidOnce.{no_reply_begins_another}
use Rattle.cv_session.proofs.laws.no_reply_begins_another.Goals as goal

pub returns : goal.returns
returns c = no_reply_begins_another
