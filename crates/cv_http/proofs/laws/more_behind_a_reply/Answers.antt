use Rattle.cv_http.proofs.Behind.{reply_behind, refused_behind}
use Rattle.cv_http.proofs.laws.more_behind_a_reply.Goals as goal

pub returns : goal.returns
returns c = record { reply = reply_behind; refused = refused_behind }
