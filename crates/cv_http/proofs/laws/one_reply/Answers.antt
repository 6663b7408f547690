use Rattle.cv_http.proofs.OneReply.{one_reply}
use Rattle.cv_http.proofs.laws.one_reply.Goals as goal

pub returns : goal.returns
returns c = one_reply
