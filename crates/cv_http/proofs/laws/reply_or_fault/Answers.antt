use Rattle.cv_http.proofs.OneReply.{not_refused, not_cut}
use Rattle.cv_http.proofs.laws.reply_or_fault.Goals as goal

pub returns : goal.returns
returns c = record { refused = not_refused; cut = not_cut }
