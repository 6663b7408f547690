use Rattle.std.proofs.Common.{sym, arith}
use Rattle.cv_messages.proofs.CommitAsks.{short_root}
use Rattle.cv_messages.proofs.commit_ask.root_digits.Goals as goal

pub returns-in_default-2 : goal.returns-in_default-2
returns-in_default-2 c =
    let short = rw c.in_default.is at c.split_at_checked.ensures.cases in
    sym (short_root c.args.text.now (omega (arith, short)))
