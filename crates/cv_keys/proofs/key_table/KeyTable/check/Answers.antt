use Rattle.std.proofs.Common.{lit<, Some}
use Rattle.std.proofs.lemmas.Str.Pattern.{split_once_first}
use Rattle.cv_keys.proofs.Headers.{checked-cut}
use Rattle.cv_keys.proofs.key_table.KeyTable.check.Goals as goal

pub returns-in-Some-split_once-clause-answer : goal.returns-in-Some-split_once-clause-answer
returns-in-Some-split_once-clause-answer c =
    let header = c.in-Some.header.now in
    let id = c.in-Some-split_once.id in
    let code = c.in-Some-split_once.code in
    let cut = split_once_first 32 header (Some (id, code)) c.in-Some-split_once.ensures.cases (lit< tt) in
    let parts = checked-cut c.args.self.now header id.now code.now c.args.message.now cut.0 cut.1 cut.2 in
    rw (c.in-Some.is, parts) c.check_parts.ensures.answer
