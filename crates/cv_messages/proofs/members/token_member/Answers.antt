use Rattle.std.proofs.Common.{arith}
use Rattle.serde_json.specs.Find.{get}
use Rattle.serde_json.specs.View.{view}
use Rattle.cv_messages.proofs.MemberReads.{token_member-Ok, token_member-Err}
use Rattle.cv_messages.proofs.members.token_member.Goals as goal

pub returns-in-Some : goal.returns-in-Some
returns-in-Some c =
    token_member-Ok c.args.name (get c.args.key.now (view c.args.value.now)) c.in_ok-text.text.now c.in-Some.token c.in_ok-text.ensures
    (record { epoch = omega arith; number = omega arith }) c.in-Some.ensures.value

pub returns-in-None : goal.returns-in-None
returns-in-None c =
    token_member-Err c.args.name (get c.args.key.now (view c.args.value.now)) c.in_ok-text.text.now c.in_ok-text.ensures c.in-None.ensures.found
