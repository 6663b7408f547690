use Rattle.std.proofs.Common.{sym}
use Rattle.cv_answers.proofs.Found.{is_named-member_of}
use Rattle.cv_answers.proofs.read_refusal.name_member.Goals as goal

pub returns-in-Some-clause-named : goal.returns-in-Some-clause-named
returns-in-Some-clause-named c = is_named-member_of c.in_ok-text.text.now c.in-Some.name (sym c.in-Some.ensures)
