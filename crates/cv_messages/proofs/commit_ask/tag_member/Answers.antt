use Rattle.std.proofs.Common.{[], refl}
use Rattle.std.proofs.lemmas.Str.{is_utf8-from_IsUtf8, IsUtf8-nil}
use Rattle.cv_messages.proofs.commit_ask.tag_member.Goals as goal

pub returns-in_default-clause-limit : goal.returns-in_default-clause-limit
returns-in_default-clause-limit c = rw (is_utf8-from_IsUtf8 [] IsUtf8-nil) refl
