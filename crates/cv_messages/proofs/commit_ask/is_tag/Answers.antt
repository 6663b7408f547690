use Rattle.std.proofs.Common.{rules}
use Rattle.std.proofs.lemmas.Str.{is_utf8-from_IsUtf8}
use Rattle.cv_messages.proofs.commit_ask.is_tag.Goals as goal

pub returns-then-text-le-TAG_LIMIT : goal.returns-then-text-le-TAG_LIMIT
returns-then-text-le-TAG_LIMIT c =
    let text = is_utf8-from_IsUtf8 c.args.text.now c.utf8.text in
    rw text (search rules)
