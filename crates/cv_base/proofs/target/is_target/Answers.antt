use Rattle.std.proofs.Common.{rules}
use Rattle.std.proofs.lemmas.Str.{is_utf8-from_IsUtf8}
use Rattle.cv_base.proofs.target.is_target.Goals as goal

pub returns-then-text-le-TARGET_LIMIT : goal.returns-then-text-le-TARGET_LIMIT
returns-then-text-le-TARGET_LIMIT c =
    let text = is_utf8-from_IsUtf8 c.args.text.now c.utf8.text in
    rw text (search rules)
