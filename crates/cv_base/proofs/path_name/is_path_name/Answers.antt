use Rattle.std.proofs.Common.{rules}
use Rattle.std.proofs.lemmas.Str.{is_utf8-from_IsUtf8}
use Rattle.cv_base.proofs.path_name.is_path_name.Goals as goal

pub returns-then-has_path_bytes : goal.returns-then-has_path_bytes
returns-then-has_path_bytes c =
    let text = is_utf8-from_IsUtf8 c.args.name.now c.utf8.name in
    rw text (search rules)
