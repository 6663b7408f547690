use Rattle.std.proofs.Common.{◌∙◌}
use Rattle.cv_base.proofs.PathTexts.{bad_name-rest}
use Rattle.cv_base.proofs.repo_path.bad_name.Goals as goal

pub returns-in-len1-up : goal.returns-in-len1-up
returns-in-len1-up c =
    c.first_bad_name.ensures ∙ bad_name-rest c.args.parts.now _ c.in-len1-up.len_at_least c.if-is_empty.ensures
