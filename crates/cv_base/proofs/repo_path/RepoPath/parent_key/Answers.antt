use Rattle.std.proofs.Common.{◌∙◌}
use Rattle.cv_base.proofs.LastNames.{parent_key_is}
use Rattle.cv_base.proofs.repo_path.RepoPath.parent_key.Goals as goal

pub returns-in-len1-up : goal.returns-in-len1-up
returns-in-len1-up c = c.key_of.ensures ∙ parent_key_is c.args.self.now c.as_slice.result.now (c.as_slice.ensures.value ∙ c.self.view_is) c.in-len1-up.len_at_least
