use Rattle.std.proofs.Common.{◌∙◌}
use Rattle.cv_base.proofs.LastNames.{last_name_is}
use Rattle.cv_base.proofs.repo_path.RepoPath.last_name.Goals as goal

pub returns-in-Some : goal.returns-in-Some
returns-in-Some c = c.as_str.ensures ∙ last_name_is c.in-Some.last.now c.args.self.now c.deref.result.now (c.deref.ensures.value ∙ c.self.view_is) c.in-Some.ensures.value
