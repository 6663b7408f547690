use Rattle.std.proofs.Common.{refl, ap, ◌∙◌}
use Rattle.cv_base.specs.Path.{parent}
use Rattle.cv_base.proofs.Parents.{no_parent, shortened, parent_limits}
use Rattle.cv_base.proofs.repo_path.RepoPath.into_parent.Goals as goal

pub returns-then-count-eq0 : goal.returns-then-count-eq0
returns-then-count-eq0 c = no_parent c.self.inside.names.items c.as_slice-count.result.now _ refl c.as_slice-count.ensures.value c.if-count-eq0.true ∙ ap parent c.self.view_is

pub invariant_of-result-2 : goal.invariant_of-result-2
invariant_of-result-2 c = parent_limits c.self.inside.names.items c.truncate.new.self.items c.self.invariant (shortened c.self.inside.names.items c.truncate.new.self.items c.as_slice-count.result.now _ refl c.as_slice-count.ensures.value c.truncate.ensures.items)

pub returns : goal.returns
returns c = shortened c.self.inside.names.items c.truncate.new.self.items c.as_slice-count.result.now _ refl c.as_slice-count.ensures.value c.truncate.ensures.items ∙ ap parent c.self.view_is
