use Rattle.std.proofs.Common.{◌∙◌}
use Rattle.cv_base.proofs.PathPrefixes.{starts_with-covers}
use Rattle.cv_base.proofs.repo_path.RepoPath.covers.Goals as goal

pub returns : goal.returns
returns c =
    rw (← c.self.view_is, ← c.other.view_is) (c.starts_with.ensures.value
    ∙ rw (c.deref.ensures.value, c.deref-2.ensures.value) (starts_with-covers c.self.inside.names.items c.other.inside.names.items))
