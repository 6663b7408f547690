use Rattle.std.proofs.Common.{◌≡◌, take, length}
use Rattle.cv_base.specs.Path.{text_of}
use Rattle.cv_base.proofs.repo_path.RepoPath.text_len.Given as goal

abbrev pub invariant-loop-name : goal.invariant-loop-name
invariant-loop-name l = l.len ≡ length (text_of (take l.name-index l.name-items))
