use Rattle.std.proofs.Common.{◌≡◌, take, string_bytes}
use Rattle.cv_base.specs.Path.{text_of}
use Rattle.cv_base.proofs.repo_path.RepoPath.text.Given as goal

abbrev pub invariant-loop-name : goal.invariant-loop-name
invariant-loop-name l = string_bytes l.text ≡ text_of (take l.name-index l.name-items)
