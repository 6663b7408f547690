use Rattle.std.proofs.Common.{◌∙◌, ap, refl}
use Rattle.cv_publisher.specs.Taking.{behind_commit, commit_lost, commit_said}
use Rattle.cv_publisher.proofs.stepping.after_commit.Goals as goal

pub returns-in-Ok : goal.returns-in-Ok
returns-in-Ok c = commit_said (c.behind_commit.ensures ∙ ap (behind_commit c.args.offer) c.in-Ok.ensures)

pub returns-in-Err : goal.returns-in-Err
returns-in-Err c = commit_lost refl
