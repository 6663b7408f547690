use Rattle.std.proofs.lemmas.Result.{IfErr-weaker, err_from_is_err_and}
use Rattle.std.proofs.Common.{refl}
use Rattle.cv_system.specs.Calls.{Created, Failed, Removed, Done}
use Rattle.cv_system.proofs.Laws.{fails_now, fails_then, one_call, one_fails}
use Rattle.cv_folder.proofs.putting.create_again.Goals as goal

pub returns-in_err-remove_file-clause-fails : goal.returns-in_err-remove_file-clause-fails
returns-in_err-remove_file-clause-fails g c =
    let p = err_from_is_err_and c.from_residual.result c.from_residual.ensures.1 in
    rw (p.1, p.2) (fails_now (Removed c.args.path.now (Failed _)) refl (λ look nothing. look) c.in_err-remove_file.ensures)

pub returns-clause-fails : goal.returns-clause-fails
returns-clause-fails g c =
    IfErr-weaker c.create_new.result _ _ (λ error fails. fails_then (one_call (Removed c.args.path.now Done) tt c.in_ok-remove_file.ensures) fails)
    (one_fails (Created c.args.path.now) (λ out. refl) (λ out look. look) c.create_new.result _ _ c.create_new.ensures.call)
