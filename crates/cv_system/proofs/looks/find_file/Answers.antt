use Rattle.std.proofs.Common.{Err, refl}
use Rattle.std.proofs.lemmas.Result.{err_from_is_err_and}
use Rattle.cv_system.specs.Calls.{Looked}
use Rattle.cv_system.proofs.Failing.{fails_now, fails_then, grows}
use Rattle.cv_system.proofs.Stepping.{looks_so, steps_then}
use Rattle.cv_system.proofs.looks.find_file.Goals as goal

pub returns-in_err-seen-clause-finds : goal.returns-in_err-seen-clause-finds
returns-in_err-seen-clause-finds g c =
    let p = err_from_is_err_and c.from_residual.result c.from_residual.ensures.1 in
    rw p.1 (looks_so _ _ _ _ c.seen.ensures)

pub returns-in_err-seen-clause-fails : goal.returns-in_err-seen-clause-fails
returns-in_err-seen-clause-fails g c =
    let p = err_from_is_err_and c.from_residual.result c.from_residual.ensures.1 in
    rw (p.1, p.2) (fails_now (Looked c.args.path.now (Err _)) refl (λ look. c.in_err-seen.ensures.0) c.in_err-seen.ensures.1)

pub returns-in_err-has_folders-clause-finds : goal.returns-in_err-has_folders-clause-finds
returns-in_err-has_folders-clause-finds g c =
    let p = err_from_is_err_and c.from_residual-in_err-has_folders.result c.from_residual-in_err-has_folders.ensures.1 in
    rw p.1 (steps_then (looks_so _ _ _ _ c.seen.ensures) c.has_folders.ensures.looks)

pub returns-in_err-has_folders-clause-fails : goal.returns-in_err-has_folders-clause-fails
returns-in_err-has_folders-clause-fails g c =
    let p = err_from_is_err_and c.from_residual-in_err-has_folders.result c.from_residual-in_err-has_folders.ensures.1 in
    rw (p.1, p.2) (fails_then (grows (looks_so _ _ _ _ c.seen.ensures)) c.in_err-has_folders.ensures.fails)
