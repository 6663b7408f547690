use Rattle.std.proofs.lemmas.Result.{err_from_is_err_and}
use Rattle.std.proofs.Common.{inl, inr}
use Rattle.cv_folder.specs.Writes.{Puts, put}
use Rattle.cv_folder.proofs.Anew.{anew_then}
use Rattle.cv_folder.proofs.Growing.{anew_grows}
use Rattle.cv_system.proofs.Laws.{fails_then}
use Rattle.cv_folder.proofs.putting.put_file.Goals as goal

pub fill-requires : goal.fill-requires
fill-requires g c = c.in_ok-file.ensures.place

pub returns-in_err-file-clause-puts : goal.returns-in_err-file-clause-puts
unfolding Puts
returns-in_err-file-clause-puts g c =
    let p = err_from_is_err_and c.from_residual.result c.from_residual.ensures.1 in
    rw p.1 (inl c.in_err-file.ensures.calls)

pub returns-in_err-file-clause-fails : goal.returns-in_err-file-clause-fails
returns-in_err-file-clause-fails g c =
    let p = err_from_is_err_and c.from_residual.result c.from_residual.ensures.1 in
    rw (p.1, p.2) (inl c.in_err-file.ensures.fails)

pub returns-in-Ok-clause-puts : goal.returns-in-Ok-clause-puts
unfolding Puts
returns-in-Ok-clause-puts g c =
    anew_then c.args.at.now (put c.args.name.now c.args.at.now c.args.path.now c.args.bytes.now) _ _ _ _ c.in_ok-file.ensures.calls c.in-Ok.ensures.tries

pub returns-in-Err-clause-puts : goal.returns-in-Err-clause-puts
unfolding Puts
returns-in-Err-clause-puts g c = inr (_, _, _, c.in_ok-file.ensures.calls, c.in-Err.ensures.tries, c.remove_file.ensures)

pub returns-in-Err-clause-fails : goal.returns-in-Err-clause-fails
returns-in-Err-clause-fails g c = inr (_, _, fails_then (anew_grows c.args.at.now _ _ _ c.in_ok-file.ensures.calls) c.in-Err.ensures.fails, c.remove_file.ensures)
