use Rattle.std.proofs.lemmas.Result.{err_from_is_err_and}
use Rattle.std.proofs.Common.{inl, inr}
use Rattle.cv_system.specs.Calls.{Checked, Read}
use Rattle.cv_system.proofs.Reading.{read_fails, reads_all}
use Rattle.cv_system.proofs.Trying.{call_at, told_before}
use Rattle.cv_system.proofs.looks.read_found.Goals as goal

pub returns-clause-whole : goal.returns-clause-whole
returns-clause-whole g c =
    reads_all c.args.path.now c.args.found.now _ _ _ _ _ c.in_ok-file.ensures.opens _ (call_at Checked _ _ _ _ _ c.in_ok-file.ensures.place c.in_ok-length.ensures)
    (call_at Read _ _ _ _ _ (λ some. c.in_ok-file.ensures.place (told_before _ _ _ c.check.ensures some)) c.read_to_end.ensures)

pub returns-in_err-length-clause-fails : goal.returns-in_err-length-clause-fails
returns-in_err-length-clause-fails g c =
    let p = err_from_is_err_and c.from_residual-in_err-length.result c.from_residual-in_err-length.ensures.1 in
    rw (p.1, p.2) (inr (_, c.in_ok-file.ensures.opens, inl (call_at Checked _ _ c.args.path.now _ _ c.in_ok-file.ensures.place c.in_err-length.ensures)))

pub returns-clause-fails : goal.returns-clause-fails
returns-clause-fails g c =
    read_fails c.args.path.now c.args.found.now _ _ _ _ _ c.in_ok-file.ensures.opens _ (call_at Checked _ _ _ _ _ c.in_ok-file.ensures.place c.in_ok-length.ensures)
    (call_at Read _ _ _ _ _ (λ some. c.in_ok-file.ensures.place (told_before _ _ _ c.check.ensures some)) c.read_to_end.ensures)
