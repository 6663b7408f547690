use Rattle.std.proofs.Common.{rules}
use Rattle.std.proofs.lemmas.Result.{err_from_is_err_and}
use Rattle.cv_manifest.proofs.Progress.{progress_more, progress_fault, progress_end}
use Rattle.cv_manifest.proofs.fields.Fields.read.Goals as goal

pub returns-in_err-take_line : goal.returns-in_err-take_line
returns-in_err-take_line c = λ list are is.
    let p = err_from_is_err_and c.from_residual.result c.from_residual.ensures.1 in
    rw (p.1, p.2) (progress_fault _ _ c.in-Some.line.now _ _ _ c.loop-line.invariant c.in-Some.ensures.1 c.in-Some.ensures.0 _ c.in_err-take_line.ensures.refused list are is)

pub loop-line-preserved : goal.loop-line-preserved
loop-line-preserved c =
    progress_more _ _ c.in-Some.line.now _ _ _ _ c.loop-line.invariant c.in-Some.ensures.0 c.in-Some.ensures.1 c.in_ok-take_line.ensures.taken

pub returns : goal.returns
returns c = λ list are is. progress_end _ _ _ _ c.loop-line.invariant (search rules) list are is
