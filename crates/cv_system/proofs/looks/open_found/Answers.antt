use Rattle.std.proofs.lemmas.Result.{err_from_is_err_and}
use Rattle.std.proofs.Common.{inl, inr}
use Rattle.std.specs.Prelude.{IsTrue}
use Rattle.cv_system.specs.Calls.{Checked}
use Rattle.cv_system.proofs.Trying.{call_at, told_before, two_calls}
use Rattle.cv_system.proofs.looks.open_found.Goals.{then-not-is_file-via-then-not-is_file, then-not-is_file-via-else-not-is_file+then-not-is_same}
use Rattle.cv_system.proofs.looks.open_found.Goals as goal

pub returns-clause-place : goal.returns-clause-place
returns-clause-place g c = λ some. c.in_ok-file.ensures.place (told_before _ _ _ c.check.ensures some)

pub returns-clause-opens : goal.returns-clause-opens
returns-clause-opens g c = (
  c.in_ok-opened.opened,
  c.is_file.ensures.0 c.if-not-is_file.false,
  c.is_same.ensures.0 c.if-not-is_same.false,
  two_calls _ _ _ _ _ c.in_ok-file.ensures.call (call_at Checked _ _ _ _ _ c.in_ok-file.ensures.place c.in_ok-opened.ensures),
)

pub returns-in_err-file-clause-fails : goal.returns-in_err-file-clause-fails
returns-in_err-file-clause-fails g c =
    let p = err_from_is_err_and c.from_residual.result c.from_residual.ensures.1 in
    rw (p.1, p.2) (inl c.in_err-file.ensures.call)

pub returns-in_err-opened-clause-fails : goal.returns-in_err-opened-clause-fails
returns-in_err-opened-clause-fails g c =
    let p = err_from_is_err_and c.from_residual-in_err-opened.result c.from_residual-in_err-opened.ensures.1 in
    rw (p.1, p.2) (inr (inl (two_calls _ _ _ _ _ c.in_ok-file.ensures.call (call_at Checked _ _ c.args.path.now _ _ c.in_ok-file.ensures.place c.in_err-opened.ensures))))

pub returns-then-not-is_file-clause-fails : goal.returns-then-not-is_file-clause-fails
returns-then-not-is_file-clause-fails g c = inr (inr (
  c.from.ensures,
  (
    c.in_ok-opened.opened,
    λ file same. elim c.then-not-is_file.branch [
      | then-not-is_file-via-then-not-is_file w ↦ let no = w.if-not-is_file.true in let yes : IsTrue c.is_file.result = c.is_file.ensures.1 file in cc
      | then-not-is_file-via-else-not-is_file+then-not-is_same w ↦ let no = w.if-not-is_same.true in let yes : IsTrue w.is_same.result = w.is_same.ensures.1 same in cc
    ],
    two_calls _ _ _ _ _ c.in_ok-file.ensures.call (call_at Checked _ _ _ _ _ c.in_ok-file.ensures.place c.in_ok-opened.ensures),
  ),
))
