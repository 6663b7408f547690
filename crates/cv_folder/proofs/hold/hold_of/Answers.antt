use Rattle.std.proofs.lemmas.Result.{err_from_is_err_and}
use Rattle.std.proofs.Common.{inr}
use Rattle.cv_folder.specs.Hold.{AskedAt}
use Rattle.cv_system.specs.Calls.{Locked, cause_of}
use Rattle.cv_system.proofs.Laws.{call_at, two_calls}
use Rattle.cv_folder.proofs.hold.hold_of.Goals as goal

pub returns-in-Err-clause-asked : goal.returns-in-Err-clause-asked
unfolding AskedAt
returns-in-Err-clause-asked g c =
    (cause_of c.in-Err.error, c.is_absent.ensures.0 c.if-is_absent.true, c.in-Err.ensures.call)

pub returns-in_err-held-clause-fails : goal.returns-in_err-held-clause-fails
returns-in_err-held-clause-fails g c =
    let p = err_from_is_err_and c.from_residual.result c.from_residual.ensures.1 in
    rw (p.1, p.2) (inr (two_calls _ _ _ _ _ c.in-Ok.ensures.call (call_at Locked _ _ _ _ _ c.in-Ok.ensures.place c.in_err-held.ensures.fails)))

pub returns-in-Some-clause-asked : goal.returns-in-Some-clause-asked
unfolding AskedAt
returns-in-Some-clause-asked g c = two_calls _ _ _ _ _ c.in-Ok.ensures.call (call_at Locked _ _ _ _ _ c.in-Ok.ensures.place (rw c.in-Some.is at c.in_ok-held.ensures.given))

pub returns-in-None-clause-asked : goal.returns-in-None-clause-asked
unfolding AskedAt
returns-in-None-clause-asked g c = two_calls _ _ _ _ _ c.in-Ok.ensures.call (call_at Locked _ _ _ _ _ c.in-Ok.ensures.place (rw c.in-None.is at c.in_ok-held.ensures.given))

pub returns-in-Err-clause-known : goal.returns-in-Err-clause-known
returns-in-Err-clause-known g c = λ is. cc

pub returns-in-Some-clause-known : goal.returns-in-Some-clause-known
returns-in-Some-clause-known g c = λ is. cc

pub returns-in-None-clause-known : goal.returns-in-None-clause-known
returns-in-None-clause-known g c = λ is. cc
