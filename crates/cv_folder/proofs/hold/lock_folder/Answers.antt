use Rattle.std.proofs.lemmas.Result.{IfErr-weaker, IfOk-weaker}
use Rattle.std.proofs.Common.{inr}
use Rattle.cv_system.specs.Calls.{Locked}
use Rattle.cv_system.proofs.Laws.{call_at, two_calls}
use Rattle.cv_folder.proofs.hold.lock_folder.Goals as goal

pub returns-clause-given : goal.returns-clause-given
returns-clause-given g c =
    IfOk-weaker c.lock_open.result _ _ (λ held is. two_calls _ _ _ _ _ c.in_ok-open.ensures.call (call_at Locked _ _ _ _ _ c.in_ok-open.ensures.place is)) c.lock_open.ensures.given

pub returns-clause-fails : goal.returns-clause-fails
returns-clause-fails g c =
    IfErr-weaker c.lock_open.result _ _ (λ error is. inr (two_calls _ _ _ _ _ c.in_ok-open.ensures.call (call_at Locked _ _ _ _ _ c.in_ok-open.ensures.place is))) c.lock_open.ensures.fails
