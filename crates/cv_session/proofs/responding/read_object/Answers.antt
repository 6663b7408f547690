use Rattle.std.proofs.Common.{ap, Ok, Err}
use Rattle.cv_session.proofs.TurnsDone.{at_fetch, gives_object, gives_none, gives_failed, gives_nothing}
use Rattle.cv_session.proofs.responding.read_object.Goals as goal

pub returns-in-Ok-Some-clause-does : goal.returns-in-Ok-Some-clause-does
returns-in-Ok-Some-clause-does g c = λ seal moments.
    at_fetch c.args.id _ c.in-Ok-Some.ensures.does c.in-Ok-Some.ensures.cause
    (gives_object c.args.id c.in-Ok-Some.bytes (ap (λ found. Ok found) c.in-Ok-Some.field-0-is) c.in-Ok-Some.ensures.suits)

pub returns-in-Ok-None-clause-does : goal.returns-in-Ok-None-clause-does
returns-in-Ok-None-clause-does g c = λ seal moments.
    at_fetch c.args.id _ c.in-Ok-None.ensures.does c.in-Ok-None.ensures.cause (gives_none c.args.id (ap (λ found. Ok found) c.in-Ok-None.field-0-is))

pub returns-in-Err-Failed-clause-does : goal.returns-in-Err-Failed-clause-does
returns-in-Err-Failed-clause-does g c = λ seal moments.
    at_fetch c.args.id _ c.in-Err-Failed.ensures.does c.in-Err-Failed.ensures.cause
    (gives_failed c.args.id _ (ap (λ fault. Err fault) c.in-Err-Failed.field-0-is) (λ is. cc) c.in-Err-Failed.ensures.suits)

pub returns-in-Err-Damaged-clause-does : goal.returns-in-Err-Damaged-clause-does
returns-in-Err-Damaged-clause-does g c = λ seal moments.
    at_fetch c.args.id _ c.in-Err-Damaged.ensures.does c.in-Err-Damaged.ensures.cause
    (gives_failed c.args.id _ (ap (λ fault. Err fault) c.in-Err-Damaged.field-0-is) (λ is. cc) c.in-Err-Damaged.ensures.suits)

pub returns-in-Err-NoMemory-clause-does : goal.returns-in-Err-NoMemory-clause-does
returns-in-Err-NoMemory-clause-does g c = λ seal moments.
    at_fetch c.args.id _ c.in-Err-NoMemory.ensures.does c.in-Err-NoMemory.ensures.cause (gives_nothing c.args.id (ap (λ fault. Err fault) c.in-Err-NoMemory.field-0-is))
