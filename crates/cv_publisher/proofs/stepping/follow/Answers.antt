use Rattle.std.proofs.Common.{ap, subst, sym}
use Rattle.cv_publisher.specs.Holding.{IsHeld}
use Rattle.cv_publisher.specs.declared.stepping.Step.{Step}
use Rattle.cv_publisher.proofs.Held.{held_commit, held_lease}
use Rattle.cv_publisher.proofs.stepping.follow.Goals as goal

pub returns-in-Leasing-clause-held : goal.returns-in-Leasing-clause-held
returns-in-Leasing-clause-held g c =
    subst (IsHeld c.args.plan.now) (sym (ap (λ (s : Step). s.stage) c.unread.ensures)) (held_lease c.args.plan.now c.args.reply c.after_lease.result c.after_lease.ensures)

pub returns-in-Reading-clause-steps : goal.returns-in-Reading-clause-steps
returns-in-Reading-clause-steps g c = rw c.in-Reading.is c.after_manifest.ensures.after

pub returns-in-Fetching-clause-steps : goal.returns-in-Fetching-clause-steps
returns-in-Fetching-clause-steps g c =
    rw c.in-Fetching.is
    (ap (λ (s : Step). s.read) c.unread-in-Fetching.ensures, rw (ap (λ (s : Step). s.stage) c.unread-in-Fetching.ensures) c.after_catalogue.ensures.after)

pub returns-in-Sending-clause-steps : goal.returns-in-Sending-clause-steps
returns-in-Sending-clause-steps g c =
    rw c.in-Sending.is
    (ap (λ (s : Step). s.read) c.unread-in-Sending.ensures, rw (ap (λ (s : Step). s.stage) c.unread-in-Sending.ensures) c.after_payload.ensures.after)

pub returns-in-Committing-clause-held : goal.returns-in-Committing-clause-held
returns-in-Committing-clause-held g c =
    subst (IsHeld c.args.plan.now) (sym (ap (λ (s : Step). s.stage) c.unread-in-Committing.ensures))
    (held_commit c.args.plan.now c.args.reply c.in-Committing.offer c.after_commit.result c.after_commit.ensures)
