use Rattle.std.proofs.Common.{◌≡◌, ◌==◌, rules, refl}
use Rattle.std.specs.List.{count_by}
use Rattle.cv_vault.proofs.Failing.{later_next, past_the_last}
use Rattle.cv_vault.proofs.schedule.Schedule.next.Goals as goal

pub returns-in_default-clause-fate : goal.returns-in_default-clause-fate
returns-in_default-clause-fate c = rw (past_the_last c.args.self.now.calls (c.in_default.ensures)) refl

pub returns-then-fails-clause-later : goal.returns-then-fails-clause-later
returns-then-fails-clause-later c =
    let times : c.count-times.result ≡ count_by (λ k. k == c.in-Some.number) c.args.self.now.failing.items = search rules in
    later_next c.args.self.now.failing.items c.args.self.now.calls c.in-Some.number c.count-times.result c.of-fate.result c.in-Some.ensures.1 times c.of-fate.ensures

pub returns-else-fails-clause-later : goal.returns-else-fails-clause-later
returns-else-fails-clause-later c =
    let times : c.count-times.result ≡ count_by (λ k. k == c.in-Some.number) c.args.self.now.failing.items = search rules in
    later_next c.args.self.now.failing.items c.args.self.now.calls c.in-Some.number c.count-times.result c.of-fate.result c.in-Some.ensures.1 times c.of-fate.ensures
