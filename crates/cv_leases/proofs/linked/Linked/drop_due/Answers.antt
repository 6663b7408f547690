use Rattle.std.proofs.Common.{◌∙◌, ◌≤◌, arith, sym, ap}
use Rattle.std.proofs.lemmas.Option.{same_Some}
use Rattle.cv_leases.specs.declared.lease.Lease.{Lease}
use Rattle.cv_leases.proofs.Queues.{not_due, drops_due}
use Rattle.cv_leases.proofs.linked.Linked.drop_due.Goals as goal

pub returns-then-moment-get-clause-dropped : goal.returns-then-moment-get-clause-dropped
returns-then-moment-get-clause-dropped g c =
    not_due c.args.self.now.queue c.args.moment c.in-Some.id c.get.result.now c.requires.rise (sym c.first.ensures.first ∙ c.in-Some.is) c.get.ensures (omega arith)

pub returns-clause-rise : goal.returns-clause-rise
returns-clause-rise g c =
    let over : c.take-ended.result.deadline ≤ c.args.moment = (let same = same_Some _ _ (sym c.get.ensures ∙ c.take-ended.ensures.value) in let is = ap (λ (lease : Lease). lease.deadline) same in omega arith) in
    (drops_due c.args.self.now.queue c.take-ended.new.self.queue c.args.moment c.in-Some.id c.take-ended.result c.requires.rise (sym c.first.ensures.first ∙ c.in-Some.is) c.take-ended.ensures.leases over).rise

pub returns-clause-leases : goal.returns-clause-leases
returns-clause-leases g c =
    let over : c.take-ended.result.deadline ≤ c.args.moment = (let same = same_Some _ _ (sym c.get.ensures ∙ c.take-ended.ensures.value) in let is = ap (λ (lease : Lease). lease.deadline) same in omega arith) in
    (drops_due c.args.self.now.queue c.take-ended.new.self.queue c.args.moment c.in-Some.id c.take-ended.result c.requires.rise (sym c.first.ensures.first ∙ c.in-Some.is) c.take-ended.ensures.leases over).leases

pub returns-clause-dropped : goal.returns-clause-dropped
returns-clause-dropped g c =
    let over : c.take-ended.result.deadline ≤ c.args.moment = (let same = same_Some _ _ (sym c.get.ensures ∙ c.take-ended.ensures.value) in let is = ap (λ (lease : Lease). lease.deadline) same in omega arith) in
    (drops_due c.args.self.now.queue c.take-ended.new.self.queue c.args.moment c.in-Some.id c.take-ended.result c.requires.rise (sym c.first.ensures.first ∙ c.in-Some.is) c.take-ended.ensures.leases over).dropped

pub returns-clause-steps : goal.returns-clause-steps
returns-clause-steps g c =
    let over : c.take-ended.result.deadline ≤ c.args.moment = (let same = same_Some _ _ (sym c.get.ensures ∙ c.take-ended.ensures.value) in let is = ap (λ (lease : Lease). lease.deadline) same in omega arith) in
    let fewer = (drops_due c.args.self.now.queue c.take-ended.new.self.queue c.args.moment c.in-Some.id c.take-ended.result c.requires.rise (sym c.first.ensures.first ∙ c.in-Some.is) c.take-ended.ensures.leases over).dropped in
    let few = c.take-ended.ensures.steps in
    omega (arith, fewer, few)
