use Rattle.std.proofs.Common.{◌≡◌, None, sym, refl, ◌∙◌}
use Rattle.cv_leases.specs.Leases.{lease_of}
use Rattle.cv_desk.specs.ActingInner.{refusal_on}
use Rattle.cv_desk.specs.CommittingInner.{not_own, own}
use Rattle.cv_desk.proofs.Asking.{own_lease}
use Rattle.cv_desk.proofs.gate_state.GateState.ask_commit.Goals as goal

pub returns-in-Some-clause-asks : goal.returns-in-Some-clause-asks
returns-in-Some-clause-asks g c = not_own c.in-Some.answer (sym c.refusal_on.ensures.answer ∙ c.in-Some.is) refl refl

pub returns-clause-asks : goal.returns-clause-asks
returns-clause-asks g c =
    let none : refusal_on (lease_of c.args.token c.args.self.now.leases) c.args.key.now ≡ None = sym c.refusal_on.ensures.answer ∙ c.in_default.is in
    let mine = own_lease c.args.self.now.leases c.args.key.now c.args.token none in
    own mine.lease none mine.live (c.commit_under.ensures.under mine.lease mine.live)
