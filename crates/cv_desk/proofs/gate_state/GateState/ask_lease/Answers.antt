use Rattle.std.proofs.Common.{rules, subst, ◌≡◌, true, false, Ok}
use Rattle.cv_desk.specs.ActingInner.{FindsPlace, placed, placeless}
use Rattle.cv_desk.proofs.Reading.{sees}
use Rattle.cv_desk.proofs.gate_state.GateState.ask_lease.Goals as goal

pub returns-in-Ok-true-clause-asks : goal.returns-in-Ok-true-clause-asks
returns-in-Ok-true-clause-asks g c =
    let is : c.has_place.result ≡ Ok true = search rules in
    placed c.has_place.new.self (search rules) c.has_place.ensures.looks c.has_place.ensures.fetches (subst (FindsPlace g.V.Vault.disk c.args.self.now c.args.path.now) is c.has_place.ensures.place) (sees g.V.Vault.disk c.args.self.now c.args.path.now c.has_place.result true is c.has_place.ensures.sees) c.grant.ensures

pub returns-in-Ok-false-clause-asks : goal.returns-in-Ok-false-clause-asks
returns-in-Ok-false-clause-asks g c =
    let is : c.has_place.result ≡ Ok false = search rules in
    placeless (search rules) c.has_place.ensures.looks c.has_place.ensures.fetches (subst (FindsPlace g.V.Vault.disk c.args.self.now c.args.path.now) is c.has_place.ensures.place) (sees g.V.Vault.disk c.args.self.now c.args.path.now c.has_place.result false is c.has_place.ensures.sees) c.of.ensures
