use Rattle.std.proofs.Common.{refl, sym, ap, ◌∙◌}
use Rattle.cv_vault.specs.Places.{slot_in}
use Rattle.cv_vault.specs.declared.place.Place.{Place}
use Rattle.cv_vault.proofs.Reading.{slot_missing}
use Rattle.cv_vault.proofs.Steps.{slot_at}
use Rattle.cv_vault.proofs.table.Table.place_of.Goals as goal

pub returns-in-Some-clause-stands : goal.returns-in-Some-clause-stands
returns-in-Some-clause-stands c =
    let t = c.args.self.now in
    ap (λ (p : Place). slot_in t.contents p) c.place_at.ensures.place ∙ sym (slot_at t c.args.name.now c.in-Some.at c.in-Some.ensures.table c.in-Some.ensures.found)

pub returns-in-None-clause-stands : goal.returns-in-None-clause-stands
returns-in-None-clause-stands c =
    let t = c.args.self.now in
    sym (slot_missing t.names t.contents t.entries c.args.name.now (c.in-None.ensures.absent refl))
