use Rattle.std.proofs.lemmas.Bool.Decides.{not_from_Decides}
use Rattle.cv_vault.specs.Places.{slot_in}
use Rattle.cv_vault.proofs.Steps.{makes_none, makes_put}
use Rattle.cv_vault.proofs.table.Table.change.Goals as goal

pub returns-then-stands-clause-makes : goal.returns-then-stands-clause-makes
returns-then-stands-clause-makes c =
    let t = c.args.self.now in
    makes_none t c.args.at (slot_in t.contents c.args.place) c.stands.ensures.table c.requires.at (c.stands.ensures.same.0 c.if-stands.true)

pub returns-clause-makes : goal.returns-clause-makes
returns-clause-makes c =
    let t = c.args.self.now in
    makes_put t c.put.new.self c.args.at (slot_in t.contents c.args.place) c.stands.ensures.table c.requires.at (not_from_Decides c.stands.result c.stands.ensures.same c.if-stands.false) c.put.ensures.adds
