use Rattle.std.proofs.Common.{inl, inr, ◌≢◌, ◌⊎◌}
use Rattle.std.proofs.lemmas.Bool.Decides.{not_from_Decides}
use Rattle.cv_vault.specs.Places.{slot_in}
use Rattle.cv_vault.proofs.Steps.{makes_neither, makes_two, slot_of}
use Rattle.cv_vault.proofs.table.Table.change_two.Goals as goal
use Rattle.cv_vault.proofs.table.Table.change_two.Goals.{else-stands-via-then-stands+else-stands-2, else-stands-via-else-stands}

pub returns-then-stands-2-clause-makes : goal.returns-then-stands-2-clause-makes
returns-then-stands-2-clause-makes c =
    let t = c.args.self.now in
    makes_neither t c.args.at c.args.other (slot_in t.contents c.args.place) (slot_in t.contents c.args.other_place) c.stands.ensures.table c.requires.at c.requires.other
    (c.stands.ensures.same.0 c.if-stands.true) (c.stands-then-stands.ensures.same.0 c.if-stands-2.true)

pub returns-clause-makes : goal.returns-clause-makes
returns-clause-makes c =
    let t = c.args.self.now in
    let s = slot_in t.contents c.args.place in
    let r = slot_in t.contents c.args.other_place in
    let other : (s ≢ slot_of t c.args.at) ⊎ (r ≢ slot_of t c.args.other) = elim c.else-stands.branch [
      | else-stands-via-then-stands+else-stands-2 w ↦ inr (not_from_Decides w.stands-then-stands.result w.stands-then-stands.ensures.same w.if-stands-2.false)
      | else-stands-via-else-stands w ↦ inl (not_from_Decides c.stands.result c.stands.ensures.same w.if-stands.false)
    ] in
    makes_two t c.put_two.new.self c.args.at c.args.other s r c.stands.ensures.table c.requires.at c.requires.other c.requires.apart other c.put_two.ensures.adds
