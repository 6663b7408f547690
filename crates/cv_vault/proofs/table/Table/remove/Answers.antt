use Rattle.std.proofs.Common.{refl, sym, ap, subst, ◌∙◌}
use Rattle.std.specs.Prelude.{IsSome}
use Rattle.cv_vault.specs.Disk.{Slot}
use Rattle.cv_vault.specs.Events.{Event}
use Rattle.cv_vault.specs.TableInner.{entry_at, Makes}
use Rattle.cv_vault.proofs.Reading.{slot_missing}
use Rattle.cv_vault.proofs.Steps.{slot_at, present, missing, moved_torn, removal_is}
use Rattle.cv_vault.proofs.table.Table.remove.Goals as goal

pub returns-in_default-clause-absent : goal.returns-in_default-clause-absent
returns-in_default-clause-absent c =
    let t = c.args.self.now in
    (ap (λ (s : Slot). s.now) (slot_missing t.names t.contents t.entries c.args.name.now (c.in_default.ensures.absent refl)), refl)

pub returns-then-is_none-clause-absent : goal.returns-then-is_none-clause-absent
returns-then-is_none-clause-absent c =
    let t = c.args.self.now in
    (ap (λ (s : Slot). s.now) (slot_at t c.args.name.now c.in-Some.at c.in-Some.ensures.table c.in-Some.ensures.found) ∙ missing t.contents (entry_at t c.in-Some.at).place.now (rw c.place_at-place.ensures.place at c.if-is_none.ensures), refl)

pub change-requires-clause-room : goal.change-requires-clause-room
change-requires-clause-room c =
    let t = c.args.self.now in
    c.requires.room (subst (λ (s : Slot). IsSome s.now) (sym (slot_at t c.args.name.now c.in-Some.at c.in-Some.ensures.table c.in-Some.ensures.found)) (present t.contents (entry_at t c.in-Some.at).place.now (rw c.place_at-place.ensures.place at c.if-is_none.ensures)))

pub returns-clause-there : goal.returns-clause-there
returns-clause-there c =
    let t = c.args.self.now in (
      subst (λ (s : Slot). IsSome s.now) (sym (slot_at t c.args.name.now c.in-Some.at c.in-Some.ensures.table c.in-Some.ensures.found)) (present t.contents (entry_at t c.in-Some.at).place.now (rw c.place_at-place.ensures.place at c.if-is_none.ensures)),
      subst (λ (e : Event). Makes e t c.change.new.self) (removal_is t c.args.name.now c.in-Some.at c.args.made c.removed.result c.in-Some.ensures.table c.in-Some.ensures.found (rw c.place_at-place.ensures.place at c.removed.ensures)) c.change.ensures.makes,
    )

pub change-requires-clause-torn : goal.change-requires-clause-torn
change-requires-clause-torn c = moved_torn c.place_at-place.result c.removed.result _ _ c.removed.ensures
