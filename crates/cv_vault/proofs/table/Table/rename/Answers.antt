use Rattle.std.proofs.Common.{refl, sym, ap, subst, ◌∙◌}
use Rattle.std.specs.Prelude.{IsSome}
use Rattle.cv_vault.specs.Disk.{Disk, Slot}
use Rattle.cv_vault.specs.Events.{Event, rename_of}
use Rattle.cv_vault.specs.TableInner.{entry_at, Makes, table_disk}
use Rattle.cv_vault.proofs.Reading.{slot_missing}
use Rattle.cv_vault.proofs.Steps.{slot_at, present, missing, moved_torn, makes_after, rename_is}
use Rattle.cv_vault.proofs.table.Table.rename.Goals as goal

pub returns-in_default-clause-absent : goal.returns-in_default-clause-absent
returns-in_default-clause-absent c =
    let t = c.entry_for.new.self in (
      ap (λ (d : Disk). (d c.args.from.now).now) (sym c.in_ok-to_at.ensures.stays.disk)
          ∙ ap (λ (s : Slot). s.now) (slot_missing t.names t.contents t.entries c.args.from.now (c.in_default.ensures.absent refl)),
      c.in_ok-to_at.ensures.stays,
    )

pub returns-then-is_none-clause-absent : goal.returns-then-is_none-clause-absent
returns-then-is_none-clause-absent c =
    let t = c.entry_for.new.self in (
      ap (λ (d : Disk). (d c.args.from.now).now) (sym c.in_ok-to_at.ensures.stays.disk)
          ∙ ap (λ (s : Slot). s.now) (slot_at t c.args.from.now c.in-Some.from_at c.in-Some.ensures.table c.in-Some.ensures.found)
          ∙ missing t.contents (entry_at t c.in-Some.from_at).place.now (rw c.place_at-place.ensures.place at c.if-is_none.ensures),
      c.in_ok-to_at.ensures.stays,
    )

pub returns-clause-there : goal.returns-clause-there
returns-clause-there c =
    let t = c.args.self.now in
    let u = c.entry_for.new.self in
    let there : IsSome (table_disk u c.args.from.now).now = subst (λ (s : Slot). IsSome s.now) (sym (slot_at u c.args.from.now c.in-Some.from_at c.in-Some.ensures.table c.in-Some.ensures.found))
    (present u.contents (entry_at u c.in-Some.from_at).place.now (rw c.place_at-place.ensures.place at c.if-is_none.ensures)) in (
      subst (λ (d : Disk). IsSome (d c.args.from.now).now) c.in_ok-to_at.ensures.stays.disk there,
      makes_after (rename_of (table_disk t) c.args.from.now c.args.to.now c.args.made) t u c.change_two.new.self c.in_ok-to_at.ensures.stays
          (subst (λ (e : Event). Makes e u c.change_two.new.self)
          (rename_is u c.args.from.now c.args.to.now c.in-Some.from_at c.in_ok-to_at.to_at c.args.made c.renamed.result.0 c.renamed.result.1 c.in-Some.ensures.table c.in-Some.ensures.found c.in_ok-to_at.ensures.at
          (rw (c.place_at-place.ensures.place, c.place_at.ensures.place) at c.renamed.ensures.from) (rw (c.place_at-place.ensures.place, c.place_at.ensures.place) at c.renamed.ensures.to)
          ∙ ap (λ (d : Disk). rename_of d c.args.from.now c.args.to.now c.args.made) c.in_ok-to_at.ensures.stays.disk) c.change_two.ensures.makes),
    )

pub change_two-requires-clause-torn : goal.change_two-requires-clause-torn
change_two-requires-clause-torn c = moved_torn c.place_at-place.result c.renamed.result.0 _ _ c.renamed.ensures.from

pub change_two-requires-clause-other_torn : goal.change_two-requires-clause-other_torn
change_two-requires-clause-other_torn c = moved_torn c.place_at.result c.renamed.result.1 _ _ c.renamed.ensures.to
