use Rattle.std.proofs.Common.{◌≡◌, get_or, set, get_or-set_other, length-set, List, refl, sym, ap, ◌∙◌}
use Rattle.cv_vault.specs.declared.table.Table.TheInside.{Inside}
use Rattle.cv_vault.specs.TableInner.{any_entry}
use Rattle.cv_vault.specs.declared.table.Entry.{Entry}
use Rattle.cv_vault.proofs.Changing.{PutsBoth, table_recorded, adds_recorded, records_both, files_both}
use Rattle.cv_vault.proofs.table.Table.put_two.Goals as goal

after_put : goal.After-push_reserved → Inside
after_put c = record c.self.inside { entries = c.set_place-other_name.new.entries; unsettled = c.set_place-other_name.new.unsettled; changes = c.push_reserved.new.self }

put_both : (c : goal.After-push_reserved) → PutsBoth c.self.inside (after_put c) c.args.at c.args.place c.args.other c.args.other_place
unfolding after_put
put_both c =
    let one = c.set_place-name.ensures in
    let two = c.set_place-other_name.ensures in
    let es : List Entry = c.self.inside.entries.items in
    let other_name : c.set_place-other_name.result ≡ (get_or es c.args.other any_entry).name =
    (two.name ∙ ap (λ (xs : List Entry). (get_or xs c.args.other any_entry).name) one.entries
    ∙ ap (λ (e : Entry). e.name) (get_or-set_other es c.args.at c.args.other (record (get_or es c.args.at any_entry) { place = c.args.place }) any_entry (λ e. c.requires.apart (sym e)))) in
    record {
      at = rw (← c.self.view_is) at c.requires.at;
      numbers = refl;
      unsettled = two.unsettled;
      within = rw (← c.self.view_is) at c.requires.within;
      other = rw (← c.self.view_is) at c.requires.other;
      other_within = rw (← c.self.view_is) at c.requires.other_within;
      apart = c.requires.apart;
      names = refl;
      contents = refl;
      entries = two.entries ∙ ap (λ (xs : List Entry). set xs c.args.other (record (get_or xs c.args.other any_entry) { place = c.args.other_place })) one.entries;
      changes = c.push_reserved.ensures.items ∙ (let n = one.name in cc);
    }

pub set_place-name-requires-clause-at : goal.set_place-name-requires-clause-at
set_place-name-requires-clause-at c = rw (← c.self.view_is) at c.requires.at

pub set_place-other_name-requires-clause-at : goal.set_place-other_name-requires-clause-at
set_place-other_name-requires-clause-at c =
    let es : List Entry = c.self.inside.entries.items in
    rw (c.set_place-name.ensures.entries, length-set es c.args.at (record (get_or es c.args.at any_entry) { place = c.args.place })) (rw (← c.self.view_is) at c.requires.other)

pub push_reserved-requires : goal.push_reserved-requires
push_reserved-requires c = rw c.self.inside.changes.ok.0 (rw (← c.self.view_is) at c.requires.room)

pub invariant_of-self : goal.invariant_of-self
unfolding after_put
invariant_of-self c = table_recorded c.self.inside (after_put c) _ _ c.self.invariant (records_both c.self.inside (after_put c) c.args.at c.args.place c.args.other c.args.other_place c.self.invariant (put_both c))

pub returns-clause-adds : goal.returns-clause-adds
unfolding after_put
returns-clause-adds c = rw (← c.self.view_is)
    (adds_recorded c.self.inside (after_put c) _ _ (records_both c.self.inside (after_put c) c.args.at c.args.place c.args.other c.args.other_place c.self.invariant (put_both c)) c.push_reserved.ensures.capacity)

pub returns-clause-files : goal.returns-clause-files
unfolding after_put
returns-clause-files c = rw (← c.self.view_is) (files_both c.self.inside (after_put c) c.args.at c.args.place c.args.other c.args.other_place c.self.invariant (put_both c))
