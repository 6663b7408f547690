use Rattle.std.proofs.Common.{refl, ◌∙◌}
use Rattle.cv_vault.specs.declared.table.Table.TheInside.{Inside}
use Rattle.cv_vault.proofs.Changing.{PutsOne, table_recorded, adds_recorded, records_put, files_put}
use Rattle.cv_vault.proofs.table.Table.put.Goals as goal

after_put : goal.After-push_reserved → Inside
after_put c = record c.self.inside { entries = c.set_place-name.new.entries; unsettled = c.set_place-name.new.unsettled; changes = c.push_reserved.new.self }

put_one : (c : goal.After-push_reserved) → PutsOne c.self.inside (after_put c) c.args.at c.args.place
unfolding after_put
put_one c = record {
  at = rw (← c.self.view_is) at c.requires.at;
  numbers = refl;
  unsettled = c.set_place-name.ensures.unsettled;
  within = rw (← c.self.view_is) at c.requires.within;
  names = refl;
  contents = refl;
  entries = c.set_place-name.ensures.entries;
  changes = c.push_reserved.ensures.items ∙ (let n = c.set_place-name.ensures.name in cc);
}

pub set_place-name-requires-clause-at : goal.set_place-name-requires-clause-at
set_place-name-requires-clause-at c = rw (← c.self.view_is) at c.requires.at

pub push_reserved-requires : goal.push_reserved-requires
push_reserved-requires c = rw c.self.inside.changes.ok.0 (rw (← c.self.view_is) at c.requires.room)

pub invariant_of-self : goal.invariant_of-self
unfolding after_put
invariant_of-self c = table_recorded c.self.inside (after_put c) _ _ c.self.invariant (records_put c.self.inside (after_put c) c.args.at c.args.place c.self.invariant (put_one c))

pub returns-clause-adds : goal.returns-clause-adds
unfolding after_put
returns-clause-adds c = rw (← c.self.view_is)
    (adds_recorded c.self.inside (after_put c) _ _ (records_put c.self.inside (after_put c) c.args.at c.args.place c.self.invariant (put_one c)) c.push_reserved.ensures.capacity)

pub returns-clause-files : goal.returns-clause-files
unfolding after_put
returns-clause-files c = rw (← c.self.view_is) (files_put c.self.inside (after_put c) c.args.at c.args.place c.self.invariant (put_one c))
