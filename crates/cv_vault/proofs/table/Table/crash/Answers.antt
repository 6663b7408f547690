use Rattle.std.proofs.Common.{refl, ap, ◌∙◌}
use Rattle.std.proofs.lemmas.List.{with_items_is}
use Rattle.std.specs.Vec.{with_items}
use Rattle.cv_vault.specs.TableInner.{crashed}
use Rattle.cv_vault.specs.declared.table.Table.TheInside.{Inside}
use Rattle.cv_vault.proofs.Ordered.{numbers_in_range}
use Rattle.cv_vault.proofs.Crashing.{IsCrashed, past_crashed, table_crashed, calm_after, count_after, crashes}
use Rattle.cv_vault.proofs.table.Table.crash.Goals as goal

after_crash : goal.After-clear-2 → Inside
after_crash c = record c.self.inside { entries = with_items c.self.inside.entries c.crash_all.new.entries; unsettled = c.clear.new.self; changes = c.clear-2.new.self }

is_crashed : (c : goal.After-clear-2) → IsCrashed c.args.pick c.self.inside (after_crash c)
unfolding after_crash
is_crashed c = record {
  names = refl;
  contents = refl;
  entries = with_items_is c.self.inside.entries c.crash_all.new.entries (c.crash_all.auto.entries ∙ c.deref_mut.ensures.len)
      ∙ c.crash_all.ensures ∙ ap (crashed c.args.pick c.self.inside.numbers.entries) c.deref_mut.ensures.value;
  numbers = refl;
  unsettled = c.clear.ensures.items;
  room = c.clear.ensures.capacity;
  changes = c.clear-2.ensures.items;
}

pub crash_all-requires : goal.crash_all-requires
crash_all-requires c = rw c.deref_mut.ensures.value (numbers_in_range c.self.inside c.self.invariant)

pub invariant_of-self : goal.invariant_of-self
unfolding after_crash
invariant_of-self c = table_crashed c.args.pick c.self.inside (after_crash c) c.self.invariant (is_crashed c)

pub returns-clause-past : goal.returns-clause-past
unfolding after_crash
returns-clause-past c = past_crashed c.args.pick c.self.inside (after_crash c) (is_crashed c)

pub returns-clause-crashes : goal.returns-clause-crashes
unfolding after_crash
returns-clause-crashes c = rw (← c.self.view_is) (crashes c.args.pick c.self.inside (after_crash c) c.self.invariant (is_crashed c))

pub returns-clause-calm : goal.returns-clause-calm
unfolding after_crash
returns-clause-calm c = calm_after c.args.pick c.self.inside (after_crash c) c.self.invariant (is_crashed c)

pub returns-clause-names : goal.returns-clause-names
unfolding after_crash
returns-clause-names c = rw (← c.self.view_is) (count_after c.args.pick c.self.inside (after_crash c) c.self.invariant (is_crashed c))

pub returns-clause-table : goal.returns-clause-table
unfolding after_crash
returns-clause-table c = (table_crashed c.args.pick c.self.inside (after_crash c) c.self.invariant (is_crashed c)).table
