use Rattle.std.proofs.Common.{refl, ap, ◌∙◌}
use Rattle.std.proofs.lemmas.List.{with_items_is}
use Rattle.std.specs.Vec.{with_items}
use Rattle.cv_vault.specs.TableInner.{settled_each}
use Rattle.cv_vault.specs.declared.table.Table.TheInside.{Inside}
use Rattle.cv_vault.proofs.Changing.{table_recorded, adds_recorded}
use Rattle.cv_vault.proofs.Settling.{SettlesAll, each_is_all, records_settled, any_unsettled-settled, file_count-settled}
use Rattle.cv_vault.proofs.table.Table.settle.Goals as goal

after_settle : goal.After-push_reserved → Inside
after_settle c = record c.self.inside { entries = with_items c.self.inside.entries c.settle_all.new.entries; unsettled = c.clear.new.self; changes = c.push_reserved.new.self }

settles : (c : goal.After-push_reserved) → SettlesAll c.self.inside (after_settle c)
unfolding after_settle
settles c = record {
  names = refl;
  contents = refl;
  entries = with_items_is c.self.inside.entries c.settle_all.new.entries (c.settle_all.auto.entries ∙ c.deref_mut.ensures.len)
      ∙ c.settle_all.ensures ∙ ap (settled_each c.deref.result.now) c.deref_mut.ensures.value ∙ ap (λ ks. settled_each ks c.self.inside.entries.items) c.deref.ensures.value
      ∙ each_is_all c.self.inside.unsettled c.self.inside.entries.items c.self.invariant.unsettled;
  numbers = refl;
  unsettled = c.clear.ensures.items;
  room = c.clear.ensures.capacity;
  changes = c.push_reserved.ensures.items;
}

pub settle_all-requires : goal.settle_all-requires
settle_all-requires c = rw (c.deref_mut.ensures.value, c.deref.ensures.value) c.self.invariant.unsettled.within

pub invariant_of-self : goal.invariant_of-self
unfolding after_settle
invariant_of-self c = table_recorded c.self.inside (after_settle c) _ _ c.self.invariant (records_settled c.self.inside (after_settle c) c.self.invariant (settles c))

pub returns-clause-adds : goal.returns-clause-adds
unfolding after_settle
returns-clause-adds c = rw (← c.self.view_is) (adds_recorded c.self.inside (after_settle c) _ _ (records_settled c.self.inside (after_settle c) c.self.invariant (settles c)) c.push_reserved.ensures.capacity)

pub returns-clause-calm : goal.returns-clause-calm
unfolding after_settle
returns-clause-calm c = any_unsettled-settled c.self.inside (after_settle c) (settles c)

pub returns-clause-files : goal.returns-clause-files
unfolding after_settle
returns-clause-files c = rw (← c.self.view_is) (file_count-settled c.self.inside (after_settle c) (settles c))

pub push_reserved-requires : goal.push_reserved-requires
push_reserved-requires c = rw c.self.inside.changes.ok.0 (rw (← c.self.view_is) at c.requires.room)
