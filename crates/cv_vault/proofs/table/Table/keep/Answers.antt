use Rattle.std.proofs.Common.{[], refl, sym, arith}
use Rattle.std.proofs.lemmas.List.{append-nil}
use Rattle.cv_vault.specs.declared.table.Table.TheInside.{Inside}
use Rattle.cv_vault.proofs.Growing.{Grows, table_grown, stays_grown}
use Rattle.cv_vault.proofs.table.Table.keep.Goals as goal

kept : goal.In_ok-push → Inside
kept c = record c.self.inside { contents = c.push.new.self }

grows : (c : goal.In_ok-push) → Grows c.self.inside (kept c)
unfolding kept
grows c = record { names_more = []; names = sym (append-nil _); contents_more = _; contents = c.in_ok-push.ensures.items; entries = refl; numbers = refl; unsettled = refl; room = omega arith; changes = refl }

pub invariant_of-self-2 : goal.invariant_of-self-2
unfolding kept
invariant_of-self-2 c = table_grown c.self.inside (kept c) c.self.invariant (grows c)

pub returns-clause-stays : goal.returns-clause-stays
unfolding kept
returns-clause-stays c = rw (← c.self.view_is) (stays_grown c.self.inside (kept c) c.self.invariant (grows c))
