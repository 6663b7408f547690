use Rattle.std.proofs.Common.{◌≡◌, ℕ, sym, ◌∙◌}
use Rattle.std.specs.Prelude.{IfSome}
use Rattle.std.specs.BTreeMap.{get_by_text}
use Rattle.std.specs.declared.option.Option.{Option}
use Rattle.std.specs.declared.option.Option.TheVariants.{None, Some}
use Rattle.cv_vault.specs.Names.{Name}
use Rattle.cv_vault.specs.TableInner.{names_in, IsEntryOf}
use Rattle.cv_vault.specs.IndexedInner.{rows_of, IsIndexed}
use Rattle.cv_vault.specs.declared.table.Table.TheInside.{Inside}
use Rattle.cv_vault.proofs.Reading.{names_at, numbers_lack}
use Rattle.cv_vault.proofs.table.Table.find.Goals as goal

found : (t : Inside) (n : Name) (r : Option ℕ) → IsIndexed t → r ≡ get_by_text t.numbers n → IfSome r (IsEntryOf (rows_of t) n)
found t n None is e = tt
found t n (Some i) is e = names_at (rows_of t) n i ((is.numbers n i).0 (sym e))

pub returns-clause-found : goal.returns-clause-found
returns-clause-found c = rw (← c.self.view_is) (found c.self.inside c.args.name.now c.copied.result c.self.invariant (c.copied.ensures ∙ c.get.ensures.value))

pub returns-clause-absent : goal.returns-clause-absent
returns-clause-absent c = rw (← c.self.view_is) (λ none.
    let t = c.self.inside in numbers_lack (get_by_text t.numbers) (names_in t.names.items t.entries.items) c.args.name.now c.self.invariant.numbers (sym (c.copied.ensures ∙ c.get.ensures.value) ∙ none))
