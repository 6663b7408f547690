use Rattle.std.proofs.Common.{◌≡◌, List, get_or, set, refl, sym, subst, ◌∙◌, true, false}
use Rattle.std.proofs.lemmas.List.{get_or_default}
use Rattle.cv_vault.specs.PlacesInner.{is_settled_place}
use Rattle.cv_vault.specs.TableInner.{any_entry}
use Rattle.cv_vault.specs.IndexedInner.{AreUnsettled}
use Rattle.cv_vault.specs.declared.table.Entry.{Entry}
use Rattle.cv_vault.proofs.Unsettled.{room_for, unsettled_noted, unsettled_kept}
use Rattle.cv_vault.proofs.table.set_place.Goals as goal

pub push_reserved-requires : goal.push_reserved-requires
push_reserved-requires c =
    let es : List Entry = c.args.entries.now.items in
    let us = c.args.unsettled.now in
    rw us.ok.0 (room_for us es c.args.at c.requires.unsettled c.requires.at (subst (λ (e : Entry). is_settled_place e.place ≡ true) (c.index_mut-entry.ensures.value ∙ get_or_default es c.args.at _ any_entry c.requires.at) (sym c.is_settled-was_settled.ensures ∙ c.if-was_settled.true)))

pub returns-then-was_settled-clause-unsettled : goal.returns-then-was_settled-clause-unsettled
returns-then-was_settled-clause-unsettled c =
    let es : List Entry = c.args.entries.now.items in
    let us = c.args.unsettled.now in
    let same : c.index_mut-entry.result.now ≡ get_or es c.args.at any_entry = c.index_mut-entry.ensures.value ∙ get_or_default es c.args.at _ any_entry c.requires.at in
    let was = subst (λ (e : Entry). is_settled_place e.place ≡ true) same (sym c.is_settled-was_settled.ensures ∙ c.if-was_settled.true) in
    subst (λ (e : Entry). AreUnsettled c.push_reserved.new.self (set es c.args.at (record e { place = c.args.place }))) (sym same)
    (unsettled_noted us c.push_reserved.new.self es c.args.at c.args.place c.requires.unsettled c.requires.at c.requires.torn was c.push_reserved.ensures.items c.push_reserved.ensures.capacity)

pub returns-else-was_settled-clause-unsettled : goal.returns-else-was_settled-clause-unsettled
returns-else-was_settled-clause-unsettled c =
    let es : List Entry = c.args.entries.now.items in
    let us = c.args.unsettled.now in
    let same : c.index_mut-entry.result.now ≡ get_or es c.args.at any_entry = c.index_mut-entry.ensures.value ∙ get_or_default es c.args.at _ any_entry c.requires.at in
    let was = subst (λ (e : Entry). is_settled_place e.place ≡ false) same (sym c.is_settled-was_settled.ensures ∙ c.if-was_settled.false) in
    subst (λ (e : Entry). AreUnsettled us (set es c.args.at (record e { place = c.args.place }))) (sym same)
    (unsettled_kept us us es c.args.at c.args.place c.requires.unsettled c.requires.at c.requires.torn was refl)
