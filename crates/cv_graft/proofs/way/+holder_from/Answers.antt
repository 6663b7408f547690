use Rattle.std.proofs.Common.{refl, Result, subst, ◌∙◌, arith}
use Rattle.cv_base.proofs.Laws.{left_by}
use Rattle.cv_rows.specs.Catalogue.{Contents}
use Rattle.cv_graft.specs.DirectoriesInner.{HoldsFrom}
use Rattle.cv_graft.specs.Way.{HasNone, IsNext}
use Rattle.cv_graft.specs.WayInner.{Finds, FailsFrom}
use Rattle.cv_graft.proofs.Holders.{holds_itself, holds_below, fails_next, fails_below}
use Rattle.cv_cut.specs.declared.load_fault.LoadFault.{LoadFault}
use Rattle.cv_graft.proofs.Nexts.{above_shorter, next_shorter}
use Rattle.cv_graft.proofs.Finding.{none_or_one, one_more, none_holds, step_unread, step_down, step_taken, more_than_one, at_most_below}
use Rattle.cv_graft.proofs.way.+holder_from.Goals as goal

pub returns-in_default-clause-told : goal.returns-in_default-clause-told
returns-in_default-clause-told g t c = λ standing told hash n r way w is.
    let none : HasNone c.args.catalogue c.args.path.now = rw c.in_default.is at c.in_ok-entry.ensures.found in
    (c.args.catalogue.at, r, none_holds n c.args.path.now c.args.catalogue.at r way.tree w (subst (λ (x : Contents). HasNone x c.args.path.now) is none), is)

pub returns-in_err-below-clause-told : goal.returns-in_err-below-clause-told
returns-in_err-below-clause-told g t c = λ standing told hash n r way w is.
    let next : IsNext c.args.catalogue c.args.path.now c.in-Some.entry = rw c.in-Some.is at c.in_ok-entry.ensures.found in
    left_by (Finds n c.args.path.now) _ _ c.from_residual-in_err-below.ensures.1
    (step_unread standing hash n c.args.path.now r c.args.catalogue c.in-Some.entry way w is next c.args.id.now _ (c.in_err-below.ensures.told standing told))

pub returns-in_err-below-clause-taken : goal.returns-in_err-below-clause-taken
returns-in_err-below-clause-taken g t c = λ standing told hash n r way w is.
    let next : IsNext c.args.catalogue c.args.path.now c.in-Some.entry = rw c.in-Some.is at c.in_ok-entry.ensures.found in
    at_most_below _ _ _ (more_than_one standing hash n c.args.path.now r c.args.catalogue c.in-Some.entry way w is next) c.in_err-below.ensures.taken

pub returns-clause-told : goal.returns-clause-told
returns-clause-told g t c = λ standing told hash n r way w is.
    let next : IsNext c.args.catalogue c.args.path.now c.in-Some.entry = rw c.in-Some.is at c.in_ok-entry.ensures.found in
    let s = step_down standing hash n c.args.path.now r c.args.catalogue c.in-Some.entry way w is next c.in_ok-below.below (c.in_ok-below.ensures.told standing told) in
    c.holder_from.ensures.told standing (c.nested_catalogue.ensures.unchanged ∙ told) hash n s.f way s.on s.is_

pub returns-clause-taken : goal.returns-clause-taken
returns-clause-taken g t c = λ standing told hash n r way w is.
    let next : IsNext c.args.catalogue c.args.path.now c.in-Some.entry = rw c.in-Some.is at c.in_ok-entry.ensures.found in
    step_taken standing hash n c.args.path.now r c.args.catalogue c.in-Some.entry way w is next c.in_ok-below.below (c.in_ok-below.ensures.told standing told) _ _ _ c.in_ok-below.ensures.taken
    (λ f. c.holder_from.ensures.taken standing (c.nested_catalogue.ensures.unchanged ∙ told) hash n f way)

pub returns-clause-reads : goal.returns-clause-reads
returns-clause-reads g t c = g.met.S.Shelf.reads_then _ _ _ c.nested_catalogue.ensures.reads c.holder_from.ensures.reads

pub returns-in_err-below-clause-fault : goal.returns-in_err-below-clause-fault
returns-in_err-below-clause-fault g t c = λ standing told.
    let next : IsNext c.args.catalogue c.args.path.now c.in-Some.entry = rw c.in-Some.is at c.in_ok-entry.ensures.found in
    left_by (λ (x : Result Contents LoadFault). FailsFrom standing c.args.id.now c.args.catalogue c.args.path.now x) _ _ c.from_residual-in_err-below.ensures.1
    (fails_next Contents standing c.args.id.now c.args.catalogue c.in-Some.entry c.args.path.now _ c.requires.kind next (c.in_err-below.ensures.told standing told))

pub returns-clause-fault : goal.returns-clause-fault
returns-clause-fault g t c = λ standing told.
    let next : IsNext c.args.catalogue c.args.path.now c.in-Some.entry = rw c.in-Some.is at c.in_ok-entry.ensures.found in
    fails_below standing c.args.id.now c.args.catalogue c.in_ok-below.below c.in-Some.entry c.args.path.now c.holder_from.result next (c.in_ok-below.ensures.told standing told)
    (c.holder_from.ensures.fault standing (c.nested_catalogue.ensures.unchanged ∙ told))

pub nested_catalogue-requires-clause-entry : goal.nested_catalogue-requires-clause-entry
nested_catalogue-requires-clause-entry g t c =
    let next : IsNext c.args.catalogue c.args.path.now c.in-Some.entry = rw c.in-Some.is at c.in_ok-entry.ensures.found in
    next.has

pub returns-in_default-clause-holder : goal.returns-in_default-clause-holder
returns-in_default-clause-holder g t c = λ standing told.
    let none : HasNone c.args.catalogue c.args.path.now = rw c.in_default.is at c.in_ok-entry.ensures.found in
    holds_itself standing c.args.id.now c.args.catalogue c.args.path.now none

pub returns-in_err-below-clause-holder : goal.returns-in_err-below-clause-holder
returns-in_err-below-clause-holder g t c = λ standing told. left_by (HoldsFrom standing c.args.id.now c.args.catalogue c.args.path.now) _ _ c.from_residual-in_err-below.ensures.1 tt

pub returns-clause-holder : goal.returns-clause-holder
returns-clause-holder g t c = λ standing told.
    let next : IsNext c.args.catalogue c.args.path.now c.in-Some.entry = rw c.in-Some.is at c.in_ok-entry.ensures.found in
    holds_below standing c.args.id.now c.args.catalogue c.in_ok-below.below c.in-Some.entry c.args.path.now c.holder_from.result next (c.in_ok-below.ensures.told standing told)
    (c.holder_from.ensures.holder standing (c.nested_catalogue.ensures.unchanged ∙ told))

pub returns-in_err-entry-clause-most : goal.returns-in_err-entry-clause-most
returns-in_err-entry-clause-most g t c = (0, omega (arith, above_shorter c.args.catalogue.at c.args.path.now c.requires.covered c.requires.apart), refl)

pub returns-in_default-clause-most : goal.returns-in_default-clause-most
returns-in_default-clause-most g t c = (0, omega (arith, above_shorter c.args.catalogue.at c.args.path.now c.requires.covered c.requires.apart), refl)

pub returns-in_err-below-clause-most : goal.returns-in_err-below-clause-most
returns-in_err-below-clause-most g t c =
    let next : IsNext c.args.catalogue c.args.path.now c.in-Some.entry = rw c.in-Some.is at c.in_ok-entry.ensures.found in
    none_or_one _ _ _ _ _ c.nested_catalogue.ensures.deeper (next_shorter c.args.catalogue c.args.path.now c.in-Some.entry next) c.in_err-below.ensures.taken

pub returns-clause-most : goal.returns-clause-most
returns-clause-most g t c =
    one_more _ _ _ _ _ _ _ c.in_ok-below.ensures.place c.nested_catalogue.ensures.deeper c.in_ok-below.ensures.taken c.holder_from.ensures.most
