use Rattle.std.proofs.Common.{refl, Result, ◌∙◌, arith}
use Rattle.cv_base.proofs.Laws.{left_by}
use Rattle.cv_graft.specs.Way.{HasNone, IsNext, TellsDamage}
use Rattle.cv_graft.specs.MakesInner.{Remakes}
use Rattle.cv_graft.specs.WayInner.{IsOfWayOf}
use Rattle.cv_graft.specs.declared.made.Made.{Made}
use Rattle.cv_graft.specs.declared.graft_fault.GraftFault.{GraftFault}
use Rattle.cv_graft.proofs.Makes.{fault_remakes, remade_above, rejoins_tells, rejoins_unread, remade_here, unread_remakes}
use Rattle.cv_graft.proofs.Holders.{tells_next, tells_below}
use Rattle.cv_graft.proofs.Nexts.{above_shorter, next_shorter}
use Rattle.cv_graft.proofs.Finding.{none_or_one, one_more, step_taken, more_than_one, at_most_below}
use Rattle.cv_graft.proofs.rebuilding.+rebuilt.Goals as goal

pub returns-in_default-clause-cause : goal.returns-in_default-clause-cause
returns-in_default-clause-cause g m c = record { later = omega arith; failed = λ is. absurd (rejoins_unread _ _ _ _ _ c.rejoined.result c.rejoined.ensures.rejoins is) }

pub returns-in_default-clause-damaged : goal.returns-in_default-clause-damaged
returns-in_default-clause-damaged g m c = λ standing told. rejoins_tells standing _ _ _ _ _ _ c.rejoined.result c.rejoined.ensures.rejoins

pub returns-in_err-below-clause-taken : goal.returns-in_err-below-clause-taken
returns-in_err-below-clause-taken g m c = λ standing told hash t r way w is.
    let next : IsNext c.args.catalogue c.args.path.now c.in-Some.entry = rw c.in-Some.is at c.in_ok-entry.ensures.found in
    at_most_below _ _ _ (more_than_one standing hash t c.args.path.now r c.args.catalogue c.in-Some.entry way w is next) c.in_err-below.ensures.taken

pub returns-in_err-made-clause-taken : goal.returns-in_err-made-clause-taken
returns-in_err-made-clause-taken g m c = λ standing told hash t r way w is.
    let next : IsNext c.args.catalogue c.args.path.now c.in-Some.entry = rw c.in-Some.is at c.in_ok-entry.ensures.found in
    step_taken standing hash t c.args.path.now r c.args.catalogue c.in-Some.entry way w is next c.in_ok-below.below (c.in_ok-below.ensures.told standing told) _ _ _ c.in_ok-below.ensures.taken
    (λ f. c.rebuilt.ensures.taken standing (c.nested_catalogue.ensures.unchanged ∙ told) hash t f way)

pub returns-in_err-keep-clause-taken : goal.returns-in_err-keep-clause-taken
returns-in_err-keep-clause-taken g m c = λ standing told hash t r way w is.
    let next : IsNext c.args.catalogue c.args.path.now c.in-Some.entry = rw c.in-Some.is at c.in_ok-entry.ensures.found in
    step_taken standing hash t c.args.path.now r c.args.catalogue c.in-Some.entry way w is next c.in_ok-below.below (c.in_ok-below.ensures.told standing told) _ _ _ c.in_ok-below.ensures.taken
    (λ f. c.rebuilt.ensures.taken standing (c.nested_catalogue.ensures.unchanged ∙ told) hash t f way)

pub returns-clause-taken : goal.returns-clause-taken
returns-clause-taken g m c = λ standing told hash t r way w is.
    let next : IsNext c.args.catalogue c.args.path.now c.in-Some.entry = rw c.in-Some.is at c.in_ok-entry.ensures.found in
    step_taken standing hash t c.args.path.now r c.args.catalogue c.in-Some.entry way w is next c.in_ok-below.below (c.in_ok-below.ensures.told standing told) _ _ _ c.in_ok-below.ensures.taken
    (λ f. c.rebuilt.ensures.taken standing (c.nested_catalogue.ensures.unchanged ∙ told) hash t f way)

pub returns-in_err-made-clause-reads : goal.returns-in_err-made-clause-reads
returns-in_err-made-clause-reads g t c = g.met.S.Shelf.reads_then _ _ _ c.nested_catalogue.ensures.reads c.rebuilt.ensures.reads

pub returns-in_err-keep-clause-reads : goal.returns-in_err-keep-clause-reads
returns-in_err-keep-clause-reads g t c = g.met.S.Shelf.reads_then _ _ _ c.nested_catalogue.ensures.reads c.rebuilt.ensures.reads

pub returns-clause-reads : goal.returns-clause-reads
returns-clause-reads g t c = g.met.S.Shelf.reads_then _ _ _ c.nested_catalogue.ensures.reads c.rebuilt.ensures.reads

pub returns-in_err-below-clause-damaged : goal.returns-in_err-below-clause-damaged
returns-in_err-below-clause-damaged g m c = λ standing told.
    let next : IsNext c.args.catalogue c.args.path.now c.in-Some.entry = rw c.in-Some.is at c.in_ok-entry.ensures.found in
    left_by (λ (x : Result Made GraftFault). TellsDamage standing (IsOfWayOf standing c.args.id.now c.args.catalogue c.args.path.now) x) _ _ c.from_residual-in_err-below.ensures.1
    (tells_next Made standing c.args.id.now c.args.catalogue c.in-Some.entry c.args.path.now _ c.requires.kind next (c.in_err-below.ensures.told standing told))

pub returns-in_err-made-clause-damaged : goal.returns-in_err-made-clause-damaged
returns-in_err-made-clause-damaged g m c = λ standing told.
    let next : IsNext c.args.catalogue c.args.path.now c.in-Some.entry = rw c.in-Some.is at c.in_ok-entry.ensures.found in
    left_by (λ (x : Result Made GraftFault). TellsDamage standing (IsOfWayOf standing c.args.id.now c.args.catalogue c.args.path.now) x) _ _ c.from_residual-in_err-made.ensures.1
    (tells_below Made standing c.args.id.now c.args.catalogue c.in_ok-below.below c.in-Some.entry c.args.path.now _ next (c.in_ok-below.ensures.told standing told)
    (c.in_err-made.ensures.damaged standing (c.nested_catalogue.ensures.unchanged ∙ told)))

pub nested_catalogue-requires-clause-entry : goal.nested_catalogue-requires-clause-entry
nested_catalogue-requires-clause-entry g m c =
    let next : IsNext c.args.catalogue c.args.path.now c.in-Some.entry = rw c.in-Some.is at c.in_ok-entry.ensures.found in
    next.has

pub returns-in_err-entry-clause-most : goal.returns-in_err-entry-clause-most
returns-in_err-entry-clause-most g m c = (0, omega (arith, above_shorter c.args.catalogue.at c.args.path.now c.requires.below c.requires.apart), refl)

pub returns-in_default-clause-most : goal.returns-in_default-clause-most
returns-in_default-clause-most g m c = (0, omega (arith, above_shorter c.args.catalogue.at c.args.path.now c.requires.below c.requires.apart), refl)

pub returns-in_err-below-clause-most : goal.returns-in_err-below-clause-most
returns-in_err-below-clause-most g m c =
    let next : IsNext c.args.catalogue c.args.path.now c.in-Some.entry = rw c.in-Some.is at c.in_ok-entry.ensures.found in
    none_or_one _ _ _ _ _ c.nested_catalogue.ensures.deeper (next_shorter c.args.catalogue c.args.path.now c.in-Some.entry next) c.in_err-below.ensures.taken

pub returns-in_err-made-clause-most : goal.returns-in_err-made-clause-most
returns-in_err-made-clause-most g m c =
    one_more _ _ _ _ _ _ _ c.in_ok-below.ensures.place c.nested_catalogue.ensures.deeper c.in_ok-below.ensures.taken c.rebuilt.ensures.most

pub returns-in_err-keep-clause-most : goal.returns-in_err-keep-clause-most
returns-in_err-keep-clause-most g m c =
    one_more _ _ _ _ _ _ _ c.in_ok-below.ensures.place c.nested_catalogue.ensures.deeper c.in_ok-below.ensures.taken c.rebuilt.ensures.most

pub returns-clause-most : goal.returns-clause-most
returns-clause-most g m c =
    one_more _ _ _ _ _ _ _ c.in_ok-below.ensures.place c.nested_catalogue.ensures.deeper c.in_ok-below.ensures.taken c.rebuilt.ensures.most

pub returns-in_default-clause-way : goal.returns-in_default-clause-way
returns-in_default-clause-way g m c = λ standing told.
    let p = c.args.path.now in
    let none : HasNone c.args.catalogue p = rw c.in_default.is at c.in_ok-entry.ensures.found in
    remade_here standing (g.C.Coming.outcomes c.args.coming.now p) p c.args.id.now c.args.catalogue (g.C.Coming.own c.args.coming.now) c.args.added.now.items c.rejoined.new.added.items c.rejoined.result none c.rejoined.ensures.rejoins

pub returns-in_err-below-clause-way : goal.returns-in_err-below-clause-way
returns-in_err-below-clause-way g m c = λ standing told.
    let p = c.args.path.now in
    let x = g.C.Coming.outcomes c.args.coming.now p in
    let own = g.C.Coming.own c.args.coming.now in
    let items = c.args.added.now.items in
    left_by (Remakes standing x p c.args.id.now c.args.catalogue own items items) _ _ c.from_residual-in_err-below.ensures.1 (unread_remakes standing x p c.args.id.now c.args.catalogue own items items _)

pub returns-in_err-made-clause-way : goal.returns-in_err-made-clause-way
returns-in_err-made-clause-way g m c = λ standing told.
    let p = c.args.path.now in
    let x = g.C.Coming.outcomes c.args.coming.now p in
    let own = g.C.Coming.own c.args.coming.now in
    let next : IsNext c.args.catalogue p c.in-Some.entry = rw c.in-Some.is at c.in_ok-entry.ensures.found in
    let items = c.args.added.now.items in
    let more = c.rebuilt.new.added.items in
    left_by (Remakes standing x p c.args.id.now c.args.catalogue own items more) _ _ c.from_residual-in_err-made.ensures.1
    (fault_remakes standing x p c.args.id.now c.args.catalogue c.in_ok-below.below c.in-Some.entry own items more _ next (c.in_ok-below.ensures.told standing told)
    (c.in_err-made.ensures.way standing (c.nested_catalogue.ensures.unchanged ∙ told)))

pub returns-in_err-keep-clause-way : goal.returns-in_err-keep-clause-way
returns-in_err-keep-clause-way g m c = λ standing told.
    let p = c.args.path.now in
    left_by (Remakes standing (g.C.Coming.outcomes c.args.coming.now p) p c.args.id.now c.args.catalogue (g.C.Coming.own c.args.coming.now) c.args.added.now.items c.keep.new.added.items) _ _ c.from_residual-in_err-keep.ensures.1 (λ root place on has. tt)

pub returns-clause-way : goal.returns-clause-way
returns-clause-way g m c = λ standing told.
    let p = c.args.path.now in
    let next : IsNext c.args.catalogue p c.in-Some.entry = rw c.in-Some.is at c.in_ok-entry.ensures.found in
    remade_above standing (g.C.Coming.outcomes c.args.coming.now p) p c.args.catalogue c.in_ok-below.below c.with_entry-catalogue.result c.in-Some.entry (g.C.Coming.own c.args.coming.now) c.args.added.now.items c.rebuilt.new.added.items c.keep.new.added.items
    c.in_ok-made.made c.in_ok-keep.field-0 next (c.in_ok-below.ensures.told standing told) (c.in_ok-made.ensures.way standing (c.nested_catalogue.ensures.unchanged ∙ told)) c.with_entry-catalogue.ensures
    (record { hash = c.in_ok-keep.ensures.hash; size = c.in_ok-keep.ensures.size; added = c.in_ok-keep.ensures.added })
