use Rattle.std.proofs.Common.{suc, length, Result, ap, ◌∙◌, arith}
use Rattle.cv_graft.proofs.Finding.{from_top, some_count, some_long, raised_more, top_unread}
use Rattle.std.specs.Prelude.{IfOk, IfErr}
use Rattle.cv_base.proofs.Laws.{left_by}
use Rattle.cv_rows.specs.Catalogue.{Contents}
use Rattle.cv_cut.specs.declared.load_fault.LoadFault.{LoadFault}
use Rattle.cv_graft.specs.Directories.{IsHolder}
use Rattle.cv_graft.specs.Way.{BlamesWay}
use Rattle.cv_graft.specs.WayInner.{Finds}
use Rattle.cv_graft.proofs.Holders.{fails_top, holds_top, top_blamed}
use Rattle.cv_graft.proofs.Tops.{top_is, top_count}
use Rattle.cv_graft.proofs.grafting.holder.Goals as goal
use Rattle.cv_ports.specs.Calls.{raised_by}

pub returns-in_err-catalogue-clause-taken : goal.returns-in_err-catalogue-clause-taken
returns-in_err-catalogue-clause-taken g c = λ standing told n way. (1, some_count n c.args.path.now c.requires.path, c.in_err-catalogue.ensures.taken)

pub returns-clause-told : goal.returns-clause-told
returns-clause-told g c = λ standing told n way.
    let top = top_is standing c.args.root.now n c.args.path.now c.root-top.result c.in_ok-catalogue.catalogue way c.requires.path (c.in_ok-catalogue.ensures.told standing told) c.root-top.ensures in
    c.holder_from.ensures.told standing (c.catalogue_at.ensures.unchanged ∙ told) c.args.root.now.hash n c.args.path.now way top.on top.is

pub returns-clause-taken : goal.returns-clause-taken
returns-clause-taken g c = λ standing told n way.
    let top = top_is standing c.args.root.now n c.args.path.now c.root-top.result c.in_ok-catalogue.catalogue way c.requires.path (c.in_ok-catalogue.ensures.told standing told) c.root-top.ensures in
    let deep = c.holder_from.ensures.taken standing (c.catalogue_at.ensures.unchanged ∙ told) c.args.root.now.hash n c.args.path.now way top.on top.is in
    let le = deep.1 in
    let count = top_count n c.args.path.now c.in_ok-catalogue.catalogue top in
    (suc deep.0, omega (arith, le, count), deep.2 ∙ ap (raised_by deep.0) c.catalogue_at.ensures.taken ∙ raised_more deep.0 (g.S.Shelf.taken c.args.shelf.now))

pub returns-clause-reads : goal.returns-clause-reads
returns-clause-reads g c = g.met.S.Shelf.reads_then _ _ _ c.catalogue_at.ensures.reads c.holder_from.ensures.reads

pub returns-in_err-catalogue-clause-told : goal.returns-in_err-catalogue-clause-told
returns-in_err-catalogue-clause-told g c = λ standing told n way.
    left_by (Finds n c.args.path.now) _ _ c.from_residual.ensures.1
    (top_unread standing c.args.root.now n c.args.path.now c.root-top.result _ way c.requires.path c.requires.kind c.root-top.ensures (c.in_err-catalogue.ensures.told standing told))

pub returns-in_err-catalogue-clause-fault : goal.returns-in_err-catalogue-clause-fault
returns-in_err-catalogue-clause-fault g c = λ standing told.
    left_by (λ (x : Result Contents LoadFault). IfErr x (BlamesWay standing c.args.root.now.hash c.args.path.now)) _ _ c.from_residual.ensures.1
    (top_blamed standing c.args.root.now c.args.path.now c.root-top.result _ c.requires.kind c.requires.path c.root-top.ensures (c.in_err-catalogue.ensures.told standing told))

pub returns-clause-fault : goal.returns-clause-fault
returns-clause-fault g c = λ standing told.
    fails_top standing c.args.root.now c.root-top.result c.in_ok-catalogue.catalogue c.args.path.now c.holder_from.result c.requires.path c.root-top.ensures (c.in_ok-catalogue.ensures.told standing told)
    (c.holder_from.ensures.fault standing (c.catalogue_at.ensures.unchanged ∙ told))

pub returns-in_err-catalogue-clause-holder : goal.returns-in_err-catalogue-clause-holder
returns-in_err-catalogue-clause-holder g c = λ standing told. left_by (λ (x : Result Contents LoadFault). IfOk x (IsHolder standing c.args.root.now.hash c.args.path.now)) _ _ c.from_residual.ensures.1 tt

pub returns-clause-holder : goal.returns-clause-holder
returns-clause-holder g c = λ standing told.
    holds_top standing c.args.root.now c.root-top.result c.in_ok-catalogue.catalogue c.args.path.now c.holder_from.result c.requires.path c.root-top.ensures (c.in_ok-catalogue.ensures.told standing told)
    (c.holder_from.ensures.holder standing (c.catalogue_at.ensures.unchanged ∙ told))

pub returns-in_err-catalogue-clause-most : goal.returns-in_err-catalogue-clause-most
returns-in_err-catalogue-clause-most g c = (1, some_long c.args.path.now c.requires.path, c.in_err-catalogue.ensures.taken)

pub returns-clause-most : goal.returns-clause-most
returns-clause-most g c = from_top (length c.in_ok-catalogue.catalogue.at) _ _ _ _ c.catalogue_at.ensures.taken c.holder_from.ensures.most
