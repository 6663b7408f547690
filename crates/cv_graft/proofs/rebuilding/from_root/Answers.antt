use Rattle.std.proofs.Common.{length, Result, List, ap, ◌∙◌}
use Rattle.cv_base.specs.declared.id.Kind.TheVariants.{Catalogue}
use Rattle.cv_base.specs.declared.object.Object.{Object}
use Rattle.cv_base.proofs.Laws.{left_by}
use Rattle.cv_graft.specs.MakesInner.{Regrafts}
use Rattle.cv_graft.specs.Way.{IsOfWay, TellsDamage}
use Rattle.cv_graft.specs.declared.grafted.Grafted.{Grafted}
use Rattle.cv_graft.specs.declared.graft_fault.GraftFault.{GraftFault}
use Rattle.cv_graft.proofs.Finding.{from_top, some_count, some_long}
use Rattle.cv_graft.proofs.Holders.{top_blamed, tells_way, tells_top}
use Rattle.cv_graft.proofs.Makes.{refused_top, regrafted_top, unread_refuses}
use Rattle.cv_graft.proofs.Tops.{top_is, top_taken}
use Rattle.cv_graft.proofs.rebuilding.from_root.Goals as goal

pub returns-in_err-catalogue-clause-damaged : goal.returns-in_err-catalogue-clause-damaged
returns-in_err-catalogue-clause-damaged g c = λ standing told.
    left_by (λ (x : Result Grafted GraftFault). TellsDamage standing (IsOfWay standing c.args.root.now.hash c.args.path.now) x) _ _ c.from_residual.ensures.1
    (tells_way Grafted standing c.args.root.now.hash c.args.path.now _ (top_blamed standing c.args.root.now c.args.path.now c.root-top.result _ c.requires.kind c.requires.path c.root-top.ensures (c.in_err-catalogue.ensures.told standing told)))

pub returns-in_err-made-clause-damaged : goal.returns-in_err-made-clause-damaged
returns-in_err-made-clause-damaged g c = λ standing told.
    left_by (λ (x : Result Grafted GraftFault). TellsDamage standing (IsOfWay standing c.args.root.now.hash c.args.path.now) x) _ _ c.from_residual-in_err-made.ensures.1
    (tells_top Grafted standing c.args.root.now c.root-top.result c.in_ok-catalogue.catalogue c.args.path.now _ c.requires.path c.root-top.ensures (c.in_ok-catalogue.ensures.told standing told)
    (c.in_err-made.ensures.damaged standing (c.catalogue_at.ensures.unchanged ∙ told)))

pub returns-in_err-catalogue-clause-taken : goal.returns-in_err-catalogue-clause-taken
returns-in_err-catalogue-clause-taken g c = λ standing told t way. (1, some_count t c.args.path.now c.requires.path, c.in_err-catalogue.ensures.taken)

pub returns-in_err-made-clause-taken : goal.returns-in_err-made-clause-taken
returns-in_err-made-clause-taken g c = λ standing told t way.
    let p = c.args.path.now in
    let top = top_is standing c.args.root.now t p c.root-top.result c.in_ok-catalogue.catalogue way c.requires.path (c.in_ok-catalogue.ensures.told standing told) c.root-top.ensures in
    top_taken t p c.in_ok-catalogue.catalogue top _ _ _ c.catalogue_at.ensures.taken (c.rebuilt.ensures.taken standing (c.catalogue_at.ensures.unchanged ∙ told) c.args.root.now.hash t p way)

pub returns-clause-taken : goal.returns-clause-taken
returns-clause-taken g c = λ standing told t way.
    let p = c.args.path.now in
    let top = top_is standing c.args.root.now t p c.root-top.result c.in_ok-catalogue.catalogue way c.requires.path (c.in_ok-catalogue.ensures.told standing told) c.root-top.ensures in
    top_taken t p c.in_ok-catalogue.catalogue top _ _ _ c.catalogue_at.ensures.taken (c.rebuilt.ensures.taken standing (c.catalogue_at.ensures.unchanged ∙ told) c.args.root.now.hash t p way)

pub returns-in_err-made-clause-reads : goal.returns-in_err-made-clause-reads
returns-in_err-made-clause-reads g c = g.met.S.Shelf.reads_then _ _ _ c.catalogue_at.ensures.reads c.rebuilt.ensures.reads

pub returns-clause-reads : goal.returns-clause-reads
returns-clause-reads g c = g.met.S.Shelf.reads_then _ _ _ c.catalogue_at.ensures.reads c.rebuilt.ensures.reads

pub returns-in_err-catalogue-clause-most : goal.returns-in_err-catalogue-clause-most
returns-in_err-catalogue-clause-most g c = (1, some_long c.args.path.now c.requires.path, c.in_err-catalogue.ensures.taken)

pub returns-in_err-made-clause-most : goal.returns-in_err-made-clause-most
returns-in_err-made-clause-most g c = from_top (length c.in_ok-catalogue.catalogue.at) _ _ _ _ c.catalogue_at.ensures.taken c.rebuilt.ensures.most

pub returns-clause-most : goal.returns-clause-most
returns-clause-most g c = from_top (length c.in_ok-catalogue.catalogue.at) _ _ _ _ c.catalogue_at.ensures.taken c.rebuilt.ensures.most

pub returns-in_err-catalogue-clause-way : goal.returns-in_err-catalogue-clause-way
returns-in_err-catalogue-clause-way g c = λ standing told.
    let x = g.C.Coming.outcomes c.args.coming.now c.args.path.now in
    left_by (Regrafts standing c.args.root.now.hash x c.args.path.now (g.C.Coming.own c.args.coming.now)) _ _ c.from_residual.ensures.1 (unread_refuses standing x c.args.root.now.hash c.args.path.now _)

pub returns-in_err-made-clause-way : goal.returns-in_err-made-clause-way
returns-in_err-made-clause-way g c = λ standing told.
    let x = g.C.Coming.outcomes c.args.coming.now c.args.path.now in
    let own = g.C.Coming.own c.args.coming.now in
    left_by (Regrafts standing c.args.root.now.hash x c.args.path.now own) _ _ c.from_residual-in_err-made.ensures.1
    (refused_top standing x c.args.root.now c.root-top.result c.args.path.now c.in_ok-catalogue.catalogue own c.new-added.result.items c.rebuilt.new.added.items _ c.requires.path
    c.root-top.ensures (c.in_ok-catalogue.ensures.told standing told) (c.in_err-made.ensures.way standing (c.catalogue_at.ensures.unchanged ∙ told)))

pub returns-clause-way : goal.returns-clause-way
returns-clause-way g c = λ standing told.
    regrafted_top standing (g.C.Coming.outcomes c.args.coming.now c.args.path.now) c.args.root.now c.root-top.result c.args.path.now c.in_ok-catalogue.catalogue (g.C.Coming.own c.args.coming.now)
    c.new-added.result.items c.rebuilt.new.added.items c.in_ok-made.made _ c.root-top.ensures (c.in_ok-catalogue.ensures.told standing told) (c.in_ok-made.ensures.way standing (c.catalogue_at.ensures.unchanged ∙ told)) c.new-added.ensures.items
    (ap (λ (l : List Object). record { root = record { hash = c.in_ok-made.made.hash; kind = Catalogue }; size = c.in_ok-made.made.size; added = l }) c.new.ensures)
