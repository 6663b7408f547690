use Rattle.std.proofs.Common.{Ok, ◌∙◌, subst}
use Rattle.cv_base.proofs.Laws.{left_by}
use Rattle.cv_tree.specs.Tree.{IsTree}
use Rattle.cv_load.specs.Answers.{Loads}
use Rattle.cv_load.proofs.LoadedTree.{loads_unopened, loads_unfilled, loads_whole, loads_all}
use Rattle.cv_load.proofs.Clearing.{root_clear}
use Rattle.cv_load.proofs.Fetching.{once_unopened, once_opened, root_opened}
use Rattle.cv_load.proofs.CutFetches.{cuts_fetched}
use Rattle.cv_load.proofs.loading.load.Goals as goal

pub returns-in_err-catalogue-clause-told : goal.returns-in_err-catalogue-clause-told
returns-in_err-catalogue-clause-told g c = λ standing told.
    left_by (Loads standing c.args.root.now.hash) _ _ c.from_residual.ensures.1
    (loads_unopened standing c.args.root.now c.root-at.result _ c.requires c.root-at.ensures (c.in_err-catalogue.ensures.told standing told))

pub returns-in_err-fill-clause-told : goal.returns-in_err-fill-clause-told
returns-in_err-fill-clause-told g c = λ standing told.
    left_by (Loads standing c.args.root.now.hash) _ _ c.from_residual-in_err-fill.ensures.1
    (loads_unfilled standing c.args.root.now c.root-at.result c.in_ok-catalogue.catalogue c.in_ok-tree.tree c.fill.new.tree _ c.root-at.ensures (c.in_ok-catalogue.ensures.told standing told) c.in_ok-tree.ensures
    (c.in_err-fill.ensures.told standing (c.catalogue_at.ensures.unchanged ∙ told)))

pub returns-clause-told : goal.returns-clause-told
returns-clause-told g c = λ standing told.
    loads_all standing c.args.root.now c.root-at.result c.in_ok-catalogue.catalogue c.in_ok-tree.tree c.fill.new.tree c.root-at.ensures (c.in_ok-catalogue.ensures.told standing told) c.in_ok-tree.ensures
    (c.in_ok-fill.ensures.told standing (c.catalogue_at.ensures.unchanged ∙ told)) (subst IsTree c.tree.view_is c.tree.invariant)

pub returns-in_err-catalogue-clause-fetches : goal.returns-in_err-catalogue-clause-fetches
returns-in_err-catalogue-clause-fetches g c = λ standing told. once_unopened standing c.args.root.now _ _ c.catalogue_at.ensures.taken

pub returns-in_err-tree-clause-fetches : goal.returns-in_err-tree-clause-fetches
returns-in_err-tree-clause-fetches g c = λ standing told. once_unopened standing c.args.root.now _ _ c.catalogue_at.ensures.taken

pub returns-in_err-fill-clause-fetches : goal.returns-in_err-fill-clause-fetches
returns-in_err-fill-clause-fetches g c = λ standing told.
    once_opened standing c.args.root.now _ _ _
    (root_opened standing c.args.root.now c.root-at.result c.in_ok-catalogue.catalogue _ _ _ _ c.root-at.ensures (c.in_ok-catalogue.ensures.told standing told) c.catalogue_at.ensures.taken (c.fill.ensures.fetches standing (c.catalogue_at.ensures.unchanged ∙ told)))

pub returns-clause-fetches : goal.returns-clause-fetches
returns-clause-fetches g c = λ standing told.
    once_opened standing c.args.root.now _ _ _
    (root_opened standing c.args.root.now c.root-at.result c.in_ok-catalogue.catalogue _ _ _ _ c.root-at.ensures (c.in_ok-catalogue.ensures.told standing told) c.catalogue_at.ensures.taken (c.fill.ensures.fetches standing (c.catalogue_at.ensures.unchanged ∙ told)))

pub returns-clause-cuts : goal.returns-clause-cuts
returns-clause-cuts g c = λ standing told.
    let whole = loads_whole standing c.args.root.now c.root-at.result c.in_ok-catalogue.catalogue c.in_ok-tree.tree c.fill.new.tree c.root-at.ensures (c.in_ok-catalogue.ensures.told standing told) c.in_ok-tree.ensures
    (c.in_ok-fill.ensures.told standing (c.catalogue_at.ensures.unchanged ∙ told)) (subst IsTree c.tree.view_is c.tree.invariant) in
    cuts_fetched standing c.args.root.now c.fill.new.tree _ _ whole
    (root_opened standing c.args.root.now c.root-at.result c.in_ok-catalogue.catalogue _ _ _ (Ok (tt {0})) c.root-at.ensures (c.in_ok-catalogue.ensures.told standing told) c.catalogue_at.ensures.taken (c.in_ok-fill.ensures.fetches standing (c.catalogue_at.ensures.unchanged ∙ told)))

pub fill-requires-clause-clear : goal.fill-requires-clause-clear
fill-requires-clause-clear g c = root_clear c.in_ok-catalogue.catalogue c.in_ok-tree.tree (c.in_ok-catalogue.ensures.place ∙ c.root-at.ensures) c.in_ok-tree.ensures
