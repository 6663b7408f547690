use Rattle.std.proofs.Common.{Result, sym, subst}
use Rattle.cv_base.proofs.Laws.{left_by}
use Rattle.cv_tree.specs.Changes.{FitsUnder}
use Rattle.cv_tree.specs.Tree.{Nodes}
use Rattle.cv_overlay.specs.Changes.{ChangesView}
use Rattle.cv_overlay.specs.Walk.{Reads}
use Rattle.cv_overlay.specs.declared.read_fault.ReadFault.{ReadFault}
use Rattle.cv_overlay.proofs.Runs.{fits_first}
use Rattle.cv_overlay.proofs.Walks.{root_place, read_whole, read_first}
use Rattle.cv_overlay.proofs.reading.read_folder.Goals as goal

pub returns-in_err-found-clause-told : goal.returns-in_err-found-clause-told
returns-in_err-found-clause-told g c = λ holds told.
    left_by (λ (r : Result ChangesView ReadFault). Reads c.args.at.now r holds) _ _ c.from_residual-in_err-found.ensures.1
    (read_first holds c.args.at.now c.root.result c.names.result.now c.in_ok-start.start _ c.names.ensures.names c.names.ensures.limits c.root.ensures c.in_ok-start.ensures
    (c.in_err-found.ensures.ordered holds told) (c.in_err-found.ensures.told holds told c.args.at.now (root_place c.args.at.now c.root.result c.root.ensures)))

pub returns-clause-told : goal.returns-clause-told
returns-clause-told g c = λ holds told.
    read_whole holds c.args.at.now c.root.result c.names.result.now c.in_ok-start.start c.in_ok-found.found c.into_changes.result c.names.ensures.names c.names.ensures.limits c.root.ensures c.in_ok-start.ensures
    (c.in_ok-found.ensures.ordered holds told) (c.in_ok-found.ensures.told holds told c.args.at.now (root_place c.args.at.now c.root.result c.root.ensures)) c.into_changes.ensures.nodes c.into_changes.ensures.objects

pub returns-clause-limits : goal.returns-clause-limits
returns-clause-limits g c =
    subst (λ (n : Nodes). FitsUnder c.args.at.now n) (sym c.into_changes.ensures.nodes)
    (c.in_ok-found.ensures.fits c.args.at.now (root_place c.args.at.now c.root.result c.root.ensures) (fits_first c.args.at.now c.in_ok-start.start c.names.ensures.limits c.in_ok-start.ensures))
