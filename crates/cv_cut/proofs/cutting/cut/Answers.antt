use Rattle.std.proofs.Common.{◌∙◌}
use Rattle.cv_cut.proofs.Collisions.{all_cuts, each_apart}
use Rattle.cv_cut.proofs.CutLaws.{tree_fits, root_made}
use Rattle.cv_cut.proofs.cutting.cut.Goals as goal

pub returns-clause-fits : goal.returns-clause-fits
returns-clause-fits c =
    let is = c.deref-3.ensures.value ∙ c.in_ok-cuts.ensures in
    tree_fits c.args.tree.now _ c.in_ok-entries.ensures.tree is (each_apart c.args.tree.now _ c.in_ok-entries.ensures.tree is c.in-Ok.ensures.apart) c.in-Ok.ensures.fits

pub root_entry-requires : goal.root_entry-requires
root_entry-requires c = root_made c.args.tree.now _ _ c.in_ok-entries.ensures.tree (c.deref-3.ensures.value ∙ c.in_ok-cuts.ensures) c.in-Ok.ensures.made

pub catalogues-requires-clause-cuts : goal.catalogues-requires-clause-cuts
catalogues-requires-clause-cuts c = all_cuts c.args.tree.now c.deref-3.result.now (c.deref-3.ensures.value ∙ c.in_ok-cuts.ensures)
