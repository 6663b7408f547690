use Rattle.std.proofs.Common.{Err, [], reverse, ap, sym, subst}
use Rattle.cv_cut.specs.Cuts.{cuts_of}
use Rattle.cv_cut.specs.declared.tree_cut.Cut.{Cut}
use Rattle.cv_base.specs.Objects.{AreNamed}
use Rattle.cv_graft.specs.Placed.{Places}
use Rattle.cv_graft.specs.declared.graft_fault.GraftFault.{GraftFault}
use Rattle.cv_graft.proofs.PlacedParts.{own_objects}
use Rattle.cv_graft.proofs.PlacedWhole.{whole_made, whole_fault}
use Rattle.cv_graft.proofs.setting.whole_part.Goals as goal

pub returns-in-Ok-clause-placed : goal.returns-in-Ok-clause-placed
returns-in-Ok-clause-placed c = whole_made c.args.part.now c.in_ok-tree.tree c.in-Ok.made c.in_ok-tree.ensures c.in-Ok.ensures.fits c.in-Ok.ensures.made

pub returns-in-Ok-clause-own : goal.returns-in-Ok-clause-own
returns-in-Ok-clause-own c = subst AreNamed (sym (ap (λ (x : Cut). x.catalogues) c.in-Ok.ensures.made)) (own_objects c.in_ok-tree.tree (reverse (cuts_of c.in_ok-tree.tree)))

pub returns-clause-placed : goal.returns-clause-placed
returns-clause-placed c =
    subst (λ (f : GraftFault). Places c.args.part.now [] (Err f)) (sym c.from.ensures)
    (whole_fault c.args.part.now c.in_ok-tree.tree c.in-Err.fault c.in_ok-tree.ensures (λ p q is. c.in-Err.ensures.collision p q (ap Err is)) (λ d is. c.in-Err.ensures.full d (ap Err is)))
