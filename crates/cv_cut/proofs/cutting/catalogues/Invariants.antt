use Rattle.cv_cut.proofs.CutLaws.{AreMade}
use Rattle.cv_cut.proofs.cutting.catalogues.Given as goal

abbrev pub invariant-loop-cut : goal.invariant-loop-cut
invariant-loop-cut l = AreMade l.tree l.cuts l.cut-index l.objects.items l.made
