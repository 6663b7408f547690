use Rattle.std.proofs.Common.{sym, ap, ◌∙◌, ◌++◌}
use Rattle.cv_tree.specs.Tree.{Nodes, at, put}
use Rattle.cv_tree.proofs.Laws.{at-at, at-put}
use Rattle.cv_cut.specs.Catalogues.{catalogue_of}
use Rattle.cv_cut.proofs.laws.parts_come.Goals as goal

pub returns : goal.returns
returns _ = λ t s p d. ap (catalogue_of (p ++ d)) (sym (at-at (put t p s) p d) ∙ ap (λ (u : Nodes). at u d) (at-put t p s))
