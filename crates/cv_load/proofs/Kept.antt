-- The catalogues of a tree that fits keep their rules.
use Rattle.std.proofs.Common.{◌++◌, IsTrue, sym, ◌∙◌}
use Rattle.cv_base.specs.Path.{Path}
use Rattle.cv_tree.specs.Tree.{Nodes, IsTree, at}
use Rattle.cv_tree.proofs.Laws.{get-at}
use Rattle.cv_cut.proofs.Lemmas.{rows_are, entries_are, stands, stands_at_cut, canonical, region_apart}
use Rattle.cv_cut.specs.Cuts.{is_cut}
use Rattle.cv_cut.specs.Catalogues.{rows_of, cat, Fits}
use Rattle.cv_load.proofs.CutRows.{IsKept}

-- the catalogue of each cut keeps its rules
abbrev pub AreKept : Nodes → Type 0
AreKept t = (c : Path) → IsTrue (is_cut t c) → IsKept c (at t c) (λ d. cat t (c ++ d))

pub kept : (t : Nodes) → IsTree t → Fits t → AreKept t
kept t tree fits = λ c cut.
    let apart = region_apart t c cut fits.apart in
    let here = stands_at_cut t c tree cut in
    let rows = rows_are c (at t c) apart in
    record {
      catalogue = canonical t c tree cut fits;
      rows = rows;
      entries = entries_are c (at t c) (λ d. cat t (c ++ d)) here;
      stands = stands c (at t c) (rows_of c (at t c)) here.part apart rows;
      limits = λ q node is. tree.part.nodes (c ++ q) node (sym (get-at t c q) ∙ is);
    }
