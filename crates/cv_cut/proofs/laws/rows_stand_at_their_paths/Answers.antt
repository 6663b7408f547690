use Rattle.cv_tree.specs.Tree.{at}
use Rattle.cv_cut.specs.Catalogues.{rows_of}
use Rattle.cv_cut.proofs.Told.{rows_are}
use Rattle.cv_cut.proofs.Regions.{stands, stands_only}
use Rattle.cv_cut.proofs.RegionRules.{stands_at_cut}
use Rattle.cv_cut.proofs.laws.rows_stand_at_their_paths.Goals as goal

pub returns-clause-each : goal.returns-clause-each
returns-clause-each _ = λ t c tree cut apart r p s.
    let i = stands_only c (at t c) (rows_of c (at t c)) (stands_at_cut t c tree cut).part apart (rows_are c (at t c) apart) s in
    (i.rest, i.node_, i.there, i.row, i.place)

pub returns-clause-all : goal.returns-clause-all
returns-clause-all _ = λ t c tree cut apart. stands c (at t c) (rows_of c (at t c)) (stands_at_cut t c tree cut).part apart (rows_are c (at t c) apart)
