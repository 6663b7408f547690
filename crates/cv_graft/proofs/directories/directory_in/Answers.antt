use Rattle.std.proofs.Common.{◌∙◌, sym, subst}
use Rattle.cv_graft.specs.Directories.{HasDirectory, stands, absent}
use Rattle.cv_graft.proofs.RowsAt.{row_tells, none_tells}
use Rattle.cv_graft.proofs.directories.directory_in.Goals as goal

pub returns-in-Some-clause-tree : goal.returns-in-Some-clause-tree
returns-in-Some-clause-tree c = λ t d r tree fits holds is.
    c.is_directory_kind.ensures ∙ row_tells t c.args.path.now d r c.args.catalogue.now c.in-Some.row.now tree fits holds is (rw c.in-Some.is at c.row_at.ensures.row)

pub returns-in-None-clause-tree : goal.returns-in-None-clause-tree
returns-in-None-clause-tree c = λ t d r tree fits holds is.
    none_tells t c.args.path.now d r c.args.catalogue.now tree fits holds is (rw c.in-None.is at c.row_at.ensures.row)

pub returns-in-Some-clause-row : goal.returns-in-Some-clause-row
returns-in-Some-clause-row c = subst (HasDirectory c.args.catalogue.now c.args.path.now) (sym c.is_directory_kind.ensures) (stands c.in-Some.row.now (rw c.in-Some.is at c.row_at.ensures.row))

pub returns-in-None-clause-row : goal.returns-in-None-clause-row
returns-in-None-clause-row c = absent (rw c.in-None.is at c.row_at.ensures.row)
