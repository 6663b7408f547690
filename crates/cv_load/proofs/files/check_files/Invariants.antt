use Rattle.std.proofs.Common.{◌≡◌, ℕ, ◌<◌, ◌≤◌, get_or}
use Rattle.cv_base.specs.Told.{WhereTold}
use Rattle.cv_rows.specs.declared.row.Row.{Row}
use Rattle.cv_load.proofs.files.check_files.Given as goal
use Rattle.cv_cut.specs.Good.{HasFile}

abbrev pub invariant-loop-row : goal.invariant-loop-row
invariant-loop-row g l = record {
  files : WhereTold (g.S.Shelf.shelf l.fn.shelf) (λ standing. (k : ℕ) (d : Row) → k < l.row-index → HasFile standing (get_or l.fn.catalogue.rows k d));
  reads : g.S.Shelf.reads l.fn.shelf l.shelf;
  unchanged : g.S.Shelf.shelf l.shelf ≡ g.S.Shelf.shelf l.fn.shelf;
  later : g.S.Shelf.faults l.fn.shelf ≤ g.S.Shelf.faults l.shelf;
  taken : g.S.Shelf.taken l.shelf ≡ g.S.Shelf.taken l.fn.shelf;
}
