use Rattle.std.proofs.Common.{◌≡◌, ◌++◌, List, ℕ, take, drop}
use Rattle.cv_system.specs.Looks.{folders_behind, folders_past}
use Rattle.cv_folder.specs.Noted.{Keeps, NotesOnly, is_noted}
use Rattle.cv_folder.specs.Writes.{IsAbove, Leads, Prepares}
use Rattle.cv_folder.proofs.making.make_folders.Given as goal

abbrev pub invariant-loop-end : goal.invariant-loop-end
invariant-loop-end g l = record {
  kept : Keeps l.fn.notes.items l.notes.items;
  only : NotesOnly (IsAbove l.from l.path) l.fn.notes.items l.notes.items;
  prepared : Prepares l.from l.path (is_noted l.notes.items) (g.S.System.log l.fn.system) (g.S.System.log l.system);
  through : (front : List (List ℕ)) × (front ++ folders_behind (take l.end l.path) (drop l.end l.path) ≡ folders_past l.from l.path)
      × Leads front (g.S.System.log l.fn.system) (g.S.System.log l.system);
}
