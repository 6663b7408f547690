-- The catalogues on the way to a path. What only this crate's own functions say.
use Rattle.std.specs.Prelude.{◌≡◌, ℕ, List, Result, Ok, Err}
use Rattle.cv_base.specs.Path.{Path}
use Rattle.cv_base.specs.declared.id.ObjectId.{ObjectId}
use Rattle.cv_ports.specs.Shelf.{Shelf}
use Rattle.cv_tree.specs.Tree.{Nodes}
use Rattle.cv_rows.specs.Catalogue.{Contents}
use Rattle.cv_cut.specs.Catalogues.{contents_of}
use Rattle.cv_cut.specs.Above.{Holds}
use Rattle.cv_cut.specs.Reached.{Place, HasCatalogue}
use Rattle.cv_cut.specs.Opening.{IsUnread}
use Rattle.cv_cut.specs.declared.load_fault.LoadFault.{LoadFault}
use Rattle.cv_graft.specs.Way.{BlamesWay, IsOfWay, IsOnWay}

-- where a fault is answered by a search from the catalogue c under an id on, it blames the way on which that one is
abbrev pub FailsFrom : Shelf → ObjectId → Contents → Path → {X : Type 0} → Result X LoadFault → Type 0
FailsFrom shelf id c p (Ok x) = Unit {0}
FailsFrom shelf id c p (Err f) = (root : List ℕ) (place : Place) → IsOnWay shelf root p id.hash place → HasCatalogue shelf id.hash place c → BlamesWay shelf root p f

-- the object is a catalogue on the way on which the catalogue c under an id is
abbrev pub IsOfWayOf : Shelf → ObjectId → Contents → Path → ObjectId → Type 0
IsOfWayOf shelf id c p x = (root : List ℕ) (place : Place) → IsOnWay shelf root p id.hash place → HasCatalogue shelf id.hash place c → IsOfWay shelf root p x

-- what a search for the catalogue that directly holds a path answers
abbrev pub Finds : Nodes → Path → Result Contents LoadFault → Type 0
Finds t p (Ok k) = (c : Path) × (r : Path) × Holds t p c r × (k ≡ contents_of t c)
Finds t p (Err f) = IsUnread f
