-- Which directories there are by what stands on a shelf, whether or not the root means a tree. What only this crate's own functions say.
use Rattle.std.specs.Prelude.{ℕ, List, Result, Ok, Err}
use Rattle.cv_base.specs.Path.{Path}
use Rattle.cv_base.specs.declared.id.ObjectId.{ObjectId}
use Rattle.cv_ports.specs.Shelf.{Shelf}
use Rattle.cv_rows.specs.Catalogue.{Contents}
use Rattle.cv_cut.specs.Reached.{Place, HasCatalogue}
use Rattle.cv_cut.specs.declared.load_fault.LoadFault.{LoadFault}
use Rattle.cv_graft.specs.Way.{IsOnWay}
use Rattle.cv_graft.specs.Directories.{IsHolder}

-- where a catalogue is answered by a search from the one under an id on, it is that of the way on which this one is
abbrev pub HoldsFrom : Shelf → ObjectId → Contents → Path → Result Contents LoadFault → Type 0
HoldsFrom shelf id c p (Ok k) = (root : List ℕ) (place : Place) → IsOnWay shelf root p id.hash place → HasCatalogue shelf id.hash place c → IsHolder shelf root p k
HoldsFrom shelf id c p (Err f) = Unit {0}
