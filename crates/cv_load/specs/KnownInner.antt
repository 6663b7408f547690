-- Known pairs of a catalogue's hash and a path. What only this crate's own functions say.
use Rattle.std.specs.Prelude.{ℕ, List, Result, Ok, Err}
use Rattle.cv_base.specs.Path.{Path}
use Rattle.cv_base.specs.declared.id.ObjectId.{ObjectId}
use Rattle.cv_ports.specs.Shelf.{Shelf}
use Rattle.cv_rows.specs.Catalogue.{Contents}
use Rattle.cv_cut.specs.Reached.{Place, ReachesCatalogue, HasCatalogue}
use Rattle.cv_cut.specs.declared.load_fault.LoadFault.{LoadFault}
use Rattle.cv_cut.specs.Opening.{MayFail}
use Rattle.cv_cut.specs.Good.{IsGood}
use Rattle.cv_load.specs.Known.{AreWhole}

-- the catalogue is good at a place, and all pairs are whole; or there is the cause of a fault
abbrev pub Checked : Shelf → List ℕ → Place → List (ObjectId × Path) → {X : Type 0} → Result X LoadFault → Type 0
Checked shelf hash place pairs (Ok done) = IsGood shelf hash place × AreWhole shelf pairs
Checked shelf hash place pairs (Err f) = (root : List ℕ) → ReachesCatalogue shelf root hash place → MayFail shelf root f

-- the same of the catalogue that stands under an id, at each place where it is
abbrev pub ChecksFrom : Shelf → ObjectId → Contents → List (ObjectId × Path) → List (ObjectId × Path) → {X : Type 0} → Result X LoadFault → Type 0
ChecksFrom shelf id c old new result = (place : Place) → HasCatalogue shelf id.hash place c → AreWhole shelf old → Checked shelf id.hash place new result
