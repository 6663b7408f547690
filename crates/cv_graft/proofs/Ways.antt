-- The catalogues on the way to a path stand properly above it, and are reached from the root.
use Rattle.std.proofs.Common.{◌≡◌, ◌≢◌, List, ℕ, true, refl}
use Rattle.cv_base.specs.Path.{Path, covers}
use Rattle.cv_base.specs.declared.id.ObjectId.{ObjectId}
use Rattle.cv_ports.specs.Shelf.{Shelf}
use Rattle.cv_cut.specs.Opening.{MayFail, of_size}
use Rattle.cv_cut.specs.Reached.{Place, Bad, Reaches, itself, root_place}
use Rattle.cv_cut.specs.declared.load_fault.LoadFault.{LoadFault}
use Rattle.cv_cut.specs.declared.load_fault.LoadFault.TheVariants as fault
use Rattle.cv_cut.proofs.Lemmas.{nested_unopened, unopened}
use Rattle.cv_graft.specs.Way.{IsOnWay, IsBadOnWay, BlamesWay, top, next, undecodable, misstates}

pub way_above : (shelf : Shelf) (root : List ℕ) (p : Path) {hash : List ℕ} {place : Place} → IsOnWay shelf root p hash place → (covers place.path p ≡ true) × (p ≢ place.path)
way_above shelf root p (top some) = (refl, some)
way_above shelf root p (next on there n t) = (n.covered, n.apart)

pub way_reached : (shelf : Shelf) (root : List ℕ) (p : Path) {hash : List ℕ} {place : Place} → IsOnWay shelf root p hash place → Reaches shelf root root_place hash place
way_reached shelf root p (top some) = itself
way_reached shelf root p (next on there n t) = Reaches.nested (way_reached shelf root p on) there n.has t.kind t.stands

bad_reached : (shelf : Shelf) (root : List ℕ) (p : Path) (id : ObjectId) → IsBadOnWay shelf root p id → Bad shelf root id
bad_reached shelf root p id (undecodable of u) = unopened shelf root root_place id of.place (fault.Bad id) of.kind (way_reached shelf root p of.on) (refl, u)
bad_reached shelf root p id (misstates {c = c} {n = n} of there n_ h) = nested_unopened shelf root root_place id of.place c n of.kind (way_reached shelf root p of.on) there n_.has (fault.Bad id) (of_size h)

-- so what blames the way is a fault of what the root reaches
pub way_fails : (shelf : Shelf) (root : List ℕ) (p : Path) (f : LoadFault) → BlamesWay shelf root p f → MayFail shelf root f
way_fails shelf root p (fault.Missing id) h = unopened shelf root root_place id h.0.place (fault.Missing id) h.0.kind (way_reached shelf root p h.0.on) (refl, h.1)
way_fails shelf root p (fault.Bad id) h = bad_reached shelf root p id h
way_fails shelf root p fault.Failed h = tt
way_fails shelf root p (fault.Damaged id found) h = unopened shelf root root_place id h.0.place (fault.Damaged id found) h.0.kind (way_reached shelf root p h.0.on) (refl, h.1)
way_fails shelf root p fault.NoMemory h = tt
