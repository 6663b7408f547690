-- Files whose contents haven't the sizes that their catalogue states.
use Rattle.std.proofs.Common.{◌≡◌, ◌≢◌, ℕ, List, Some, sym, ap, subst, ◌∙◌}
use Rattle.std.specs.Prelude.{Contains}
use Rattle.cv_base.specs.ObjectId.{object_id}
use Rattle.cv_base.specs.declared.id.ObjectId.{ObjectId}
use Rattle.cv_base.specs.declared.id.Kind.TheVariants as id_kind
use Rattle.cv_ports.specs.Shelf.{Shelf}
use Rattle.cv_rows.specs.Catalogue.{Contents}
use Rattle.cv_rows.specs.declared.row.Row.{Row}
use Rattle.cv_rows.specs.declared.row_kind.RowKind.TheVariants.{File}
use Rattle.cv_cut.specs.Reached.{ReachedFrom, Place, HasCatalogue, ReachesCatalogue, Misstates, root_place, Reached}
use Rattle.cv_cut.specs.Opening.{MayFail}
use Rattle.cv_cut.specs.declared.load_fault.LoadFault.{LoadFault}
use Rattle.cv_cut.specs.declared.load_fault.LoadFault.TheVariants as fault
use Rattle.cv_cut.proofs.Lemmas.{Unsized, misstated, misstating_bad}

-- why the content of a file of a reached catalogue hasn't its size
pub file_unsized : (shelf : Shelf) (id : ObjectId) (c : Contents) (r : Row) (hash : List ℕ) (f : LoadFault) → id.kind ≡ id_kind.Catalogue → Contains c.rows r → r.kind ≡ File → r.hash ≡ Some hash
    → Unsized shelf (object_id hash id_kind.Plain) r.size id f → (top : List ℕ) (place : Place) → ReachesCatalogue shelf top id.hash place → HasCatalogue shelf id.hash place c → MayFail shelf top f
file_unsized shelf id c r hash (fault.Missing x) kind there is content h = λ top place reached has.
    (subst (Reached shelf top) (sym h.0) (ReachedFrom.file reached has there is content), ap shelf h.0 ∙ h.1)
file_unsized shelf id c r hash (fault.Bad x) kind there is content h = λ top place reached has.
    let m = misstated (shelf (object_id hash id_kind.Plain)) r.size h.1 in
    misstating_bad shelf top root_place id x place c kind reached has h.0 (Misstates.file there is content m.1 m.2)
file_unsized shelf id c r hash fault.Failed kind there is content h = λ top place reached has. tt
file_unsized shelf id c r hash (fault.Damaged x found) kind there is content h = absurd h
file_unsized shelf id c r hash fault.NoMemory kind there is content h = λ top place reached has. tt
