-- How a tree is filled by what is reached from a catalogue on.
use Rattle.std.proofs.Common.{◌≡◌, ℕ, ◌+◌, ◌<◌, ◌≤◌, List, length, get_or, Ok, Err, Some, sym, subst, ◌∙◌, arith, inl, inr}
use Rattle.std.specs.Prelude.{Contains}
use Rattle.cv_base.specs.Path.{Path}
use Rattle.cv_base.specs.ObjectId.{object_id}
use Rattle.cv_base.specs.declared.id.Kind.TheVariants as id_kind
use Rattle.cv_base.specs.declared.id.ObjectId.{ObjectId}
use Rattle.cv_ports.specs.Shelf.{Shelf}
use Rattle.cv_tree.specs.Tree.{Nodes}
use Rattle.cv_rows.specs.Catalogue.{Contents, IsCatalogue}
use Rattle.cv_rows.specs.Places.{StandsAt}
use Rattle.cv_rows.specs.declared.row.Row.{Row}
use Rattle.cv_rows.specs.declared.nested.Nested.{Nested}
use Rattle.cv_rows.specs.declared.row_kind.RowKind.TheVariants.{Transition}
use Rattle.cv_rows.proofs.Lemmas.{stands_contained, same_by_key, fits_there}
use Rattle.cv_cut.specs.Reached.{Reaches, Place, ReachesCatalogue, HasCatalogue, root_place}
use Rattle.cv_cut.proofs.Lemmas.{nested_unopened}
use Rattle.cv_cut.specs.declared.load_fault.LoadFault.{LoadFault}
use Rattle.cv_load.specs.Growth.{Grows, GrowsBy}
use Rattle.cv_load.specs.GrowthInner.{HasRows, HasFiles, IsOfRows, IsFilled, FillsFrom, filled}
use Rattle.cv_load.proofs.Growing.{still_there, each_more, each_all}
use Rattle.cv_cut.specs.Good.{HasSize}
use Rattle.cv_cut.specs.Opening.{OpensNested, IsNestedCatalogue}

-- a tree that has grown still has all
pub filled_more : {shelf : Shelf} {t : Nodes} {hash : List ℕ} {place : Place} (u : Nodes) → Grows t u → IsFilled shelf t hash place → IsFilled shelf u hash place
filled_more {t = t} u grows (filled has files sizes there nested) =
    filled has files sizes (λ r q s. still_there t u q grows (there r q s)) (λ n r a b c. filled_more u grows (nested n r a b c))

-- what grew by the rows of a reached catalogue is of rows that are reached
pub of_rows_grown : (shelf : Shelf) (top : List ℕ) (id : ObjectId) (place : Place) (c : Contents) (old new : Nodes) → ReachesCatalogue shelf top id.hash place → HasCatalogue shelf id.hash place c
    → GrowsBy c.at c.rows old new → IsOfRows shelf top old → IsOfRows shelf top new
of_rows_grown shelf top id place c old new reached stands grown before = λ q n e.
    elim (grown.comes q n e) [
      | inl was ↦ before q n was
      | inr came ↦ record { hash = id.hash; place = place; contents = c; reached = reached; has = stands; node_ = came }
    ]

-- the catalogue of a nested entry is there with all that is reached from it on
pub record IsNestedFilled (shelf : Shelf) (c : Contents) (t : Nodes) (n : Nested) : Type 0 where
  pub size : HasSize shelf (object_id n.hash id_kind.Catalogue) n.size
  pub filled : (r : Row) → r.kind ≡ Transition → StandsAt c.at c.rows r n.path → IsFilled shelf t n.hash (record { path = n.path; row = Some r })

-- so are the first of them
pub record FillsSome (shelf : Shelf) (top : List ℕ) (c : Contents) (old new : Nodes) (i : ℕ) : Type 0 where
  pub grows : Grows old new
  pub rows : IsOfRows shelf top new
  pub there : HasRows c new
  pub nested : (k : ℕ) (d : Nested) → k < i → IsNestedFilled shelf c new (get_or c.nested k d)

-- at each place at which the catalogue under the id is reached
abbrev pub FillsSomeFrom : Shelf → ObjectId → Contents → Nodes → Nodes → ℕ → Type 0
FillsSomeFrom shelf id c old new i = (top : List ℕ) (place : Place) → ReachesCatalogue shelf top id.hash place → HasCatalogue shelf id.hash place c → IsOfRows shelf top old → FillsSome shelf top c old new i

pub fills_none : (shelf : Shelf) (id : ObjectId) (c : Contents) (old new : Nodes) → GrowsBy c.at c.rows old new → HasRows c new → FillsSomeFrom shelf id c old new 0
fills_none shelf id c old new grown there = λ top place reached stands before. record {
  grows = grown.grows;
  rows = of_rows_grown shelf top id place c old new reached stands grown before;
  there = there;
  nested = λ k d lt. absurd (omega arith);
}

-- the Transition row of a nested entry is the only one there
pub one_row : (c : Contents) (r s : Row) (q : Path) → IsCatalogue c → StandsAt c.at c.rows r q → StandsAt c.at c.rows s q → r ≡ s
one_row c r s q is one other =
    same_by_key c.rows r s is.ordered (stands_contained one) (stands_contained other)
    ((fits_there c.at c.rows r q is.ordered is.region.placed one).key ∙ sym (fits_there c.at c.rows s q is.ordered is.region.placed other).key)

pub fills_more : (shelf : Shelf) (id : ObjectId) (c below : Contents) (n : Nested) (old t new : Nodes) (i : ℕ) {X : Type 0} (x : X) → IsCatalogue c → i < length c.nested → n ≡ get_or c.nested i n
    → FillsSomeFrom shelf id c old t i → IsNestedCatalogue shelf c n below → FillsFrom shelf (object_id n.hash id_kind.Catalogue) below t new (Ok x) → FillsSomeFrom shelf id c old new (i + 1)
fills_more shelf id c below n old t new i x is inside item some opened h = λ top place reached stands before.
    let s = some top place reached stands before in
    let has : Contains c.nested n = (i, inside, sym item) in
    let deeper = Reaches.nested reached stands has opened.kind_ opened.stands in
    let f = h top (record { path = n.path; row = Some opened.row }) deeper opened.opened s.rows in
    record {
      grows = λ q m e. f.grows q m (s.grows q m e);
      rows = f.rows;
      there = λ r q at. still_there t new q f.grows (s.there r q at);
      nested = each_more (IsNestedFilled shelf c new) c.nested i n
          (λ k d lt. let before = s.nested k d lt in record { size = before.size; filled = λ r kind at. filled_more new f.grows (before.filled r kind at) })
          inside item (record {
            size = opened.size;
            filled = λ r kind at. subst (λ (y : Row). IsFilled shelf new n.hash (record { path = n.path; row = Some y })) (one_row c opened.row r n.path is opened.stands at) f.filled;
          });
    }

pub fills_all : (shelf : Shelf) (id : ObjectId) (c : Contents) (old new : Nodes) (i : ℕ) {X Y : Type 0} (x : X) (y : Y) → length c.nested ≤ i → HasFiles shelf id c (Ok y) → FillsSomeFrom shelf id c old new i
    → FillsFrom shelf id c old new (Ok x)
fills_all shelf id c old new i x y enough files some = λ top place reached stands before.
    let s = some top place reached stands before in
    let nested = each_all (IsNestedFilled shelf c new) c.nested (λ k d lt. s.nested k d (omega (arith, lt, enough))) in
    record {
      grows = s.grows;
      rows = s.rows;
      filled = filled stands files (λ n has. (nested n has).size) s.there (λ n r has kind at. (nested n has).filled r kind at);
    }

-- ---- faults

pub fills_unopened : (shelf : Shelf) (id : ObjectId) (c : Contents) (n : Nested) (old new : Nodes) (X : Type 0) (f : LoadFault) → id.kind ≡ id_kind.Catalogue → Contains c.nested n
    → OpensNested shelf id c n (Err f) → FillsFrom shelf id c old new {X = X} (Err f)
fills_unopened shelf id c n old new X f kind there h = λ top place reached stands before. nested_unopened shelf top root_place id place c n kind reached stands there f h

pub fills_broken : (shelf : Shelf) (id : ObjectId) (c below : Contents) (n : Nested) (old t new : Nodes) (i : ℕ) (X : Type 0) (f : LoadFault) → i < length c.nested → n ≡ get_or c.nested i n
    → FillsSomeFrom shelf id c old t i → IsNestedCatalogue shelf c n below → FillsFrom shelf (object_id n.hash id_kind.Catalogue) below t new {X = X} (Err f) → FillsFrom shelf id c old new {X = X} (Err f)
fills_broken shelf id c below n old t new i X f inside item some opened h = λ top place reached stands before.
    let s = some top place reached stands before in
    let has : Contains c.nested n = (i, inside, sym item) in
    h top (record { path = n.path; row = Some opened.row }) (Reaches.nested reached stands has opened.kind_ opened.stands) opened.opened s.rows
