-- Where the rows of a catalogue stand.
use Rattle.std.specs.Prelude.{◌≡◌, ◌≢◌, true, List, [], ◌∷◌, ◌++◌, Contains}
use Rattle.cv_base.specs.Path.{Path, key_of, parent_key_of}
use Rattle.cv_rows.specs.Row.{holds_rows}
use Rattle.cv_rows.specs.declared.row.Row.{Row}
use Rattle.cv_rows.specs.declared.row_kind.RowKind.{RowKind}
use Rattle.cv_rows.specs.declared.row_kind.RowKind.TheVariants.{Directory, NestedRoot}

-- the root row of the catalogue at the root of the repository is a Directory without a name and
-- without a parent; that of another catalogue is a NestedRoot in the directory above, by its name there
abbrev pub root_kind : Path → RowKind
root_kind [] = Directory
root_kind (a ∷ p) = NestedRoot

-- the row has the key, the kind and the parent key of the root row of the catalogue at this place
pub record IsRoot (at : Path) (r : Row) : Type 0 where
  pub key : r.key.0 ≡ key_of at
  pub kind : r.kind ≡ root_kind at
  pub parent : r.parent.0 ≡ parent_key_of at

-- r is no NestedRoot, and has the key of p as its parent key, where p is another row, a Directory or a NestedRoot
pub record IsChild (r p : Row) : Type 0 where
  pub kind : r.kind ≢ NestedRoot
  pub holds : holds_rows p.kind ≡ true
  pub parent : r.parent.0 ≡ p.key.0
  pub other : r.key.0 ≢ p.key.0

-- Where a row stands: the root row at the catalogue's place; another row at the place of its parent
-- with its name. A row that stands nowhere is an orphan.
pub data StandsAt (at : Path) (rows : List Row) : Row → Path → Type 0 where
  root : {r : Row} → Contains rows r → IsRoot at r → StandsAt at rows r at
  below : {r p : Row} {q : Path} → Contains rows r → (IsRoot at r → ⊥) → StandsAt at rows p q → IsChild r p → StandsAt at rows r (q ++ r.name ∷ [])

-- each row of a list stands at the path that another list has in its place
abbrev pub StandEach : Path → List Row → List Row → List Path → Type 0
StandEach at rows [] [] = Unit {0}
StandEach at rows [] (q ∷ qs) = ⊥
StandEach at rows (r ∷ rs) [] = ⊥
StandEach at rows (r ∷ rs) (q ∷ qs) = StandsAt at rows r q × StandEach at rows rs qs
